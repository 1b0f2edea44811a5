-- The object of each frame is entered by a call, or under construction.
use Rattle.std.proofs.Common.{◌≡◌, ◌≢◌, ℕ, ◌+◌, ◌<◌, true, nat_eq, List, [], ◌∷◌, Option, refl, subst, arith}
use Rattle.std.proofs.lemmas.Bool.{both_ways}
use Rattle.ob_table.specs.Tables.{ClassTable}
use Rattle.ob_silica_steps.specs.Configurations.{SlotCells, How, by_receiver, by_this, by_new, SilicaFrame, Waiting, Configuration}
use Rattle.ob_silica_steps.specs.Here.{self_of}
use Rattle.ob_coherent_spec.specs.Counting.{one_if}
use Rattle.ob_coherent_spec.specs.Runs.{times, entered_at, entered_among, entries, constructing_at, constructing_among, constructions}
use Rattle.ob_coherent_spec.specs.Remaining.{BodyParts}
use Rattle.ob_coherent_spec.specs.Waiting.{is_on_this, IsApart, AllWait}
use Rattle.ob_coherent_spec.specs.Coherent.{Beginning, Holds}
use Rattle.ob_soundness_laws.proofs.frames.Cells.{same_number}

one_of_own : (n : ℕ) → one_if (nat_eq n n) ≡ 1
one_of_own n = rw (same_number n) refl

-- a frame that wasn't entered by a call on `this` counts for its own object
frame_entered : (how : How) (slots : SlotCells) (x y : ℕ) → (how ≡ by_this → 0 < x + y)
    → 0 < entered_at (self_of slots) how slots + x + (constructing_at (self_of slots) how slots + y)
frame_entered by_receiver slots x y below = omega (arith, one_of_own (self_of slots))
frame_entered by_this slots x y below = let more = below refl in omega arith
frame_entered by_new slots x y below = omega (arith, one_of_own (self_of slots))

frame_in_call : (how : How) (slots : SlotCells) (x : ℕ) → how ≢ by_new → (how ≡ by_this → 0 < x)
    → 0 < entered_at (self_of slots) how slots + x
frame_in_call by_receiver slots x made below = omega (arith, one_of_own (self_of slots))
frame_in_call by_this slots x made below = let more = below refl in omega arith
frame_in_call by_new slots x made below = absurd (made refl)

-- The object of a frame above frames that wait is entered or under construction.
pub has_entry : (table : ClassTable) (N : ℕ → Type 0) (c : Configuration) (f : SilicaFrame) (parts : BodyParts)
    (above : List ℕ)
    (tests : ℕ → ℕ) (hs : List Waiting) → AllWait table N c f parts above tests hs
    → 0 < entered_at (self_of f.slots) f.how f.slots + entered_among (self_of f.slots) hs
    + (constructing_at (self_of f.slots) f.how f.slots + constructing_among (self_of f.slots) hs)
has_entry table N c f parts above tests [] w = frame_entered f.how f.slots 0 0
    (λ e. absurd (let t : is_on_this f.how ≡ true = rw e refl in both_ways _ w t))
has_entry table N c f parts above tests (h ∷ hs) w = frame_entered f.how f.slots _ _ (λ e.
    let same : self_of h.frame.slots ≡ self_of f.slots =
    subst (λ how. IsApart how (self_of h.frame.slots) above (self_of f.slots)) e w.0.apart in
    subst (λ n. 0 < entered_at n h.frame.how h.frame.slots + entered_among n hs
    + (constructing_at n h.frame.how h.frame.slots + constructing_among n hs)) same
    (has_entry table N c h.frame w.0.parts _ _ hs w.1))

-- That of a frame that isn't a constructor's is entered.
pub is_entered : (table : ClassTable) (N : ℕ → Type 0) (c : Configuration) (f : SilicaFrame) (parts : BodyParts)
    (above : List ℕ)
    (tests : ℕ → ℕ) (hs : List Waiting) → f.how ≢ by_new → AllWait table N c f parts above tests hs
    → 0 < entered_at (self_of f.slots) f.how f.slots + entered_among (self_of f.slots) hs
is_entered table N c f parts above tests [] made w = frame_in_call f.how f.slots 0 made
    (λ e. absurd (let t : is_on_this f.how ≡ true = rw e refl in both_ways _ w t))
is_entered table N c f parts above tests (h ∷ hs) made w = frame_in_call f.how f.slots _ made (λ e.
    let same : self_of h.frame.slots ≡ self_of f.slots =
    subst (λ how. IsApart how (self_of h.frame.slots) above (self_of f.slots)) e w.0.apart in
    subst (λ n. 0 < entered_at n h.frame.how h.frame.slots + entered_among n hs) same
    (is_entered table N c h.frame w.0.parts _ _ hs (w.0.no_constructor e) w.1))

-- Of a configuration.

-- the object of the innermost frame is entered or under construction
pub innermost_has_entry : (table : ClassTable) (entry : Option ℕ) (beginning : Beginning) (c : Configuration)
    → Holds table entry beginning c → 0 < entries (self_of c.frame.slots) c + constructions (self_of c.frame.slots) c
innermost_has_entry table entry beginning c k = has_entry table _ c c.frame k.parts _ _ c.stack k.waiting

-- that of a frame that isn't a constructor's has a transaction in progress
pub innermost_in_progress : (table : ClassTable) (entry : Option ℕ) (beginning : Beginning) (c : Configuration)
    → Holds table entry beginning c → c.frame.how ≢ by_new → 0 < times (self_of c.frame.slots) c.world.progress
innermost_in_progress table entry beginning c k made =
    let entered = is_entered table _ c c.frame k.parts _ _ c.stack made k.waiting in
    let same = k.progress (self_of c.frame.slots) in omega arith

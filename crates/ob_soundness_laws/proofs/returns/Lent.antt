-- What a place gets back that was lent: who owns what, and that it stands.
use Rattle.std.proofs.Common.{◌≡◌, ◌≢◌, ℕ, ◌+◌, ◌<◌, ◌≤◌, ◌⊎◌, inl, inr, ⊎_elim, true, false, List, [], ◌∷◌, length, Option, Some, refl, sym, ap, ◌∙◌, subst, arith}
use Rattle.std.proofs.lemmas.Bool.{cases_lt}
use Rattle.std.proofs.lemmas.Bool.Decides.{eqb_tells}
use Rattle.ob_perm.specs.States.{States, states_max}
use Rattle.ob_perm.specs.Permissions.{Permission, owned, shared, unowned, owns}
use Rattle.ob_table.specs.Tables.{ClassTable}
use Rattle.ob_table.specs.declared.seen.Kind.{Kind}
use Rattle.ob_table.specs.declared.seen.Kind.TheVariants.{Int, Bool as BoolKind, Text, Reference}
use Rattle.ob_table_spec.specs.Conditions.{IsClassTable}
use Rattle.ob_table_spec.specs.WellFormed.{serves_as}
use Rattle.ob_heap_spec.specs.Values.{Value, int_value, bool_value, text_value, reference}
use Rattle.ob_heap_spec.specs.Objects.{Object, state_number}
use Rattle.ob_heap_spec.specs.Worlds.{World}
use Rattle.ob_silica_steps.specs.Cells.{Cell, noted}
use Rattle.ob_silica_steps.specs.Configurations.{How, by_receiver, by_this, by_new, SilicaFrame, Waiting, Notes, Configuration}
use Rattle.ob_silica_steps.specs.Here.{self_of}
use Rattle.ob_flow_spec.specs.Joining.{same_mode}
use Rattle.ob_places_laws.specs.Serving.{AreAmong}
use Rattle.ob_coherent_spec.specs.Counting.{nth_object, in_cell}
use Rattle.ob_coherent_spec.specs.Runs.{entered_at, entered_among, entries, constructing_at, constructing_among, constructions}
use Rattle.ob_coherent_spec.specs.Standing.{IsOfKind, RefersToShared, is_in, RefersToIn, Stands, NeedsOwner, HasItsState}
use Rattle.ob_coherent_spec.specs.Remaining.{BodyParts}
use Rattle.ob_coherent_spec.specs.Waiting.{tests_of, is_on_this, IsApart, Serves, AllWait}
use Rattle.ob_coherent_spec.specs.Coherent.{Beginning, LeavesWith}
use Rattle.ob_soundness_laws.proofs.counting.Cells.{shared_none, cell_alike, cell_noted_none}
use Rattle.ob_soundness_laws.proofs.counting.Frames.{entered_by, entered_other, constructing_other, constructing_here}
use Rattle.ob_soundness_laws.proofs.places.Getting.{seen_small}
use Rattle.ob_soundness_laws.proofs.returns.Returned.{back_to, Returned}

on_this : (how : How) → (how ≡ by_this) ⊎ (is_on_this how ≡ false)
on_this by_this = inl refl
on_this by_receiver = inr refl
on_this by_new = inr refl

is_new : (how : How) → (how ≡ by_new) ⊎ (how ≢ by_new)
is_new by_new = inl refl
is_new by_receiver = inr (λ e. cc)
is_new by_this = inr (λ e. cc)

-- States of objects.

-- the object of a frame that was entered is in one of its states, unless it is under construction
placed_among : (table : ClassTable) (N : ℕ → Type 0) (c : Configuration) (n : ℕ) (callee : SilicaFrame)
    (called : BodyParts) (above : List ℕ)
    (tests : ℕ → ℕ) (hs : List Waiting) → constructing_among n hs ≡ 0
    → (self_of callee.slots ≡ n → HasItsState table (nth_object c.world.objects n)) → AllWait table N c callee called
    above tests hs
    → 0 < entered_among n hs → HasItsState table (nth_object c.world.objects n)
placed_among table N c n callee called above tests [] none own w has = absurd (omega arith)
placed_among table N c n callee called above tests (h ∷ hs) none own (w, ws) has = ⊎_elim
    (λ this. mine (entered_by n h.frame.how h.frame.slots this).1)
    (λ rest. placed_among table N c n h.frame w.parts (self_of h.frame.slots ∷ above) (λ m. tests_of m h.frame.slots
    h.outer + tests m) hs
    (omega arith) mine ws (omega arith))
    (cases_lt 0 (entered_at n h.frame.how h.frame.slots))
  where
    mine : self_of h.frame.slots ≡ n → HasItsState table (nth_object c.world.objects n)
    mine same = ⊎_elim
        (λ e. own (sym (subst (λ how. IsApart how (self_of h.frame.slots) above (self_of callee.slots)) e w.apart)
        ∙ same))
        (λ other. ⊎_elim
        (λ new. absurd (let one = constructing_here n h.frame.how h.frame.slots new same in omega arith))
        (λ old. subst (λ m. HasItsState table (nth_object c.world.objects m)) same (w.placed other old))
        (is_new h.frame.how))
        (on_this callee.how)

-- an object that no frame below constructs is in one of its states, where a frame returns
pub state_of : (table : ClassTable) (entry : Option ℕ) (beginning : Beginning) (f : SilicaFrame) (result : Option Cell)
    (h : Waiting) (hs : List Waiting) (notes : Notes) (w : World) → Returned table entry beginning f result h hs notes w
    → (n : ℕ) → n < length w.objects → constructing_among n (h ∷ hs) ≡ 0 → HasItsState table (nth_object w.objects n)
state_of table entry beginning f result h hs notes w k n below none = ⊎_elim
    (λ e. subst (λ m. HasItsState table (nth_object w.objects m)) (sym e.1) k.placed)
    (λ ne. ⊎_elim
    (λ has. placed_among table (NeedsOwner table w.objects) (back_to f result h hs notes w) n f k.whole.parts _ _
    (h ∷ hs) none
    (λ e. absurd (ne.1 (sym e))) k.whole.waiting has)
    (λ no. (k.whole.declared n below
    (let a = entered_other n f.how f.slots (λ e. ne.1 (sym e)) in
    let b : entries n (back_to f result h hs notes w) ≡ entered_at n f.how f.slots + entered_among n (h ∷ hs) = refl in
    omega arith)
    (let a = constructing_other n f.how f.slots (λ e. ne.1 (sym e)) in
    let b : constructions n (back_to f result h hs notes w) ≡ constructing_at n f.how f.slots + constructing_among n
    (h ∷ hs) = refl in omega arith)).placed)
    (cases_lt 0 (entered_among n (h ∷ hs))))
    (eqb_tells n (self_of f.slots))

-- Permissions.

-- what an exit says is held in the same way by the callee and by the place that gets it back
module _ (N : ℕ → Type 0) (n : ℕ) (x y : Cell) (q : Permission) (same : y.value ≡ x.value) where
  pub back_owners : (p : Permission) → same_mode p q ≡ true → LeavesWith N p y → in_cell owns n (Some (noted q x)) ≤
      in_cell owns n (Some y)
  back_owners (owned a) mode left = by_owner q mode
    where
      by_owner : (q : Permission) → same_mode (owned a) q ≡ true → in_cell owns n (Some (noted q x)) ≤ in_cell owns n
          (Some y)
      by_owner (owned b) mode = let e = cell_alike owns n (noted (owned b) x) y (sym same) (sym (ap owns left.1)) in
          omega (arith, e)
      by_owner shared mode = absurd (cc)
      by_owner unowned mode = absurd (cc)
  back_owners shared mode left = by_owner q mode
    where
      by_owner : (q : Permission) → same_mode shared q ≡ true → in_cell owns n (Some (noted q x)) ≤ in_cell owns n
          (Some y)
      by_owner (owned b) mode = absurd (cc)
      by_owner shared mode = let e = cell_noted_none owns n shared x refl in omega (arith, e)
      by_owner unowned mode = absurd (cc)
  back_owners unowned mode left = by_owner q mode
    where
      by_owner : (q : Permission) → same_mode unowned q ≡ true → in_cell owns n (Some (noted q x)) ≤ in_cell owns n
          (Some y)
      by_owner (owned b) mode = absurd (cc)
      by_owner shared mode = absurd (cc)
      by_owner unowned mode = let e = cell_noted_none owns n unowned x refl in omega (arith, e)

  -- and an object that must have an owner keeps it
  pub back_kept : (p : Permission) → same_mode p q ≡ true → LeavesWith N p y → N n → in_cell owns n (Some y) ≤ in_cell
      owns n (Some (noted q x))
  back_kept (owned a) mode left needs = by_owner q mode
    where
      by_owner : (q : Permission) → same_mode (owned a) q ≡ true → in_cell owns n (Some y) ≤ in_cell owns n
          (Some (noted q x))
      by_owner (owned b) mode = let e = cell_alike owns n (noted (owned b) x) y (sym same) (sym (ap owns left.1)) in
          omega (arith, e)
      by_owner shared mode = absurd (cc)
      by_owner unowned mode = absurd (cc)
  back_kept shared mode left needs = let e = shared_none n y left in omega (arith, e)
  back_kept unowned mode left needs = let e = left n needs in omega (arith, e)

-- what it gets back as Shared is Shared in the callee
pub back_shared : (N : ℕ → Type 0) (y : Cell) (q p : Permission) → q ≡ shared → same_mode p q ≡ true → LeavesWith N p y
    → y.note.permission ≡ shared
back_shared N y q (owned a) e mode left = absurd (let z : same_mode (owned a) shared ≡ true = ap (same_mode (owned a))
    (sym e) ∙ mode in cc)
back_shared N y q shared e mode left = left
back_shared N y q unowned e mode left = absurd (let z : same_mode unowned shared ≡ true = ap (same_mode unowned) (sym e)
    ∙ mode in cc)

-- and as an owner is owned there
pub back_owned : (N : ℕ → Type 0) (y : Cell) (q p : Permission) (b : States) → q ≡ owned b → same_mode p q ≡ true
    → LeavesWith N p y
    → (a : States) × (p ≡ owned a) × (d : States) × (y.note.permission ≡ owned d) × AreAmong d a
back_owned N y q (owned a) b e mode left = (a, refl, left.0, left.1, left.2)
back_owned N y q shared b e mode left = absurd (let z : same_mode shared (owned b) ≡ true = ap (same_mode shared)
    (sym e) ∙ mode in cc)
back_owned N y q unowned b e mode left = absurd (let z : same_mode unowned (owned b) ≡ true = ap (same_mode unowned)
    (sym e) ∙ mode in cc)

-- What is lent stands where it is given back.

module _ (table : ClassTable) (t : IsClassTable table) (objects : List Object) (x y : Cell) (kind : Kind)
    (p q : Permission)
    (same : y.value ≡ x.value) (y_kind : y.note.kind ≡ kind) (s : Serves table kind p x.note.kind q)
    (left : LeavesWith (NeedsOwner table objects) p y) (stands_x : Stands table objects x) (stands_y : Stands table
    objects y)
    (low : (n : ℕ) → n < length objects → state_number (nth_object objects n).state < states_max)
    (state : (n : ℕ) → x.value ≡ reference n → n < length objects → HasItsState table (nth_object objects n)) where
  of_kind : (k : Kind) (n : ℕ) → IsOfKind table objects k (reference n) → (n < length objects) × (serves_as table k
      (Reference (nth_object objects n).contract) ≡ true)
  of_kind (Reference id) n h = (h.0, h.1)
  of_kind Int n h = absurd h
  of_kind BoolKind n h = absurd h
  of_kind Text n h = absurd h

  among_in : (k : Kind) (d a : States) (n : ℕ) → AreAmong d a → IsOfKind table objects k (reference n) → is_in table k d
      (nth_object objects n) ≡ true
      → is_in table k a (nth_object objects n) ≡ true
  among_in (Reference id) d a n among h e = among _ (seen_small table t (nth_object objects n) id h.1 (low n h.0)) e
  among_in Int d a n among h e = absurd h
  among_in BoolKind d a n among h e = absurd h
  among_in Text d a n among h e = absurd h

  in_states : (v : Value) (b : States) → y.value ≡ v → x.value ≡ v → q ≡ owned b → RefersToIn table objects x.note.kind
      b v
  in_states (reference n) b ye xe e =
      let o = back_owned (NeedsOwner table objects) y q p b e s.mode left in
      let is_y : IsOfKind table objects y.note.kind (reference n) = subst (IsOfKind table objects y.note.kind) ye
      stands_y.kind in
      let is_x : IsOfKind table objects x.note.kind (reference n) = subst (IsOfKind table objects x.note.kind) xe
      stands_x.kind in
      let was : is_in table y.note.kind o.2 (nth_object objects n) ≡ true = subst (RefersToIn table objects y.note.kind
      o.2) ye (stands_y.states o.2 o.3) in
      let wide : is_in table y.note.kind o.0 (nth_object objects n) ≡ true = among_in y.note.kind o.2 o.0 n o.4 is_y was
      in
      s.states o.0 b (nth_object objects n) o.1 e (state n xe (of_kind x.note.kind n is_x).0)
      (subst (λ k. serves_as table k (Reference (nth_object objects n).contract) ≡ true) y_kind (of_kind y.note.kind n
      is_y).1)
      (of_kind x.note.kind n is_x).1
      (subst (λ k. is_in table k o.0 (nth_object objects n) ≡ true) y_kind wide)
  in_states (int_value z) b ye xe e = let o = back_owned (NeedsOwner table objects) y q p b e s.mode left in absurd
      (subst (RefersToIn table objects y.note.kind o.2) ye (stands_y.states o.2 o.3))
  in_states (bool_value z) b ye xe e = let o = back_owned (NeedsOwner table objects) y q p b e s.mode left in absurd
      (subst (RefersToIn table objects y.note.kind o.2) ye (stands_y.states o.2 o.3))
  in_states (text_value z) b ye xe e = let o = back_owned (NeedsOwner table objects) y q p b e s.mode left in absurd
      (subst (RefersToIn table objects y.note.kind o.2) ye (stands_y.states o.2 o.3))

  pub back_stands : Stands table objects (noted q x)
  back_stands = record {
    kind = stands_x.kind;
    marked = λ e. subst (RefersToShared objects) same (stands_y.marked (back_shared (NeedsOwner table objects) y q p e
        s.mode left));
    states = λ b e. in_states x.value b same refl e;
  }

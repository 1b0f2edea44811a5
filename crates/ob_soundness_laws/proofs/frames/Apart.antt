-- The objects of frames that wait, apart from one that is entered or left.
use Rattle.std.proofs.Common.{◌≡◌, ◌≢◌, ℕ, ◌+◌, ◌<◌, inr, ⊎_elim, List, [], ◌∷◌, sym, ◌∙◌, subst, arith}
use Rattle.ob_table.specs.Tables.{ClassTable}
use Rattle.ob_silica_steps.specs.Configurations.{by_this, SilicaFrame, Waiting, Configuration}
use Rattle.ob_silica_steps.specs.Here.{self_of}
use Rattle.ob_coherent_spec.specs.Runs.{entered_at, entered_among, constructing_at, constructing_among}
use Rattle.ob_coherent_spec.specs.Remaining.{BodyParts}
use Rattle.ob_coherent_spec.specs.Waiting.{IsApart, AllWait}
use Rattle.ob_soundness_laws.proofs.frames.Near.{IsAmong, EachSelf, on_this, others}
use Rattle.ob_soundness_laws.proofs.frames.Entered.{has_entry}

-- Where a frame above isn't linked to them by calls on `this`, no frame that waits has its object.
pub apart_from_above : (table : ClassTable) (N : ℕ → Type 0) (c : Configuration) (f : SilicaFrame) (parts : BodyParts)
    (above : List ℕ) (tests : ℕ → ℕ) (hs : List Waiting) (i : ℕ) → IsAmong i above
    → (f.how ≡ by_this → self_of f.slots ≢ i)
    → AllWait table N c f parts above tests hs → EachSelf (λ n. n ≢ i) hs
apart_from_above table N c f parts above tests [] i inside ne w = tt
apart_from_above table N c f parts above tests (h ∷ hs) i inside ne (w, ws) = (
  here,
  apart_from_above table N c h.frame w.parts _ _ hs i (inr inside) (λ e. here) ws,
)
  where
    here : self_of h.frame.slots ≢ i
    here = ⊎_elim
        (λ e. let same : self_of h.frame.slots ≡ self_of f.slots =
        subst (λ how. IsApart how (self_of h.frame.slots) above (self_of f.slots)) e w.apart in
        λ z. ne e (sym same ∙ z))
        (λ other. others f.how _ _ i above w.apart inside other)
        (on_this f.how)

self_apart : (table : ClassTable) (N : ℕ → Type 0) (c : Configuration) (f : SilicaFrame) (parts : BodyParts)
    (above : List ℕ) (tests : ℕ → ℕ) (hs : List Waiting) (n : ℕ)
    → entered_at n f.how f.slots + entered_among n hs + (constructing_at n f.how f.slots + constructing_among n hs) ≡ 0
    → AllWait table N c f parts above tests hs → self_of f.slots ≢ n
self_apart table N c f parts above tests hs n none w = λ e.
    let has : 0 < entered_at n f.how f.slots + entered_among n hs +
    (constructing_at n f.how f.slots + constructing_among n hs) =
    subst (λ m. 0 < entered_at m f.how f.slots + entered_among m hs +
    (constructing_at m f.how f.slots + constructing_among m hs)) e
    (has_entry table N c f parts above tests hs w) in
    omega arith

-- No frame has an object that is neither entered nor under construction.
pub apart_from_idle : (table : ClassTable) (N : ℕ → Type 0) (c : Configuration) (f : SilicaFrame) (parts : BodyParts)
    (above : List ℕ) (tests : ℕ → ℕ) (hs : List Waiting) (n : ℕ)
    → entered_at n f.how f.slots + entered_among n hs + (constructing_at n f.how f.slots + constructing_among n hs) ≡ 0
    → AllWait table N c f parts above tests hs → (self_of f.slots ≢ n) × EachSelf (λ m. m ≢ n) hs
apart_from_idle table N c f parts above tests [] n none w = (self_apart table N c f parts above tests [] n none w, tt)
apart_from_idle table N c f parts above tests (h ∷ hs) n none w =
    let rest : (self_of h.frame.slots ≢ n) × EachSelf (λ m. m ≢ n) hs =
    apart_from_idle table N c h.frame w.0.parts _ _ hs n (omega arith) w.1 in
    (self_apart table N c f parts above tests (h ∷ hs) n none w, rest)

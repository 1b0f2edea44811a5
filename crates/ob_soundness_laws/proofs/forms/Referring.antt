-- An object under construction is referred to by the slot of `this` of its own frame alone.
use Rattle.std.proofs.Common.{◌≡◌, ◌≢◌, ℕ, ◌<◌, ◌≤◌, ⊎_elim, List, [], ◌∷◌, Option, Some, refl, sym, ap, ◌∙◌, subst, arith}
use Rattle.ob_base.specs.Limits.{most_slots}
use Rattle.ob_heap_spec.specs.Values.{reference}
use Rattle.ob_heap_spec.specs.Objects.{Object}
use Rattle.ob_silica_places.specs.Places.{Location, slot, field, this}
use Rattle.ob_silica_steps.specs.Cells.{Cell}
use Rattle.ob_silica_steps.specs.Configurations.{SilicaFrame, by_new, Waiting, Configuration}
use Rattle.ob_silica_steps.specs.Here.{here, self_of}
use Rattle.ob_table.specs.Tables.{ClassTable}
use Rattle.ob_table_spec.specs.Conditions.{IsClassTable}
use Rattle.ob_coherent_spec.specs.Counting.{any, in_cell, in_waiting, in_all}
use Rattle.ob_coherent_spec.specs.Runs.{constructing_at, constructing_among, constructions}
use Rattle.ob_coherent_spec.specs.Remaining.{BodyParts, body_of, IsPlaceIn}
use Rattle.ob_coherent_spec.specs.Waiting.{IsFrame, AllWait}
use Rattle.ob_coherent_spec.specs.Coherent.{Beginning, IsRunning}
use Rattle.ob_soundness_laws.proofs.counting.Cells.{cell_counted}
use Rattle.ob_soundness_laws.proofs.counting.Frames.{constructing_by}
use Rattle.ob_soundness_laws.proofs.counting.Low.{place_low}
use Rattle.ob_soundness_laws.proofs.counting.Places.{in_slot, in_two_slots, in_field_of}
use Rattle.ob_soundness_laws.proofs.counting.Whole.{place_and_waiting}
use Rattle.ob_soundness_laws.proofs.counting.Writing.{IsLow}
use Rattle.ob_soundness_laws.specs.places.Placed.{cell_at}
use Rattle.ob_soundness_laws.proofs.forms.Slots.{some_or_none}

-- the slot of `this` refers to the frame's object
this_counts : (table : ClassTable) (objects : List Object) (f : SilicaFrame) (parts : BodyParts)
    → IsFrame table objects f parts
    → (n : ℕ) → self_of f.slots ≡ n → in_cell any n (f.slots 0) ≡ 1
this_counts table objects f parts k n e = subst (λ x. in_cell any n x ≡ 1) (sym k.set)
    (cell_counted any n k.this refl (k.refers ∙ ap reference e))

this_low : (table : ClassTable) (objects : List Object) (f : SilicaFrame) (parts : BodyParts)
    → IsFrame table objects f parts → 0 < most_slots
this_low table objects f parts k = let a = k.params in let b = k.few in omega (arith, a, b)

-- a frame that waits and constructs an object refers to it
waiting_refers : (table : ClassTable) (N : ℕ → Type 0) (c : Configuration) (f : SilicaFrame) (parts : BodyParts)
    (above : List ℕ)
    (tests : ℕ → ℕ) (hs : List Waiting) (n : ℕ) → AllWait table N c f parts above tests hs
    → 0 < constructing_among n hs → 0 < in_waiting any n hs
waiting_refers table N c f parts above tests [] n w has = absurd (omega (arith, has))
waiting_refers table N c f parts above tests (h ∷ hs) n w has = ⊎_elim
    (λ here. let by = constructing_by n h.frame.how h.frame.slots here in
    let one = this_counts table c.world.objects h.frame w.0.parts w.0.frame n by.1 in
    let in_it = in_slot any n h.frame.slots 0 (this_low table c.world.objects h.frame w.0.parts w.0.frame) in
    omega (arith, one, in_it))
    (λ none. let more = waiting_refers table N c h.frame w.0.parts _ _ hs n w.1 (omega (arith, has, none)) in
    omega (arith, more))
    (some_or_none (constructing_at n h.frame.how h.frame.slots))

-- No other place of the innermost frame does.
pub made_unreferred : (table : ClassTable) → IsClassTable table
    → (entry : Option ℕ) (beginning : Beginning) (c : Configuration)
    (k : IsRunning table entry beginning c) (p : Location) → IsPlaceIn (body_of table c.frame k.whole.parts) p
    → (c.frame.how ≡ by_new → p ≢ this) → (x : Cell) → cell_at (here c) p ≡ Some x → (n : ℕ) → 0 < constructions n c
    → x.value ≢ reference n
made_unreferred table t entry beginning c k p inside other x e n has is =
    let most = k.unreferred n has in
    let counted : in_cell any n (cell_at (here c) p) ≡ 1 =
    subst (λ y. in_cell any n y ≡ 1) (sym e) (cell_counted any n x refl is) in
    ⊎_elim
    (λ own. let by = constructing_by n c.frame.how c.frame.slots own in
    let first = this_counts table c.world.objects c.frame k.whole.parts k.whole.frame n by.1 in
    let both = two p (place_low table t c.world.objects c.frame k.whole.parts k.whole.frame p inside)
    (other by.0) counted first in
    omega (arith, both, most))
    (λ none. let waits = waiting_refers table _ c c.frame k.whole.parts _ _ c.stack n k.whole.waiting
    (omega (arith, has, none)) in
    let both = place_and_waiting any n c p (place_low table t c.world.objects c.frame k.whole.parts k.whole.frame p
    inside) in
    omega (arith, counted, waits, both, most))
    (some_or_none (constructing_at n c.frame.how c.frame.slots))
  where
    two : (q : Location) → IsLow q → q ≢ this → in_cell any n (cell_at (here c) q) ≡ 1
        → in_cell any n (c.frame.slots 0) ≡ 1 → 2 ≤ in_all any n c
    two (slot j) low ne a b = let r = in_two_slots any n c.frame.slots 0 j
        (this_low table c.world.objects c.frame k.whole.parts k.whole.frame) low
        (λ z. ne (ap slot (sym z))) in omega (arith, r, a, b)
    two (field j) low ne a b =
        let r = in_field_of any n c.notes c.world.objects (self_of c.frame.slots) j low in
        let s = in_slot any n c.frame.slots 0 (this_low table c.world.objects c.frame k.whole.parts k.whole.frame) in
        omega (arith, r, s, a, b)

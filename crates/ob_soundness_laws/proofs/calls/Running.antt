-- What a configuration that runs tells where a call begins to bind.
use Rattle.std.proofs.Common.{◌≡◌, ◌≢◌, ℕ, zero, suc, ◌+◌, ◌<◌, ◌≤◌, true, false, List, [], ◌∷◌, length, Option, Some, refl, sym, ap, subst, ◌∙◌, arith, ⊎_elim, ◌⊎◌, inl, inr, eq-eqb}
use Rattle.std.proofs.lemmas.Bool.{both_ways}
use Rattle.ob_base.specs.Limits.{most_slots}
use Rattle.ob_perm.specs.Permissions.{shared, owns}
use Rattle.ob_table.specs.Tables.{ClassTable}
use Rattle.ob_table_spec.specs.Conditions.{IsClassTable}
use Rattle.ob_heap_spec.specs.Values.{reference}
use Rattle.ob_heap_spec.specs.Objects.{Object}
use Rattle.ob_silica_places.specs.Places.{Location, slot, field, this, same_location}
use Rattle.ob_silica_steps.specs.Cells.{Cell}
use Rattle.ob_silica_steps.specs.Configurations.{SlotCells, How, by_receiver, by_this, by_new, SilicaFrame, Waiting, Configuration}
use Rattle.ob_silica_steps.specs.Here.{here, self_of}
use Rattle.ob_silica_steps.specs.Binding.{unbound}
use Rattle.ob_flow_spec.specs.Contexts.{constructs}
use Rattle.ob_places_laws.proofs.Tables.{contract_is}
use Rattle.ob_coherent_spec.specs.Counting.{fields_counted, any, nth_object, in_cell, in_waiting, in_control, owners, references}
use Rattle.ob_coherent_spec.specs.Runs.{entered_at, entered_among, entries, constructing_at, constructing_among, constructions}
use Rattle.ob_coherent_spec.specs.Standing.{HasItsState}
use Rattle.ob_coherent_spec.specs.Remaining.{BodyParts, body_of, IsPlaceIn}
use Rattle.ob_coherent_spec.specs.Waiting.{IsFrame, is_on_this, IsApart, AllWait}
use Rattle.ob_coherent_spec.specs.Coherent.{Beginning, IsRunning}
use Rattle.ob_soundness_laws.proofs.counting.Cells.{cell_counted}
use Rattle.ob_soundness_laws.proofs.counting.Numbers.{one_of}
use Rattle.ob_soundness_laws.proofs.counting.Places.{few_fields, in_slot, in_two_slots, in_field_of}
use Rattle.ob_soundness_laws.proofs.counting.Entering.{some_slots, nothing_counts}
use Rattle.ob_soundness_laws.specs.places.Placed.{cell_at, Sits}
use Rattle.ob_soundness_laws.proofs.places.Writing.{stays_itself}
use Rattle.ob_soundness_laws.specs.calls.Binds.{in_frame, in_rest, Binds}
use Rattle.std.proofs.lemmas.Option.{same_Some}

-- A frame that is entered or under construction.

entered_is : (n : ℕ) (how : How) (slots : SlotCells) → 0 < entered_at n how slots → (how ≡ by_receiver)
    × (self_of slots ≡ n)
entered_is n by_receiver slots some = (refl, one_of (self_of slots) n some)
entered_is n by_this slots some = absurd (omega arith)
entered_is n by_new slots some = absurd (omega arith)

constructing_is : (n : ℕ) (how : How) (slots : SlotCells) → 0 < constructing_at n how slots → (how ≡ by_new)
    × (self_of slots ≡ n)
constructing_is n by_new slots some = (refl, one_of (self_of slots) n some)
constructing_is n by_this slots some = absurd (omega arith)
constructing_is n by_receiver slots some = absurd (omega arith)

on_this_or_not : (how : How) → (how ≡ by_this) ⊎ (is_on_this how ≡ false)
on_this_or_not by_this = inl refl
on_this_or_not by_receiver = inr refl
on_this_or_not by_new = inr refl

same_apart : (how : How) (n m : ℕ) (above : List ℕ) → how ≡ by_this → IsApart how n above m → n ≡ m
same_apart how n m above e a = subst (λ x. IsApart x n above m) e a

pub zero_or_more : (n : ℕ) → (n ≡ 0) ⊎ (0 < n)
zero_or_more zero = inl refl
zero_or_more (suc n) = inr (omega arith)

-- the object of an entered frame among those that wait is in one of its states
placed_among : (table : ClassTable) (N : ℕ → Type 0) (c : Configuration) (callee : SilicaFrame) (called : BodyParts)
    (above : List ℕ) (tests : ℕ → ℕ) (hs : List Waiting)
    → (callee.how ≢ by_new → HasItsState table (nth_object c.world.objects (self_of callee.slots)))
    → AllWait table N c callee called above tests hs → (n : ℕ) → 0 < entered_among n hs
    → HasItsState table (nth_object c.world.objects n)
placed_among table N c callee called above tests [] placed waits n some = absurd (omega arith)
placed_among table N c callee called above tests (h ∷ hs) placed (w, ws) n some =
    ⊎_elim
    (λ none. placed_among table N c h.frame w.parts (self_of h.frame.slots ∷ above) _ hs below ws n
    (omega (arith, some, none)))
    (λ more. let r = entered_is n h.frame.how h.frame.slots more in
    subst (λ m. HasItsState table (nth_object c.world.objects m)) r.1
    (below (λ e. (let z : by_receiver ≡ by_new = sym r.0 ∙ e in cc))))
    (zero_or_more (entered_at n h.frame.how h.frame.slots))
  where
    below : h.frame.how ≢ by_new → HasItsState table (nth_object c.world.objects (self_of h.frame.slots))
    below other = ⊎_elim
        (λ same. subst (λ m. HasItsState table (nth_object c.world.objects m))
        (sym (same_apart callee.how (self_of h.frame.slots) (self_of callee.slots) above same w.apart))
        (placed (λ e. (let z : by_this ≡ by_new = sym same ∙ e in cc))))
        (λ apart. w.placed apart other)
        (on_this_or_not callee.how)

-- a frame's own object is referred to by its slot 0
refers_itself : (table : ClassTable) (objects : List Object) (f : SilicaFrame) (parts : BodyParts)
    → IsFrame table objects f parts
    → in_cell any (self_of f.slots) (f.slots 0) ≡ 1
refers_itself table objects f parts a = ap (in_cell any (self_of f.slots)) a.set
    ∙ cell_counted any (self_of f.slots) a.this refl a.refers

-- frames under construction are referred to
constructing_refer : (table : ClassTable) (N : ℕ → Type 0) (c : Configuration) (callee : SilicaFrame)
    (called : BodyParts)
    (above : List ℕ) (tests : ℕ → ℕ) (hs : List Waiting) → AllWait table N c callee called above tests hs → (n : ℕ)
    → 0 < constructing_among n hs → 0 < in_waiting any n hs
constructing_refer table N c callee called above tests [] waits n some = absurd (omega arith)
constructing_refer table N c callee called above tests (h ∷ hs) (w, ws) n some =
    ⊎_elim
    (λ none. let more = constructing_refer table N c h.frame w.parts (self_of h.frame.slots ∷ above) _ hs ws n
    (omega (arith, some, none)) in omega (arith, more))
    (λ more. let r = constructing_is n h.frame.how h.frame.slots more in
    let here = refers_itself table c.world.objects h.frame w.parts w.frame in
    let one : in_cell any n (h.frame.slots 0) ≡ 1 = subst (λ m. in_cell any m (h.frame.slots 0) ≡ 1) r.1 here in
    let low = in_slot any n h.frame.slots 0 some_slots in omega (arith, one, low))
    (zero_or_more (constructing_at n h.frame.how h.frame.slots))

module _ (table : ClassTable) (made : IsClassTable table) (entry : Option ℕ) (beginning : Beginning) (c : Configuration)
    (k : IsRunning table entry beginning c) where
  -- the frame's own places
  pub running_sits : Sits table c.frame k.whole.parts (here c) k.context
  running_sits = record {
    frame = k.whole.frame;
    slots = k.whole.slots;
    fields = k.whole.fields (self_of c.frame.slots);
    object = k.whole.objects (self_of c.frame.slots) k.whole.frame.there;
    says = k.says;
    placed = k.placed;
    owns_made = k.owns_made;
  }

  running_control : in_control owns zero c.control ≡ 0
  running_control = ap (in_control owns zero) k.control

  pub running_owners : (m : ℕ) → owners m c ≡ in_frame owns m (here c) + in_rest owns m c
  running_owners m = let none : in_control owns m c.control ≡ 0 = ap (in_control owns m) k.control in omega
      (arith, none)

  pub running_references : (m : ℕ) → references m c ≡ in_frame any m (here c) + in_rest any m c
  running_references m = let none : in_control any m c.control ≡ 0 = ap (in_control any m) k.control in omega
      (arith, none)

  pub running_one : (m : ℕ) → in_frame owns m (here c) + in_rest owns m c ≤ 1
  running_one m = let most = k.whole.one_owner m in let is = running_owners m in omega (arith, most, is)

  -- an object that isn't under construction is in one of its states
  pub running_placed : (m : ℕ) → m < length c.world.objects → constructions m c ≡ 0
      → HasItsState table (nth_object c.world.objects m)
  running_placed m low none = ⊎_elim
      (λ outside. (k.whole.declared m low outside none).placed)
      (λ inside. ⊎_elim
      (λ other. placed_among table _ c c.frame k.whole.parts _ _ c.stack k.placed k.whole.waiting m
      (omega (arith, inside, other)))
      (λ here. let r = entered_is m c.frame.how c.frame.slots here in
      subst (λ i. HasItsState table (nth_object c.world.objects i)) r.1
      (k.placed (λ e. (let z : by_receiver ≡ by_new = sym r.0 ∙ e in cc))))
      (zero_or_more (entered_at m c.frame.how c.frame.slots)))
      (zero_or_more (entries m c))

  -- no place but its own `this` refers to an object under construction
  pub running_finished : (q : Location) (x : Cell) → IsPlaceIn (body_of table c.frame k.whole.parts) q
      → (constructs (body_of table c.frame k.whole.parts) ≡ true → same_location q this ≡ false)
      → cell_at (here c) q ≡ Some x
      → (m : ℕ) → 0 < constructions m c → x.value ≢ reference m
  running_finished q x inside spares e m some refers =
      let few = k.unreferred m some in
      let all = running_references m in
      ⊎_elim
      (λ other.
      let more = constructing_refer table _ c c.frame k.whole.parts _ _ c.stack k.whole.waiting m
      (omega (arith, some, other)) in
      let place = at_place q inside e in
      omega (arith, few, all, more, place))
      (λ own. let r = constructing_is m c.frame.how c.frame.slots own in
      let two = at_two q inside e (spares (k.whole.frame.constructs r.0)) r.1 in
      omega (arith, few, all, two))
      (zero_or_more (constructing_at m c.frame.how c.frame.slots))
    where
      counted : in_cell any m (Some x) ≡ 1
      counted = cell_counted any m x refl refers

      low_slot : (j : ℕ) → j < k.whole.parts.slots → j < most_slots
      low_slot j lt = let few = k.whole.frame.few in omega (arith, few, lt)

      low_field : (j : ℕ) → j < length k.whole.parts.own.fields → j < fields_counted
      low_field j lt = few_fields j
          (let few = (contract_is table made c.frame.contract k.whole.parts.own k.whole.frame.own).few_fields in
          omega (arith, few, lt))

      at_place : (p : Location) → IsPlaceIn (body_of table c.frame k.whole.parts) p → cell_at (here c) p ≡ Some x
          → 1 ≤ in_frame any m (here c)
      at_place (slot j) lt i =
          let is : in_cell any m (c.frame.slots j) ≡ 1 = ap (in_cell any m) i ∙ counted in
          let low = in_slot any m c.frame.slots j (low_slot j lt) in omega (arith, is, low)
      at_place (field j) lt i =
          let is : in_cell any m (cell_at (here c) (field j)) ≡ 1 = ap (in_cell any m) i ∙ counted in
          let low = in_field_of any m c.notes c.world.objects (self_of c.frame.slots) j (low_field j lt) in omega
          (arith, is, low)

      at_two : (p : Location) → IsPlaceIn (body_of table c.frame k.whole.parts) p → cell_at (here c) p ≡ Some x
          → same_location p this ≡ false → self_of c.frame.slots ≡ m → 2 ≤ in_frame any m (here c)
      at_two (slot j) lt i other self =
          let is : in_cell any m (c.frame.slots j) ≡ 1 = ap (in_cell any m) i ∙ counted in
          let first = subst (λ n. in_cell any n (c.frame.slots 0) ≡ 1) self
          (refers_itself table c.world.objects c.frame k.whole.parts k.whole.frame) in
          let low = in_two_slots any m c.frame.slots j 0 (low_slot j lt) some_slots
          (λ z. both_ways _ other (eq-eqb j 0 z)) in
          omega (arith, is, first, low)
      at_two (field j) lt i other self =
          let is : in_cell any m (cell_at (here c) (field j)) ≡ 1 = ap (in_cell any m) i ∙ counted in
          let first = subst (λ n. in_cell any n (c.frame.slots 0) ≡ 1) self
          (refers_itself table c.world.objects c.frame k.whole.parts k.whole.frame) in
          let low = in_field_of any m c.notes c.world.objects (self_of c.frame.slots) j (low_field j lt) in
          let zero = in_slot any m c.frame.slots 0 some_slots in
          omega (arith, is, first, low, zero)

  -- nothing is bound at first
  pub running_binds : (n : ℕ) → Binds table c k.whole.parts (unbound (here c)) k.context n
  running_binds n = record {
    stays = stays_itself (here c);
    sits = running_sits;
    alike = λ q z e. (z, e, refl, refl);
    unset = λ q none. none;
    shares = λ q x y ex ey e. inl (subst (λ (z : Cell). z.note.permission ≡ shared)
        (sym (same_Some x y (sym ex ∙ ey))) e);
    fewer = λ m. let none = nothing_counts owns m in omega (arith, none);
    assets = λ m must. omega arith;
    newly = λ m no yes. absurd (both_ways _ no yes);
    disowned = λ m. refl;
    refers = λ m some. let none = nothing_counts any m in omega (arith, none);
    bound = λ j x e. absurd (cc);
    above = λ j le. refl;
  }

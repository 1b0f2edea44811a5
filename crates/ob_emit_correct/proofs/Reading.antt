-- What is known of the values that a form reads: they are of the kinds that its operands are known to have, and what they refer to is there.
use Rattle.std.proofs.Common.{◌≡◌, ℕ, ◌<◌, true, List, length, Option, Some, None, refl, sym, ap, ◌∙◌, get_or, true≢false}
use Rattle.std.proofs.lemmas.Option.{slice_get-get_or}
use Rattle.std.specs.Prelude.{option_map, option_and_then, unwrap_or, IsSomeAnd}
use Rattle.ob_base.specs.Optional.{◌>>=◌}
use Rattle.ob_base.specs.declared.fault.Span.{Span}
use Rattle.ob_table.specs.Tables.{ClassTable, contract_at, field_at}
use Rattle.ob_table.specs.declared.contract.Contract.{Contract}
use Rattle.ob_table.specs.declared.contract.Field.{Field as FieldOf}
use Rattle.ob_table.specs.declared.seen.Kind.{Kind}
use Rattle.ob_table.specs.declared.seen.Kind.TheVariants.{Int, Bool as BoolKind, Text, Reference}
use Rattle.ob_table_spec.specs.WellFormed.{is_reference, kind_of_resolved}
use Rattle.ob_heap_spec.specs.Values.{Value, int_value, bool_value, text_value, reference, referred}
use Rattle.ob_heap_spec.specs.Objects.{Object, unfinished}
use Rattle.ob_heap_spec.specs.Contents.{object_at}
use Rattle.ob_silica.specs.Terms.{SilicaForm, SilicaTerms}
use Rattle.ob_silica.specs.declared.place.Operand.{Operand}
use Rattle.ob_silica.specs.declared.place.Place.{Place}
use Rattle.ob_silica.specs.declared.place.Place.TheVariants.{This, Slot, Field}
use Rattle.ob_silica_formed.specs.Holdings.{kind_of_place, kind_of_operand}
use Rattle.ob_silica_places.specs.Known.{Known}
use Rattle.ob_silica_places.specs.Places.{Location, slot, field, location_of, located}
use Rattle.ob_silica_steps.specs.Cells.{Cell, value_in}
use Rattle.ob_silica_steps.specs.Configurations.{SilicaProgram, Rest, Configuration}
use Rattle.ob_silica_steps.specs.Here.{Here, here, read, self, self_of, field_value}
use Rattle.ob_coherent_spec.specs.Counting.{nth_object}
use Rattle.ob_coherent_spec.specs.Standing.{IsOfKind, IsObjectInRun, Stands}
use Rattle.ob_lower_correct.proofs.Standing.{none_some, some_same}
use Rattle.ob_machine_steps.specs.Configurations as machine
use Rattle.ob_machine_steps.specs.Slots.{Slots, value_at, reference_at}
use Rattle.ob_emit_correct.proofs.Placed.{FormStep, around_forms}
use Rattle.ob_emit_correct.proofs.Slots.{field_read}

-- Objects.

-- an object of a number that is in range is there
pub object_there : (objects : List Object) (n : ℕ) → n < length objects → object_at objects n ≡ Some (nth_object objects n)
object_there objects n lt =
    let d = unfinished (record { 0 = 0 }) in
    let e : object_at objects n ≡ Some (get_or objects n d) = slice_get-get_or objects n d lt in
    e ∙ ap Some (sym (ap (λ o. unwrap_or o d) e))

-- the object that is there
pub nth_there : (objects : List Object) (n : ℕ) (o : Object) → object_at objects n ≡ Some o → nth_object objects n ≡ o
nth_there objects n o e = ap (λ x. unwrap_or x (unfinished (record { 0 = 0 }))) e

-- Values.

-- a value of a reference's kind refers to an object that there is
refers_by : (table : ClassTable) (objects : List Object) (kind : Kind) (v : Value) → is_reference kind ≡ true
    → IsOfKind table objects kind v → (n : ℕ) × (v ≡ reference n) × (n < length objects)
refers_by table objects Int v e h = absurd (true≢false (sym e))
refers_by table objects BoolKind v e h = absurd (true≢false (sym e))
refers_by table objects Text v e h = absurd (true≢false (sym e))
refers_by table objects (Reference id) (reference n) e h = (n, refl, h.0)
refers_by table objects (Reference id) (int_value z) e h = absurd h
refers_by table objects (Reference id) (bool_value b) e h = absurd h
refers_by table objects (Reference id) (text_value bytes) e h = absurd h

pub refers : (table : ClassTable) (objects : List Object) (y : Cell) → Stands table objects y → is_reference y.note.kind ≡ true
    → (n : ℕ) × (y.value ≡ reference n) × (n < length objects)
refers table objects y s e = refers_by table objects y.note.kind y.value e s.kind

-- the object to which a slot of the machine refers
pub reference_in : (slots : Slots) (a n : ℕ) → value_at slots a ≡ Some (reference n) → reference_at slots a ≡ Some n
reference_in slots a n e = ap (λ o. o >>= referred) e

-- the value of a field that is read, with its note
noted_from : (o : Option Value) (note : Known) (y : Cell) → option_map (λ v. record { value = v; note = note }) o ≡ Some y
    → (value_in (Some y) ≡ o) × (y.note ≡ note)
noted_from None note y e = absurd (none_some e)
noted_from (Some v) note y e =
    let same : y ≡ record { value = v; note = note } =
    sym (some_same (record { value = v; note = note }) y e) in
    (ap (λ (c : Cell). Some c.value) same, ap (λ (c : Cell). c.note) same)

pub field_note : (table : ClassTable) (h : Here) (k : ℕ) (y : Cell) → read table h (field k) ≡ Some y
    → y.note ≡ h.notes.fields (self_of h.slots) k
field_note table h k y e =
    (noted_from (option_and_then (λ o. field_value table o k) (self h)) (h.notes.fields (self_of h.slots) k) y e).1

module _ {program : SilicaProgram} {form : SilicaForm} {span : Span} {rest : SilicaTerms} {outer : List Rest} {c : Configuration}
    {m : machine.Configuration} (x : FormStep program form span rest outer c m) where
  -- the object that `this` is
  pub this_there : object_at c.world.objects (self_of c.frame.slots) ≡ Some (nth_object c.world.objects (self_of c.frame.slots))
  this_there = object_there c.world.objects (self_of c.frame.slots) x.coherent.whole.frame.there

  -- it is one of the frame's contract
  pub this_contract : (o : Object) → object_at c.world.objects (self_of c.frame.slots) ≡ Some o → o.contract ≡ c.frame.contract
  this_contract o e =
      ap (λ (p : Object). p.contract) (sym (nth_there c.world.objects (self_of c.frame.slots) o e))
      ∙ x.coherent.whole.frame.contract

  -- what is noted of a field of it has the declared kind
  pub own_note : (k : ℕ) (fd : FieldOf) (v : Value) (o : Object) → field_at x.goes_on.has.own (record { 0 = k }) ≡ Some fd
      → object_at c.world.objects (self_of c.frame.slots) ≡ Some o → o.fields k ≡ Some v
      → (c.notes.fields (self_of c.frame.slots) k).kind ≡ kind_of_resolved fd.of
  own_note k fd v o ef eo ev =
      let self = self_of c.frame.slots in
      let run : IsObjectInRun program.table c.notes self (nth_object c.world.objects self) =
      x.coherent.whole.objects self x.coherent.whole.frame.there in
      let nth : nth_object c.world.objects self ≡ o = nth_there c.world.objects self o eo in
      let same : x.goes_on.has.own ≡ run.own =
      some_same x.goes_on.has.own run.own
      (sym x.goes_on.has.is_own ∙ ap (contract_at program.table) (sym x.coherent.whole.frame.contract) ∙ run.contract) in
      run.kinds k fd v (ap (λ (own : Contract). field_at own (record { 0 = k })) (sym same) ∙ ef)
      (ap (λ (p : Object). p.fields k) nth ∙ ev)

  -- what is read of a field has the kind that it declares
  field_kind : (k : ℕ) (of : Option FieldOf) (y : Cell) (kind : Kind) → field_at x.goes_on.has.own (record { 0 = k }) ≡ of
      → option_map (λ (fd : FieldOf). kind_of_resolved fd.of) of ≡ Some kind
      → read program.table (here c) (field k) ≡ Some y → y.note.kind ≡ kind
  field_kind k None y kind ef ek e = absurd (none_some ek)
  field_kind k (Some fd) y kind ef ek e =
      let o = field_read program.table (here c) k y.value (ap value_in e) in
      ap (λ (n : Known). n.kind) (field_note program.table (here c) k y e) ∙ own_note k fd y.value o.0 ef o.1 o.2
      ∙ some_same (kind_of_resolved fd.of) kind ek

  place_kind : (p : Place) (y : Cell) (kind : Kind) → read program.table (here c) (location_of p) ≡ Some y
      → kind_of_place (around_forms x).static x.goes_on.holdings p ≡ Some kind
      → y.note.kind ≡ kind
  place_kind This y kind e ek =
      ap (λ (d : Cell). d.note.kind) (some_same y x.coherent.whole.frame.this (sym e ∙ x.coherent.whole.frame.set))
      ∙ x.coherent.whole.frame.kind ∙ some_same (Reference c.frame.contract) kind ek
  place_kind (Slot k) y kind e ek = x.kinds k kind y ek e
  place_kind (Field id) y kind e ek = field_kind id.0 (field_at x.goes_on.has.own id) y kind refl ek e

  -- what is read of an operand has the kind that it is known to have
  pub read_kind : (o : Operand) (y : Cell) (kind : Kind) → read program.table (here c) (located o) ≡ Some y
      → kind_of_operand (around_forms x).static x.goes_on.holdings o ≡ Some kind
      → y.note.kind ≡ kind
  read_kind o y kind e ek = place_kind o.place y kind e ek

  -- what is noted of what is read is so
  pub read_stands : (p : Location) (y : Cell) → read program.table (here c) p ≡ Some y → Stands program.table c.world.objects y
  read_stands (slot k) y e = x.coherent.whole.slots k y e
  read_stands (field k) y e =
      let self = self_of c.frame.slots in
      let o = field_read program.table (here c) k y.value (ap value_in e) in
      let of_object : (nth_object c.world.objects self).fields k ≡ Some y.value =
      ap (λ (p : Object). p.fields k) (nth_there c.world.objects self o.0 o.1) ∙ o.2 in
      x.coherent.whole.fields self k y
      (ap (option_map (λ v. record { value = v; note = c.notes.fields self k })) of_object
      ∙ ap (λ n. Some (record { value = y.value; note = n })) (sym (field_note program.table (here c) k y e)))

  -- an operand that is known to be a reference refers to an object that there is
  pub read_refers : (o : Operand) (y : Cell) → read program.table (here c) (located o) ≡ Some y
      → IsSomeAnd (kind_of_operand (around_forms x).static x.goes_on.holdings o) (λ kind. is_reference kind ≡ true)
      → (n : ℕ) × (y.value ≡ reference n) × (n < length c.world.objects)
  read_refers o y e is = by (kind_of_operand (around_forms x).static x.goes_on.holdings o) refl is
    where
      by : (k : Option Kind) → kind_of_operand (around_forms x).static x.goes_on.holdings o ≡ k
          → IsSomeAnd k (λ kind. is_reference kind ≡ true)
          → (n : ℕ) × (y.value ≡ reference n) × (n < length c.world.objects)
      by None ek h = absurd h
      by (Some kind) ek h =
          refers program.table c.world.objects y (read_stands (located o) y e) (ap is_reference (read_kind o y kind e ek) ∙ h)

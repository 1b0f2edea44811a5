-- A change of state: the machine changes `this` and then marks what its fields were given, the terms the other way round.
use Rattle.std.proofs.Common.{◌≡◌, ℕ, zero, suc, ◌+◌, Bool, true, false, List, [], ◌∷◌, length, Option, Some, None, refl, sym, ap, ◌∙◌, subst, arith, length-append}
use Rattle.std.proofs.Math.Path.{fun_ext}
use Rattle.std.specs.Prelude.{⊤, nat_eq, nat_le, ◌&&◌, is_some, IfSome, option_map, option_and_then, slice_get, slice_set, if◌then◌else◌}
use Rattle.std.specs.List.{list_all}
use Rattle.std.specs.Option.{option_map_or}
use Rattle.ob_base.specs.Optional.{◌>>=◌}
use Rattle.ob_base.specs.declared.fault.Span.{Span}
use Rattle.ob_base.specs.declared.id.FieldId.{FieldId}
use Rattle.ob_base.specs.declared.id.StateId.{StateId}
use Rattle.ob_perm.specs.Masks.{permission_of}
use Rattle.ob_perm.specs.Permissions.{is_shared, owned, owns}
use Rattle.ob_perm.specs.States.{only}
use Rattle.ob_table.specs.Tables.{ClassTable, contract_at}
use Rattle.ob_table.specs.declared.contract.Contract.{Contract}
use Rattle.ob_table.specs.declared.contract.Field.{Field}
use Rattle.ob_table.specs.declared.contract.ResolvedType.{ResolvedType}
use Rattle.ob_table.specs.declared.contract.ResolvedType.TheVariants as typed
use Rattle.ob_table_spec.specs.WellFormed.{kind_of_resolved}
use Rattle.ob_heap_spec.specs.Contents.{object_at}
use Rattle.ob_heap_spec.specs.GoingWrong.{is_givable}
use Rattle.ob_heap_spec.specs.Objects.{Object, has_field, has_all_values}
use Rattle.ob_heap_spec.specs.Values.{Value, Numbered, nothing, put, int_value, bool_value, text_value, reference}
use Rattle.ob_heap_spec.specs.Worlds.{World, SameWorld, object_item, is_made, with_read, read_object, edit_object, set_object, by_state}
use Rattle.ob_heap_spec.specs.Marks.{has_mark, mark_shared, comes_into, is_among, is_locked}
use Rattle.ob_source_meaning.specs.Fields.{cut_to, put_all, moved_to, comes_into_field, come_into_fields}
use Rattle.ob_silica.specs.Terms.{SilicaTerms, change_form}
use Rattle.ob_silica.specs.declared.place.Given.{Given}
use Rattle.ob_silica_formed.specs.Points.{HasKind, AreServed}
use Rattle.ob_silica_places.specs.Places.{located, all_located}
use Rattle.ob_silica_steps.specs.Cells.{Cell, noted, value_in}
use Rattle.ob_silica_steps.specs.Changing.{all_there, fill_all, changed_object, narrowed_this, changed_here, change_with, is_locked_out}
use Rattle.ob_silica_steps.specs.Configurations.{SilicaProgram, SlotCells, Rest, Configuration, abort_step, stuck}
use Rattle.ob_silica_steps.specs.Here.{Here, here, self_of, self, read}
use Rattle.ob_silica_steps.specs.Steps.{act}
use Rattle.ob_coherent_spec.specs.Counting.{nth_object}
use Rattle.ob_code.specs.Code.{contract_code}
use Rattle.ob_code.specs.declared.image.ContractCode.{ContractCode}
use Rattle.ob_code.specs.declared.instruction.Instruction.{Instruction}
use Rattle.ob_code.specs.declared.instruction.Instruction.TheVariants as instruction
use Rattle.ob_machine_steps.specs.Changing as machine_changing
use Rattle.ob_machine_steps.specs.Changing.{edits_this, GivenSlots, given_values, are_available, value_given, object_changed, changes_to}
use Rattle.ob_machine_steps.specs.Configurations as machine
use Rattle.ob_code_table.specs.Images.{has_field_code}
use Rattle.ob_machine_steps.specs.Slots.{Slots, value_at}
use Rattle.ob_machine_steps.specs.Steps as machine_steps
use Rattle.ob_emit_spec.specs.Emission.{share_in_field, given_slots, shares_of_given}
use Rattle.ob_emit_spec.specs.EmittedImages.{emitted_contract}
use Rattle.ob_emit_spec.specs.Operands.{slot_read, slots_read, loads, values_given, share}
use Rattle.ob_lower_correct.proofs.Calling.{read_values}
use Rattle.ob_lower_correct.proofs.Changes.{at_alike, quiet_into, quiet_later, later_edit}
use Rattle.ob_lower_correct.proofs.Filling.{ReadBy, Filled, Fills, fills, lacks, fill_runs}
use Rattle.ob_lower_correct.proofs.Standing.{shape, Later, later_self, none_some, some_same}
use Rattle.ob_lower_correct.proofs.Values.{there}
use Rattle.ob_emit_correct.specs.Law.{code_of}
use Rattle.ob_emit_correct.proofs.Agreeing.{contract_found, fields_agree}
use Rattle.ob_emit_correct.proofs.Handing.{may_come}
use Rattle.ob_emit_correct.proofs.Marks.{MayCome, IsMarked, IsCodeOf, AreIn, are_in, marks_one, marked_then, unmarked}
use Rattle.ob_emit_correct.proofs.Matching.{Does}
use Rattle.ob_emit_correct.proofs.Placed.{has_front, has_back, machine_at, FormStep, code_here, around_forms, own_code, form_placed, form_formed, instruction_here, steps_here, LeftWith, goes_on}
use Rattle.ob_emit_correct.proofs.Placing.{HasAt}
use Rattle.ob_emit_correct.proofs.Reading.{this_there}
use Rattle.ob_emit_correct.proofs.Returning.{does_if}
use Rattle.ob_emit_correct.proofs.Slots.{Loaded, loads_run, scratch, form_scratch, same_alike, self_alike, kinds_alike}
use Rattle.ob_emit_correct.proofs.Stepping.{Reaches, reaches_then, does_reached, does_abort, does_there}
use Rattle.ob_emit_correct.proofs.Worlds.{same_edit}

-- Edits of one object.

-- objects, one of which becomes what f makes of it
abbrev edited : (Object → Object) → ℕ → List Object → List Object
edited f n [] = []
edited f zero (o ∷ os) = f o ∷ os
edited f (suc n) (o ∷ os) = o ∷ edited f n os

edited_there : (f : Object → Object) (n : ℕ) (os : List Object) (o : Object) → slice_get os n ≡ Some o
    → slice_set os n (f o) ≡ edited f n os
edited_there f n [] o e = absurd (none_some e)
edited_there f zero (x ∷ os) o e = ap (λ y. f y ∷ os) (sym (some_same x o e))
edited_there f (suc n) (x ∷ os) o e = ap (λ ys. x ∷ ys) (edited_there f n os o e)

edited_none : (f : Object → Object) (n : ℕ) (os : List Object) → slice_get os n ≡ None → edited f n os ≡ os
edited_none f n [] e = refl
edited_none f zero (x ∷ os) e = absurd (none_some (sym e))
edited_none f (suc n) (x ∷ os) e = ap (λ ys. x ∷ ys) (edited_none f n os e)

length_edited : (f : Object → Object) (n : ℕ) (os : List Object) → length (edited f n os) ≡ length os
length_edited f n [] = refl
length_edited f zero (o ∷ os) = refl
length_edited f (suc n) (o ∷ os) = ap suc (length_edited f n os)

mark_kept : (f : Object → Object) → ((o : Object) → (f o).shared ≡ o.shared) → (n k : ℕ) (os : List Object)
    → option_map_or (λ (o : Object). o.shared) (slice_get (edited f n os) k) true ≡ option_map_or (λ (o : Object). o.shared)
    (slice_get os k) true
mark_kept f h n k [] = refl
mark_kept f h zero zero (o ∷ os) = h o
mark_kept f h zero (suc k) (o ∷ os) = refl
mark_kept f h (suc n) zero (o ∷ os) = refl
mark_kept f h (suc n) (suc k) (o ∷ os) = mark_kept f h n k os

edited_both : (f g : Object → Object) → ((o : Object) → g (f o) ≡ f (g o)) → (n k : ℕ) (os : List Object)
    → edited g k (edited f n os) ≡ edited f n (edited g k os)
edited_both f g h n k [] = refl
edited_both f g h zero zero (o ∷ os) = ap (λ y. y ∷ os) (h o)
edited_both f g h zero (suc k) (o ∷ os) = refl
edited_both f g h (suc n) zero (o ∷ os) = refl
edited_both f g h (suc n) (suc k) (o ∷ os) = ap (λ ys. o ∷ ys) (edited_both f g h n k os)

-- the world after an edit
abbrev with_edit : (Object → Object) → ℕ → World → World
with_edit f n w = record w { objects = edited f n w.objects }

edit_as : (f : Object → Object) (n : ℕ) (w : World) → edit_object f n w ≡ with_edit f n w
edit_as f n w = go (object_at w.objects n) refl
  where
    go : (o : Option Object) → object_at w.objects n ≡ o
        → option_map_or (λ (x : Object). set_object w n (f x)) o w ≡ with_edit f n w
    go None e = ap {B = World} (λ os. record w { objects = os }) (sym (edited_none f n w.objects e))
    go (Some o) e = ap {B = World} (λ os. record w { objects = os }) (edited_there f n w.objects o e)

-- Marks come before or after an edit that leaves marks alone.

abbrev as_shared : Object → Object
as_shared o = record o { shared = true }

module _ (f : Object → Object) (keeps : (o : Object) → (f o).shared ≡ o.shared)
    (apart : (o : Object) → as_shared (f o) ≡ f (as_shared o)) (n : ℕ) where
  read_edit : (k : ℕ) (w : World) → read_object (with_edit f n w) k ≡ with_edit f n (read_object w k)
  read_edit k w =
      ap (λ l. if nat_le l (k + w.made) then with_edit f n w else with_read (with_edit f n w) (object_item k))
      (length_edited f n w.objects)
      ∙ go (is_made w k)
    where
      go : (b : Bool) → (if b then with_edit f n w else with_read (with_edit f n w) (object_item k))
          ≡ with_edit f n (if b then w else with_read w (object_item k))
      go true = refl
      go false = refl

  mark_edit : (k : ℕ) (w : World) → mark_shared k (with_edit f n w) ≡ with_edit f n (mark_shared k w)
  mark_edit k w =
      let v = read_object w k in
      ap (λ u. if has_mark (λ o. o.shared) u k then u else edit_object as_shared k u) (read_edit k w)
      ∙ ap (λ b. if b then with_edit f n v else edit_object as_shared k (with_edit f n v)) (mark_kept f keeps n k v.objects)
      ∙ go v (has_mark (λ o. o.shared) v k)
    where
      go : (v : World) (b : Bool) → (if b then with_edit f n v else edit_object as_shared k (with_edit f n v))
          ≡ with_edit f n (if b then v else edit_object as_shared k v)
      go v true = refl
      go v false =
          edit_as as_shared k (with_edit f n v)
          ∙ ap {B = World} (λ os. record v { objects = os }) (edited_both f as_shared apart n k v.objects)
          ∙ ap (with_edit f n) (sym (edit_as as_shared k v))

  comes_edit : (of : ResolvedType) (v : Value) (w : World) → comes_into of v (with_edit f n w) ≡ with_edit f n (comes_into of v w)
  comes_edit (typed.Reference id p) (reference k) w = go (is_shared (permission_of p))
    where
      go : (b : Bool)
          → (if b then mark_shared k (with_edit f n w) else with_edit f n w) ≡ with_edit f n (if b then mark_shared k w else w)
      go true = mark_edit k w
      go false = refl
  comes_edit (typed.Reference id p) (int_value z) w = refl
  comes_edit (typed.Reference id p) (bool_value b) w = refl
  comes_edit (typed.Reference id p) (text_value bytes) w = refl
  comes_edit typed.Int v w = refl
  comes_edit typed.Bool v w = refl
  comes_edit typed.Text v w = refl

  field_edit : (own : Contract) (k : ℕ) (v : Value) (w : World)
      → comes_into_field own k v (with_edit f n w) ≡ with_edit f n (comes_into_field own k v w)
  field_edit own k v w = go (slice_get own.fields k)
    where
      go : (o : Option Field) → option_map_or (λ (fd : Field). comes_into fd.of v (with_edit f n w)) o (with_edit f n w)
          ≡ with_edit f n (option_map_or (λ (fd : Field). comes_into fd.of v w) o w)
      go None = refl
      go (Some fd) = comes_edit fd.of v w

  fields_with_edit : (own : Contract) (xs : List (ℕ × Value)) (w : World)
      → come_into_fields own xs (with_edit f n w) ≡ with_edit f n (come_into_fields own xs w)
  fields_with_edit own [] w = refl
  fields_with_edit own ((k, v) ∷ xs) w =
      ap (come_into_fields own xs) (field_edit own k v w) ∙ fields_with_edit own xs (comes_into_field own k v w)

  fields_edit : (own : Contract) (xs : List (ℕ × Value)) (w : World)
      → come_into_fields own xs (edit_object f n w) ≡ edit_object f n (come_into_fields own xs w)
  fields_edit own xs w =
      ap (come_into_fields own xs) (edit_as f n w) ∙ fields_with_edit own xs w ∙ sym (edit_as f n (come_into_fields own xs w))

-- What fields are given.

-- fields with the values that they are given
abbrev pairs : List Given → List Value → List (ℕ × Value)
pairs [] vs = []
pairs (g ∷ gs) [] = []
pairs (g ∷ gs) (v ∷ vs) = (g.field.0, v) ∷ pairs gs vs

-- the same, as the machine collects them
abbrev values_put : Numbered Value → List Given → List Value → Numbered Value
values_put got [] vs = got
values_put got (g ∷ gs) [] = got
values_put got (g ∷ gs) (v ∷ vs) = values_put (put got g.field.0 v) gs vs

-- the values that are there
record AreThere (table : ClassTable) (h : Here) (gs : List Given) : Type 0 where
  values : List Value
  read_at : read_values table h (all_located (values_given gs)) ≡ Some values
  by : ReadBy table h gs (pairs gs values)

are_there : (table : ClassTable) (h : Here) (gs : List Given) → all_there table h gs ≡ true → AreThere table h gs
are_there table h [] e = record { values = []; read_at = refl; by = tt }
are_there table h (g ∷ gs) e = go (read table h (located g.from)) refl (λ t. are_there table h gs t)
  where
    go : (o : Option Cell) → read table h (located g.from) ≡ o → (all_there table h gs ≡ true → AreThere table h gs)
        → AreThere table h (g ∷ gs)
    go None er next = let no : false ≡ true = ap (λ r. is_some r && all_there table h gs) (sym er) ∙ e in absurd cc
    go (Some y) er next =
        let a = next (ap (λ r. is_some r && all_there table h gs) (sym er) ∙ e) in
        record {
          values = y.value ∷ a.values;
          read_at =
              ap (λ r. option_and_then (λ v. option_map (λ vs. v ∷ vs) (read_values table h (all_located (values_given gs))))
              (value_in r)) er
              ∙ ap (option_map (λ vs. y.value ∷ vs)) a.read_at;
          by = (refl, ap value_in er, a.by);
        }

given_read : (slots : Slots) (base n : ℕ) (gs : List Given) (vs : List Value) (got : Numbered Value)
    → AreIn slots (slots_read base n (values_given gs)) vs
    → given_values slots (given_slots base n gs) got ≡ Some (values_put got gs vs)
given_read slots base n [] [] got a = refl
given_read slots base n (g ∷ gs) (v ∷ vs) got a =
    ap (λ o. o >>= λ u. given_values slots (given_slots base (n + 1) gs) (put got g.field.0 u)) a.0
    ∙ given_read slots base (n + 1) gs vs (put got g.field.0 v) a.1
given_read slots base n [] (v ∷ vs) got a = absurd a
given_read slots base n (g ∷ gs) [] got a = absurd a

put_given : (gs : List Given) (vs : List Value) (got old : Numbered Value) (k : ℕ)
    → value_given (values_put got gs vs k) (old k) ≡ put_all (λ j. value_given (got j) (old j)) (pairs gs vs) k
put_given [] vs got old k = refl
put_given (g ∷ gs) [] got old k = refl
put_given (g ∷ gs) (v ∷ vs) got old k =
    put_given gs vs (put got g.field.0 v) old k
    ∙ ap (λ base. put_all base (pairs gs vs) k) (fun_ext (λ j. one (nat_eq j g.field.0) (got j) (old j)))
  where
    one : (b : Bool) (x y : Option Value) → value_given (if b then Some v else x) y ≡ (if b then Some v else value_given x y)
    one true x y = refl
    one false x y = refl

module _ (program : SilicaProgram) (own : Contract) (code : ContractCode)
    (agree : (state : Option StateId) (k : ℕ) → has_field_code code state k ≡ has_field own state k) (state : StateId) where
  machine_object : (gs : List Given) (vs : List Value)
      → object_changed code state (values_put nothing gs vs) ≡ moved_to own state (pairs gs vs)
  machine_object gs vs =
      fun_ext (λ o. ap (λ (values : Numbered Value). record o { state = Some state; fields = values }) (fun_ext (λ k.
      ap (λ b. value_given (values_put nothing gs vs k) (if b then o.fields k else None)) (agree (Some state) k)
      ∙ put_given gs vs nothing (cut_to own state o.fields) k)))

  available : (slots : Slots) (base n : ℕ) (gs : List Given) (vs : List Value)
      → AreIn slots (slots_read base n (values_given gs)) vs
      → are_available code state (given_slots base n gs) ≡ list_all (λ (g : ℕ × Value). is_givable own state g.0) (pairs gs vs)
  available slots base n [] [] a = refl
  available slots base n (g ∷ gs) (v ∷ vs) a =
      ap (λ b. b && are_available code state (given_slots base (n + 1) gs)) (agree (Some state) g.field.0)
      ∙ ap (λ b. has_field own (Some state) g.field.0 && b) (available slots base (n + 1) gs vs a.1)
  available slots base n [] (v ∷ vs) a = absurd a
  available slots base n (g ∷ gs) [] a = absurd a

-- What fields are given may come into them.

abbrev AllMayCome : Contract → World → List Given → List Value → Type 0
AllMayCome own w [] vs = ⊤
AllMayCome own w (g ∷ gs) [] = ⊤
AllMayCome own w (g ∷ gs) (v ∷ vs) =
    ((fd : Field) → slice_get own.fields g.field.0 ≡ Some fd → MayCome w fd.of v) × AllMayCome own w gs vs

may_come_later : {w v : World} → Later w v → (of : ResolvedType) (x : Value) → MayCome w of x → MayCome v of x
may_come_later l (typed.Reference id p) (reference n) h = let y = l.by n h.0 h.1 in (y.0, y.1)
may_come_later l (typed.Reference id p) (int_value z) h = h
may_come_later l (typed.Reference id p) (bool_value b) h = h
may_come_later l (typed.Reference id p) (text_value bytes) h = h
may_come_later l typed.Int x h = tt
may_come_later l typed.Bool x h = tt
may_come_later l typed.Text x h = tt

all_come_later : {w v : World} → Later w v → (own : Contract) (gs : List Given) (vs : List Value) → AllMayCome own w gs vs
    → AllMayCome own v gs vs
all_come_later l own [] vs h = tt
all_come_later l own (g ∷ gs) [] h = tt
all_come_later l own (g ∷ gs) (v ∷ vs) h = ((λ fd e. may_come_later l fd.of v (h.0 fd e)), all_come_later l own gs vs h.1)

later_field : (own : Contract) (k : ℕ) (v : Value) (w : World) → Later w (comes_into_field own k v w)
later_field own k v w = go (slice_get own.fields k)
  where
    go : (o : Option Field) → Later w (option_map_or (λ (fd : Field). comes_into fd.of v w) o w)
    go None = later_self w
    go (Some fd) = quiet_later (quiet_into fd.of v w)

-- a row of marks of what comes into fields
module _ (program : SilicaProgram) (code : List Instruction) (own : Contract) (base : ℕ) where
  mark_given : (k : machine.Configuration) (w : World) (id : FieldId) (a : ℕ) (v : Value) → IsCodeOf program k code
      → SameWorld w k.world → value_at k.top.slots a ≡ Some v
      → ((fd : Field) → slice_get own.fields id.0 ≡ Some fd → MayCome w fd.of v) → HasAt code k.top.at (share_in_field own id a)
      → IsMarked program k (length (share_in_field own id a)) (comes_into_field own id.0 v w)
  mark_given k w id a v is s e there has = go (slice_get own.fields id.0) refl has
    where
      go : (o : Option Field) → slice_get own.fields id.0 ≡ o
          → HasAt code k.top.at (option_map_or (λ (fd : Field). share fd.of a) o [])
          → IsMarked program k (length (option_map_or (λ (fd : Field). share fd.of a) o []))
          (option_map_or (λ (fd : Field). comes_into fd.of v w) o w)
      go None eo has = unmarked program code k w s
      go (Some fd) eo has = marks_one program code k fd.of a v w is s e (there fd eo) has

  marks_given : (gs : List Given) (vs : List Value) (n : ℕ) (k : machine.Configuration) (w : World) → IsCodeOf program k code
      → SameWorld w k.world
      → AreIn k.top.slots (slots_read base n (values_given gs)) vs → AllMayCome own w gs vs
      → HasAt code k.top.at (shares_of_given own (given_slots base n gs))
      → IsMarked program k (length (shares_of_given own (given_slots base n gs))) (come_into_fields own (pairs gs vs) w)
  marks_given [] [] n k w is s a there has = unmarked program code k w s
  marks_given (g ∷ gs) (v ∷ vs) n k w is s a there has =
      let first = share_in_field own g.field (slot_read base n g.from.place) in
      let more = shares_of_given own (given_slots base (n + 1) gs) in
      let one =
      mark_given k w g.field (slot_read base n g.from.place) v is s a.0 there.0 (has_front code k.top.at first more has) in
      let next =
      marks_given gs vs (n + 1) (machine_at k (k.top.at + length first) k.top.slots one.world)
      (comes_into_field own g.field.0 v w) is one.same a.1
      (all_come_later (later_field own g.field.0 v w) own gs vs there.1) (has_back code k.top.at first more has) in
      subst (λ l. IsMarked program k l (come_into_fields own (pairs gs vs) (comes_into_field own g.field.0 v w)))
      (sym (length-append first more))
      (marked_then program code k (length first) (length more) (comes_into_field own g.field.0 v w)
      (come_into_fields own (pairs gs vs) (comes_into_field own g.field.0 v w)) one next)
  marks_given [] (v ∷ vs) n k w is s a there has = absurd a
  marks_given (g ∷ gs) [] n k w is s a there has = absurd a

-- The step of a change.

narrowed_shape : (state : StateId) (c : Option Cell) → shape (option_map (narrowed_this state) c) ≡ shape c
narrowed_shape state None = refl
narrowed_shape state (Some x) = go (owns x.note.permission)
  where
    go : (b : Bool) → shape (Some (if b then noted (owned (only state.0)) x else x)) ≡ shape (Some x)
    go true = refl
    go false = refl

module _ {program : SilicaProgram} {state : StateId} {given : List Given} {span : Span} {rest : SilicaTerms} {outer : List Rest}
    {c : Configuration} {m : machine.Configuration}
    (x : FormStep program (change_form state given) span rest outer c m) where
  abbrev own : Contract
  own = x.goes_on.has.own

  abbrev own_image : ContractCode
  own_image = emitted_contract program.table program.bodies c.frame.contract own

  abbrev base : ℕ
  base = scratch x

  abbrev before : List Instruction
  before = loads base 0 (values_given given)

  abbrev slots_given : GivenSlots
  slots_given = given_slots base 0 given

  abbrev behind : List Instruction
  behind = shares_of_given own slots_given

  abbrev self_number : ℕ
  self_number = self_of c.frame.slots

  -- what fields are given may come into them
  may_fill : (gs : List Given) (vs : List Value) → ReadBy program.table (here c) gs (pairs gs vs)
      → AreServed (around_forms x).static x.goes_on.holdings gs
      → AllMayCome own c.world gs vs
  may_fill [] vs r served = tt
  may_fill (g ∷ gs) [] r served = tt
  may_fill (g ∷ gs) (v ∷ vs) r served = ((λ fd e. one fd e), may_fill gs vs r.2 served.1)
    where
      one : (fd : Field) → slice_get own.fields g.field.0 ≡ Some fd → MayCome c.world fd.of v
      one fd e =
          may_come x fd.of g.from v
          (subst (λ o. IfSome o
          (λ (z : Field). HasKind (around_forms x).static x.goes_on.holdings (kind_of_resolved z.of) g.from)) e served.0)
          r.1

  module _ (there_are : AreThere program.table (here c) given)
      (loaded : Loaded x m.top.at m.top.slots m.world 0 (values_given given) there_are.values) where
    abbrev vs : List Value
    vs = there_are.values

    -- the machine stands before the change
    abbrev ready : machine.Configuration
    ready = machine_at m (m.top.at + length before) loaded.into m.world

    held : AreIn loaded.into (slots_read base 0 (values_given given)) vs
    held = are_in loaded.into (slots_read base 0 (values_given given)) vs loaded.values

    placed : HasAt (code_here x) (m.top.at + length before) (instruction.Change state slots_given ∷ behind)
    placed = has_back (code_here x) m.top.at before (instruction.Change state slots_given ∷ behind) (form_placed x)

    -- what the instruction does, once its contract and its values are found
    acts_by : machine_changing.change_step (code_of program) state slots_given ready
        ≡ (if machine_changing.is_locked_out ready m.top.this then Some (machine.abort (by_state m.top.this None) m.world)
        else changes_to own_image state slots_given (values_put nothing given vs) ready)
    acts_by =
        ap (λ o. o >>= λ code. given_values loaded.into slots_given nothing >>= λ got.
        if machine_changing.is_locked_out ready m.top.this then Some (machine.abort (by_state m.top.this None) m.world)
        else changes_to code state slots_given got ready)
        (ap (contract_code (code_of program)) x.goes_on.frame.contract
        ∙ contract_found program c.frame.contract own x.goes_on.has.is_own)
        ∙ ap (λ o. o >>= λ got. if machine_changing.is_locked_out ready m.top.this then Some
        (machine.abort (by_state m.top.this None) m.world) else changes_to own_image state slots_given got ready)
        (given_read loaded.into base 0 given vs nothing held)

    -- the machine is locked out as the frame is
    locked_same : machine_changing.is_locked_out ready m.top.this ≡ is_locked_out c.frame (here c)
    locked_same =
        ap (λ b. b && is_locked m.world m.top.this) x.goes_on.frame.share_entered
        ∙ ap (λ n. c.frame.share_entered && is_locked m.world n) x.goes_on.frame.this
        ∙ ap (λ ns. c.frame.share_entered && is_among self_number ns) x.world.locked

    next_is : machine_steps.next_instruction (code_of program) ready ≡ Some (instruction.Change state slots_given)
    next_is = instruction_here x (m.top.at + length before) loaded.into m.world (instruction.Change state slots_given) placed.0

    locked_out : is_locked_out c.frame (here c) ≡ true → Does program m (abort_step (by_state self_number None) c.world)
    locked_out e =
        does_reached loaded.reaches
        (does_abort program ready (instruction.Change state slots_given) (by_state self_number None) c.world m.world next_is
        (acts_by ∙ ap
        (λ b. if b then Some (machine.abort (by_state m.top.this None) m.world) else changes_to own_image state slots_given
        (values_put nothing given vs) ready) (locked_same ∙ e)
        ∙ ap (λ n. Some (machine.abort (by_state n None) m.world)) x.goes_on.frame.this) x.world)

    -- the object in its new state
    abbrev changes : Object → Object
    changes = moved_to own state (pairs given vs)

    -- the machine behind the change
    abbrev changed : machine.Configuration
    changed = machine_at m (m.top.at + length before + 1) loaded.into (edit_object changes m.top.this m.world)

    change_runs : is_locked_out c.frame (here c) ≡ false
        → list_all (λ (g : ℕ × Value). is_givable own state g.0) (pairs given vs) ≡ true → Reaches program ready changed
    change_runs e all =
        let agree : (s : Option StateId) (k : ℕ) → has_field_code own_image s k ≡ has_field own s k =
        λ s k. fields_agree program.table program.bodies c.frame.contract own s k in
        let this : object_at m.world.objects m.top.this ≡ Some (nth_object c.world.objects self_number) =
        ap (λ os. object_at os m.top.this) x.world.objects ∙ ap (object_at c.world.objects) x.goes_on.frame.this ∙ this_there x in
        steps_here x (m.top.at + length before) loaded.into m.world changed (instruction.Change state slots_given) placed.0
        (acts_by
        ∙ ap (λ b. if b then Some (machine.abort (by_state m.top.this None) m.world) else changes_to own_image state slots_given
        (values_put nothing given vs) ready) (locked_same ∙ e)
        ∙ ap (λ o. o >>= λ (_ : Object). if are_available own_image state slots_given then edits_this
        (object_changed own_image state (values_put nothing given vs)) ready else None) this
        ∙ ap (λ b. if b then edits_this (object_changed own_image state (values_put nothing given vs)) ready else None)
        (available program own own_image agree state loaded.into base 0 given vs held ∙ all)
        ∙ ap (λ f. edits_this f ready) (machine_object program own own_image agree state given vs))

    -- the frame goes on, its fields being filled
    goes_filled : (t : Here) (all : Numbered Cell) → is_locked_out c.frame (here c) ≡ false
        → list_all (λ (g : ℕ × Value). is_givable own state g.0) (pairs given vs) ≡ true
        → Filled own (here c) nothing (pairs given vs) t all → Does program m (change_with own state rest outer c t all)
    goes_filled t all e givable filled =
        does_there program m (self (changed_here own state all t)) _ (λ o eo.
        does_if program m (has_all_values own o) _
        (goes_on x (changed_here own state all t)
        (m.top.at + length before + 1 + length behind) loaded.into row.world refl place left
        comes))
      where
        later : SlotCells
        later = (changed_here own state all t).slots

        alike : (n : ℕ) → shape (later n) ≡ shape (c.frame.slots n)
        alike n =
            at_alike shape t.slots 0 (option_map (narrowed_this state) (t.slots 0)) (narrowed_shape state (t.slots 0)) n
            ∙ filled.alike.slots n

        -- the changed object, by what fields were given
        object_is : changed_object own state all ≡ changes
        object_is =
            fun_ext (λ o. ap (λ (values : Numbered Value). record o { state = Some state; fields = values })
            (fun_ext (λ k. filled.values (cut_to own state o.fields) k)))

        -- the world of the terms, with the marks last
        world_is : (changed_here own state all t).world ≡ come_into_fields own (pairs given vs)
            (edit_object changes self_number c.world)
        world_is =
            ap (λ f. edit_object f (self_of t.slots) t.world) object_is
            ∙ ap (λ n. edit_object changes n t.world) (self_alike c.frame.slots t.slots filled.alike.slots)
            ∙ ap (edit_object changes self_number) filled.world
            ∙ sym (fields_edit changes (λ o. refl) (λ o. refl) self_number own (pairs given vs) c.world)

        -- the row of marks behind the change
        row : IsMarked program changed (length behind)
            (come_into_fields own (pairs given vs) (edit_object changes self_number c.world))
        row =
            marks_given program (code_here x) own base given vs 0 changed (edit_object changes self_number c.world)
            (λ at i is. instruction_here x at loaded.into (edit_object changes m.top.this m.world) i is)
            (subst (λ n. SameWorld (edit_object changes self_number c.world) (edit_object changes n m.world))
            (sym x.goes_on.frame.this) (same_edit changes self_number x.world))
            held
            (all_come_later (later_edit changes (λ o. refl) self_number c.world) own given vs
            (may_fill given vs there_are.by (form_formed x).kinds.0))
            placed.1

        place : m.top.at + length before + 1 + length behind ≡ m.top.at + length (own_code x)
        place = omega (arith, length-append before (instruction.Change state slots_given ∷ behind))

        comes : Reaches program m (machine_at m (m.top.at + length before + 1 + length behind) loaded.into row.world)
        comes =
            reaches_then {m = ready} {n = machine_at m (m.top.at + length before + 1 + length behind) loaded.into row.world}
            loaded.reaches
            (reaches_then {m = changed} {n = machine_at m (m.top.at + length before + 1 + length behind) loaded.into row.world}
            (change_runs e givable) row.reaches)

        left : LeftWith x (changed_here own state all t) loaded.into row.world
        left = record {
          this = self_alike c.frame.slots later alike;
          slots_same = same_alike alike loaded.same;
          kinds = kinds_alike x.goes_on.holdings c.frame.slots later alike x.kinds;
          world = subst (λ w. SameWorld w row.world) (sym world_is) row.same;
        }

    filled_does : is_locked_out c.frame (here c) ≡ false
        → Does program m
        (fill_all program.table own state (here c) given nothing (λ h got. change_with own state rest outer c h got))
    filled_does e =
        go (fill_runs program 0 own state given (pairs given vs) (here c) nothing
        (record { by = λ k y fd none. absurd (none_some none) }) there_are.by)
      where
        go : Fills program.table own state (here c) given nothing (pairs given vs)
            → Does program m
            (fill_all program.table own state (here c) given nothing (λ h got. change_with own state rest outer c h got))
        go (fills t all givable filled on) =
            subst (Does program m) (sym (on (λ h got. change_with own state rest outer c h got)))
            (goes_filled t all e givable filled)
        go (lacks none stucks) =
            subst (Does program m) (sym (stucks (λ h got. change_with own state rest outer c h got))) (record { by = tt })

    all_does : Does program m (if is_locked_out c.frame (here c) then abort_step (by_state self_number None) c.world
        else fill_all program.table own state (here c) given nothing (λ h got. change_with own state rest outer c h got))
    all_does = go (is_locked_out c.frame (here c)) refl
      where
        go : (b : Bool) → is_locked_out c.frame (here c) ≡ b
            → Does program m (if b then abort_step (by_state self_number None) c.world
            else fill_all program.table own state (here c) given nothing (λ h got. change_with own state rest outer c h got))
        go true e = locked_out e
        go false e = filled_does e

  given_there : all_there program.table (here c) given ≡ true
      → Does program m (if is_locked_out c.frame (here c) then abort_step (by_state self_number None) c.world
      else fill_all program.table own state (here c) given nothing (λ h got. change_with own state rest outer c h got))
  given_there e =
      let a = are_there program.table (here c) given e in
      all_does a
      (loads_run x m.top.at m.top.slots m.world 0 (values_given given) a.values
      (has_front (code_here x) m.top.at before (instruction.Change state slots_given ∷ behind) (form_placed x))
      (form_scratch x) x.goes_on.slots x.world a.read_at)

  -- the step of a change of state
  pub change_does : Does program m (act program (change_form state given) rest outer c)
  change_does = does_there program m (contract_at program.table c.frame.contract) _ (λ found e.
      subst (λ k. Does program m (if all_there program.table (here c) given
      then (if is_locked_out c.frame (here c) then abort_step (by_state self_number None) c.world
      else fill_all program.table k state (here c) given nothing (λ h got. change_with k state rest outer c h got))
      else stuck)) (some_same own found (sym x.goes_on.has.is_own ∙ e)) (by_there (all_there program.table (here c) given) refl))
    where
      by_there : (b : Bool) → all_there program.table (here c) given ≡ b → Does program m (if b
          then (if is_locked_out c.frame (here c) then abort_step (by_state self_number None) c.world
          else fill_all program.table own state (here c) given nothing (λ h got. change_with own state rest outer c h got))
          else stuck)
      by_there true e = given_there e
      by_there false e = record { by = tt }

-- Forms that run straight on: what each does, its code does.
use Rattle.std.proofs.Common.{◌≡◌, ℕ, zero, suc, ◌+◌, ◌<◌, ◌≤◌, Bool, true, false, List, [], ◌∷◌, ◌++◌, length, Option, Some, None, refl, sym, ap, ◌∙◌, subst, arith, length-append, append_assoc}
use Rattle.std.specs.Prelude.{option_map, option_and_then, slice_get, if◌then◌else◌}
use Rattle.std.specs.Option.{option_map_or}
use Rattle.ob_base.specs.Optional.{◌>>=◌}
use Rattle.ob_base.specs.declared.fault.Span.{Span}
use Rattle.ob_base.specs.declared.id.ContractId.{ContractId}
use Rattle.ob_base.specs.declared.id.FieldId.{FieldId}
use Rattle.ob_base.specs.declared.id.StateId.{StateId}
use Rattle.ob_base.specs.declared.permission.Perm.{Perm}
use Rattle.ob_perm.specs.Permissions.{Permission, unowned, kept}
use Rattle.ob_table.specs.Tables.{ClassTable, contract_at, field_at}
use Rattle.ob_table.specs.declared.contract.Contract.{Contract}
use Rattle.ob_table.specs.declared.contract.Field.{Field as FieldOf}
use Rattle.ob_table.specs.declared.contract.ResolvedType.{ResolvedType}
use Rattle.ob_table.specs.declared.contract.ResolvedType.TheVariants as typed
use Rattle.ob_table.specs.declared.operator.BinaryOperator.{BinaryOperator}
use Rattle.ob_table.specs.declared.operator.BinaryOperator.TheVariants as binary
use Rattle.ob_table.specs.declared.operator.UnaryOperator.{UnaryOperator}
use Rattle.ob_table.specs.declared.operator.UnaryOperator.TheVariants as unary
use Rattle.ob_table.specs.declared.seen.Kind.{Kind}
use Rattle.ob_table.specs.declared.seen.Kind.TheVariants.{Reference}
use Rattle.ob_table_spec.specs.WellFormed.{kind_of_resolved}
use Rattle.ob_heap_spec.specs.Values.{Value, int_value, bool_value, text_value, reference, referred}
use Rattle.ob_heap_spec.specs.Objects.{Object, is_available, with_field}
use Rattle.ob_heap_spec.specs.Contents.{object_at}
use Rattle.ob_heap_spec.specs.Operations.{Operated, operated, overflows, other_kinds, between, before}
use Rattle.ob_heap_spec.specs.Worlds.{World, SameWorld, edit_object, with_unit_taken, by_fuel, by_overflow, by_revert}
use Rattle.ob_heap_spec.specs.Marks.{mark_disowned, comes_into}
use Rattle.ob_silica.specs.Terms.{SilicaForm, unit_form, const_form, op_form, copy_form, move_form, assert_form, disown_form, drop_form, revert_form, SilicaTerms}
use Rattle.ob_silica.specs.declared.place.Constant.{Constant}
use Rattle.ob_silica.specs.declared.place.Constant.TheVariants as constant
use Rattle.ob_silica.specs.declared.place.Operand.{Operand}
use Rattle.ob_silica.specs.declared.place.Place.{Place}
use Rattle.ob_silica.specs.declared.place.Place.TheVariants.{This, Slot, Field}
use Rattle.ob_silica.specs.declared.term.SilicaOperator.{SilicaOperator}
use Rattle.ob_silica.specs.declared.term.SilicaOperator.TheVariants.{Unary, Binary}
use Rattle.ob_silica_formed.specs.Holdings.{held, with_slot, form_ends, after_form, kind_of_operand}
use Rattle.ob_silica_places.specs.Known.{at, kind_of_operator, permission_of_type}
use Rattle.ob_silica_places.specs.Converting.{converted}
use Rattle.ob_silica_places.specs.Places.{Location, slot, field, location_of, located, all_located}
use Rattle.ob_silica_steps.specs.Cells.{Cell, cell, plain_cell, constant_cell, value_of_constant, value_in}
use Rattle.ob_silica_steps.specs.Configurations.{SilicaProgram, Rest, runs, Configuration, abort_step}
use Rattle.ob_silica_steps.specs.Here.{Here, here, goes_to, with_fuel_left, read, self, self_of, field_of, set_slot, set_field, set_permission, hand, counted}
use Rattle.ob_silica_steps.specs.Getting.{got_from}
use Rattle.ob_silica_steps.specs.Steps.{act}
use Rattle.ob_silica_steps.specs.Straight as silica
use Rattle.ob_silica_steps.specs.Straight.{operate, available_field, with_text}
use Rattle.ob_coherent_spec.specs.Counting.{nth_object}
use Rattle.ob_lower_correct.proofs.Standing.{shape, none_some, some_same}
use Rattle.ob_lower_correct.proofs.Changes.{permission_alike, quiet_into, quiet_object}
use Rattle.ob_lower_correct.proofs.Calling.{read_values}
use Rattle.ob_code.specs.Code.{contract_code}
use Rattle.ob_code.specs.declared.image.ContractCode.{ContractCode}
use Rattle.ob_code.specs.declared.image.Image.{Image}
use Rattle.ob_code.specs.declared.instruction.Instruction.{Instruction}
use Rattle.ob_code.specs.declared.instruction.Instruction.TheVariants as instruction
use Rattle.ob_machine_steps.specs.Configurations as machine
use Rattle.ob_code_table.specs.Images.{has_field_code}
use Rattle.ob_machine_steps.specs.Changing.{edits_this}
use Rattle.ob_machine_steps.specs.Parts.{with_world, with_units, goes_on as next_place, sets}
use Rattle.ob_machine_steps.specs.Slots.{Slots, value_at, text_of}
use Rattle.ob_machine_steps.specs.Steps as machine_steps
use Rattle.ob_machine_steps.specs.Straight as straight
use Rattle.ob_emit_spec.specs.EmittedImages.{emitted_contract}
use Rattle.ob_emit_spec.specs.Emission.{constant_code, unary_code, binary_code, fetch_code, share_in_field}
use Rattle.ob_emit_spec.specs.Operands.{slot_read, loads, all_scratch_slots, share}
use Rattle.ob_emit_correct.specs.Law.{code_of}
use Rattle.ob_emit_correct.proofs.Placing.{HasAt}
use Rattle.ob_emit_correct.proofs.Matching.{Does}
use Rattle.ob_emit_correct.proofs.Agreeing.{contract_found, fields_agree}
use Rattle.ob_emit_correct.proofs.Stepping.{Reaches, reaches_here, reaches_then, does_reached, does_abort, does_there}
use Rattle.ob_emit_correct.proofs.Placed.{has_front, has_back, machine_at, FormStep, around_forms, code_here, slot_count, own_code, form_placed, form_formed, instruction_here, steps_here, LeftWith, goes_on}
use Rattle.ob_emit_correct.proofs.Worlds.{same_unit, same_edit, same_disowned}
use Rattle.ob_emit_correct.proofs.Slots.{set_in, sets_slot, same_set, same_drop, same_alike, self_alike, self_other, kinds_alike, kinds_set, kinds_drop, scratch, form_scratch, form_slots, Standing, loads_field, loads_run}
use Rattle.ob_emit_correct.proofs.Reading.{object_there, this_contract, read_kind, read_refers}
use Rattle.ob_emit_correct.proofs.Marks.{are_in, MayCome, marks_one}

-- What is left after a form.

module _ {program : SilicaProgram} {form : SilicaForm} {span : Span} {rest : SilicaTerms} {outer : List Rest} {c : Configuration}
    {m : machine.Configuration} (x : FormStep program form span rest outer c m) where
  -- a form has changed permissions alone, and perhaps the world
  pub left_alike : (t : Here) (slots : Slots) (w : World)
      → after_form (around_forms x).static form x.goes_on.holdings ≡ x.goes_on.holdings
      → ((j : ℕ) → shape (t.slots j) ≡ shape (c.frame.slots j)) → Standing x slots → SameWorld t.world w → LeftWith x t slots w
  left_alike t slots w after alike s same = record {
    this = self_alike c.frame.slots t.slots alike;
    slots_same = same_alike alike s;
    kinds = rw after (kinds_alike x.goes_on.holdings c.frame.slots t.slots alike x.kinds);
    world = same;
  }

  -- a form has set a slot, too
  pub left_set : (k : ℕ) (kind : Option Kind) (y : Cell) (t : Here) (slots : Slots) (w : World) → 0 < k → k < scratch x
      → after_form (around_forms x).static form x.goes_on.holdings ≡ with_slot k (held kind) x.goes_on.holdings
      → ((known : Kind) → kind ≡ Some known → y.note.kind ≡ known)
      → ((j : ℕ) → shape (t.slots j) ≡ shape (c.frame.slots j)) → Standing x slots → SameWorld t.world w
      → LeftWith x (set_slot k (Some y) t) (set_in slots k y.value) w
  left_set k kind y t slots w pos lt after is alike s same =
      let le = form_scratch x in
      record {
        this = self_other t.slots k (Some y) pos ∙ self_alike c.frame.slots t.slots alike;
        slots_same = same_set k y lt (omega (arith, le)) (same_alike alike s);
        kinds = rw after
            (kinds_set x.goes_on.holdings t.slots k kind y is (kinds_alike x.goes_on.holdings c.frame.slots t.slots alike x.kinds));
        world = same;
      }

  -- the machine has so many slots
  pub slot_there : (k : ℕ) (slots : Slots) → k < scratch x → Standing x slots → k < length slots
  slot_there k slots lt s = let le = form_scratch x in omega (arith, le, lt, s.many)

  -- Operands are loaded.

  -- the place behind the loads of operands
  abbrev pub behind_loads : List Operand → ℕ
  behind_loads os = m.top.at + length (loads (scratch x) 0 os)

  -- an operand is loaded, and this code follows
  pub record OneLoaded (o : Operand) (y : Cell) (more : List Instruction) : Type 0 where
    pub into : Slots
    pub same : Standing x into
    pub reaches : Reaches program m (machine_at m (behind_loads (o ∷ [])) into m.world)
    pub value : value_at into (slot_read (scratch x) 0 o.place) ≡ Some y.value
    pub code : HasAt (code_here x) (behind_loads (o ∷ [])) more

  pub one_loaded : (o : Operand) (y : Cell) (more : List Instruction)
      → HasAt (code_here x) m.top.at (loads (scratch x) 0 (o ∷ []) ++ more)
      → scratch x + all_scratch_slots 0 (o ∷ []) ≤ slot_count x → read program.table (here c) (located o) ≡ Some y
      → OneLoaded o y more
  one_loaded o y more h le e =
      let values : read_values program.table (here c) (all_located (o ∷ [])) ≡ Some (y.value ∷ []) =
      ap (λ r. option_and_then (λ v. option_map (λ vs. v ∷ vs) (Some [])) (value_in r)) e in
      let l =
      loads_run x m.top.at m.top.slots m.world 0 (o ∷ []) (y.value ∷ [])
      (has_front (code_here x) m.top.at (loads (scratch x) 0 (o ∷ [])) more h) le x.goes_on.slots x.world values in
      record {
        into = l.into;
        same = l.same;
        reaches = l.reaches;
        value = (are_in l.into (slot_read (scratch x) 0 o.place ∷ []) (y.value ∷ []) l.values).0;
        code = has_back (code_here x) m.top.at (loads (scratch x) 0 (o ∷ [])) more h;
      }

  -- two operands are loaded, and this code follows
  record TwoLoaded (a b : Operand) (y z : Cell) (more : List Instruction) : Type 0 where
    into : Slots
    same : Standing x into
    reaches : Reaches program m (machine_at m (behind_loads (a ∷ b ∷ [])) into m.world)
    first : value_at into (slot_read (scratch x) 0 a.place) ≡ Some y.value
    second : value_at into (slot_read (scratch x) 1 b.place) ≡ Some z.value
    code : HasAt (code_here x) (behind_loads (a ∷ b ∷ [])) more

  two_loaded : (a b : Operand) (y z : Cell) (more : List Instruction)
      → HasAt (code_here x) m.top.at (loads (scratch x) 0 (a ∷ b ∷ []) ++ more)
      → scratch x + all_scratch_slots 0 (a ∷ b ∷ []) ≤ slot_count x → read program.table (here c) (located a) ≡ Some y
      → read program.table (here c) (located b) ≡ Some z
      → TwoLoaded a b y z more
  two_loaded a b y z more h le e f =
      let values : read_values program.table (here c) (all_located (a ∷ b ∷ [])) ≡ Some (y.value ∷ z.value ∷ []) =
      ap (λ r. option_and_then (λ v. option_map (λ vs. v ∷ vs) (read_values program.table (here c) (all_located (b ∷ []))))
      (value_in r)) e
      ∙ ap (λ r. option_map (λ vs. y.value ∷ vs) (option_and_then (λ v. option_map (λ vs. v ∷ vs) (Some [])) (value_in r))) f in
      let l =
      loads_run x m.top.at m.top.slots m.world 0 (a ∷ b ∷ []) (y.value ∷ z.value ∷ [])
      (has_front (code_here x) m.top.at (loads (scratch x) 0 (a ∷ b ∷ [])) more h) le x.goes_on.slots x.world values in
      let both =
      are_in l.into (slot_read (scratch x) 0 a.place ∷ slot_read (scratch x) 1 b.place ∷ [])
      (y.value ∷ z.value ∷ []) l.values in
      record {
        into = l.into;
        same = l.same;
        reaches = l.reaches;
        first = both.0;
        second = both.1.0;
        code = has_back (code_here x) m.top.at (loads (scratch x) 0 (a ∷ b ∷ [])) more h;
      }

  -- An instruction behind what was reached sets a slot, and the frame goes on.
  set_goes_on : (k : ℕ) (kind : Option Kind) (y : Cell) (t : Here) (place : ℕ) (slots : Slots) (w : World)
      → form_ends form ≡ false → 0 < k → k < scratch x
      → after_form (around_forms x).static form x.goes_on.holdings ≡ with_slot k (held kind) x.goes_on.holdings
      → ((known : Kind) → kind ≡ Some known → y.note.kind ≡ known)
      → ((j : ℕ) → shape (t.slots j) ≡ shape (c.frame.slots j)) → Standing x slots → SameWorld t.world w
      → place ≡ m.top.at + length (own_code x)
      → Reaches program m (machine_at m place (set_in slots k y.value) w)
      → Does program m (goes_to c (set_slot k (Some y) t) (runs rest outer))
  set_goes_on k kind y t place slots w ends pos lt after is alike s same e r =
      goes_on x (set_slot k (Some y) t) place (set_in slots k y.value) w ends e
      (left_set k kind y t slots w pos lt after is alike s same) r

  -- what an operation comes to, where its instruction stands
  operated_does : (k line : ℕ) (kind : Kind) (r : Operated) (i : Instruction) (place : ℕ) (slots : Slots) → form_ends form ≡ false
      → 0 < k → k < scratch x
      → after_form (around_forms x).static form x.goes_on.holdings ≡ with_slot k (held (Some kind)) x.goes_on.holdings
      → Standing x slots → place + 1 ≡ m.top.at + length (own_code x)
      → Reaches program m (machine_at m place slots m.world) → slice_get (code_here x) place ≡ Some i
      → machine_steps.act (code_of program) i (machine_at m place slots m.world) ≡ straight.with_operated line m.world r
      (λ v. sets k v (machine_at m place slots m.world))
      → Does program m
      (silica.with_operated line c.world r (λ v. goes_to c (set_slot k (Some (plain_cell v kind)) (here c)) (runs rest outer)))
  operated_does k line kind (operated v) i place slots ends pos lt after s e reaches at acts =
      let one =
      steps_here x place slots m.world (machine_at m (place + 1) (set_in slots k v) m.world) i at
      (acts ∙ sets_slot (machine_at m place slots m.world) k v (slot_there k slots lt s)) in
      set_goes_on k (Some kind) (plain_cell v kind) (here c) (place + 1) slots m.world ends pos lt after
      (λ known f. some_same kind known f) (λ j. refl) s x.world e (reaches_then reaches one)
  operated_does k line kind overflows i place slots ends pos lt after s e reaches at acts =
      does_reached reaches
      (does_abort program (machine_at m place slots m.world) i (by_overflow line) c.world m.world
      (instruction_here x place slots m.world i at) acts x.world)
  operated_does k line kind other_kinds i place slots ends pos lt after s e reaches at acts = record { by = tt }

  -- a slot gets the value of a place
  fetch_runs : (k : ℕ) (p : Place) (y : Cell) → slice_get (code_here x) m.top.at ≡ Some (fetch_code k p) → k < scratch x
      → read program.table (here c) (location_of p) ≡ Some y
      → Reaches program m (machine_at m (m.top.at + 1) (set_in m.top.slots k y.value) m.world)
  fetch_runs k This y i lt e =
      steps_here x m.top.at m.top.slots m.world (machine_at m (m.top.at + 1) (set_in m.top.slots k y.value) m.world)
      (instruction.Copy k 0) i
      (ap (λ o. o >>= λ v. sets k v m) (x.goes_on.slots.same 0 y e)
      ∙ sets_slot m k y.value (slot_there k m.top.slots lt x.goes_on.slots))
  fetch_runs k (Slot a) y i lt e =
      steps_here x m.top.at m.top.slots m.world (machine_at m (m.top.at + 1) (set_in m.top.slots k y.value) m.world)
      (instruction.Copy k a) i
      (ap (λ o. o >>= λ v. sets k v m) (x.goes_on.slots.same a y e)
      ∙ sets_slot m k y.value (slot_there k m.top.slots lt x.goes_on.slots))
  fetch_runs k (Field id) y i lt e =
      loads_field x m.top.at m.top.slots m.world k id y.value i (slot_there k m.top.slots lt x.goes_on.slots) x.world
      (ap value_in e)

  -- a field of `this` gets the value of a slot
  store_runs : (place : ℕ) (slots : Slots) (w : World) (id : FieldId) (a : ℕ) (v : Value) (o : Object) (fd : FieldOf)
      → slice_get (code_here x) place ≡ Some (instruction.Store id a)
      → value_at slots a ≡ Some v → object_at w.objects m.top.this ≡ Some o → o.contract ≡ c.frame.contract
      → field_at x.goes_on.has.own id ≡ Some fd → is_available o.state fd ≡ true
      → Reaches program (machine_at m place slots w)
      (machine_at m (place + 1) slots (edit_object (with_field id.0 v) m.top.this w))
  store_runs place slots w id a v o fd i e this contract ef available =
      let M = machine_at m place slots w in
      let own = x.goes_on.has.own in
      let code = emitted_contract program.table program.bodies c.frame.contract own in
      let found : contract_code (code_of program) o.contract ≡ Some code =
      ap (contract_code (code_of program)) contract ∙ contract_found program c.frame.contract own x.goes_on.has.is_own in
      let there : has_field_code code o.state id.0 ≡ true =
      fields_agree program.table program.bodies c.frame.contract own o.state id.0
      ∙ ap (λ (f : Option FieldOf). option_map_or (is_available o.state) f false) ef ∙ available in
      steps_here x place slots w (machine_at m (place + 1) slots (edit_object (with_field id.0 v) m.top.this w))
      (instruction.Store id a) i
      (ap (λ r. r >>= λ v. object_at w.objects m.top.this >>= λ (o : Object). contract_code (code_of program) o.contract
      >>= λ (own : ContractCode). if has_field_code own o.state id.0 then edits_this (with_field id.0 v) M else None) e
      ∙ ap (λ r. r >>= λ (o : Object). contract_code (code_of program) o.contract
      >>= λ (own : ContractCode). if has_field_code own o.state id.0 then edits_this (with_field id.0 v) M else None) this
      ∙ ap (λ r. r >>= λ (own : ContractCode). if has_field_code own o.state id.0 then edits_this (with_field id.0 v) M else None)
      found
      ∙ ap (λ b. if b then edits_this (with_field id.0 v) M else None) there)

  -- what `this` is in the machine's world
  this_machine : (w v : World) (o : Object) → SameWorld w v → object_at w.objects (self_of c.frame.slots) ≡ Some o
      → object_at v.objects m.top.this ≡ Some o
  this_machine w v o s e = ap (λ os. object_at os m.top.this) s.objects ∙ ap (object_at w.objects) x.goes_on.frame.this ∙ e

  -- the frame's contract has the field of an object of it
  own_field : (o : Object) (id : FieldId) (fd : FieldOf) → o.contract ≡ c.frame.contract → field_of program.table o id.0 ≡ Some fd
      → field_at x.goes_on.has.own id ≡ Some fd
  own_field o id fd contract e =
      sym (ap (λ (own : Option Contract). option_and_then (λ (own : Contract). field_at own id) own)
      (ap (contract_at program.table) contract ∙ x.goes_on.has.is_own)) ∙ e

  -- an instruction behind what was reached sets a field of `this`, and the frame goes on
  store_goes_on : (t : Here) (y : Cell) (id : FieldId) (a : ℕ) (fd : FieldOf) (o : Object) (place : ℕ) (slots : Slots) (w : World)
      → form_ends form ≡ false
      → after_form (around_forms x).static form x.goes_on.holdings ≡ x.goes_on.holdings
      → ((j : ℕ) → shape (t.slots j) ≡ shape (c.frame.slots j)) → Standing x slots → SameWorld t.world w
      → slice_get (code_here x) place ≡ Some (instruction.Store id a) → value_at slots a ≡ Some y.value
      → object_at t.world.objects (self_of c.frame.slots) ≡ Some o → o.contract ≡ c.frame.contract
      → field_at x.goes_on.has.own id ≡ Some fd → is_available o.state fd ≡ true → place + 1 ≡ m.top.at + length (own_code x)
      → Reaches program m (machine_at m place slots w) → Does program m (goes_to c (set_field id.0 y t) (runs rest outer))
  store_goes_on t y id a fd o place slots w ends after alike s same i e this contract ef available here_is r =
      let edited = edit_object (with_field id.0 y.value) in
      let self : m.top.this ≡ self_of t.slots = x.goes_on.frame.this ∙ sym (self_alike c.frame.slots t.slots alike) in
      let worlds : SameWorld (edited (self_of t.slots) t.world) (edited m.top.this w) =
      subst (λ n. SameWorld (edited (self_of t.slots) t.world) (edited n w)) (sym self)
      (same_edit (with_field id.0 y.value) (self_of t.slots) same) in
      goes_on x (set_field id.0 y t) (place + 1) slots (edited m.top.this w) ends here_is
      (left_alike (set_field id.0 y t) slots (edited m.top.this w) after alike s worlds)
      (reaches_then r (store_runs place slots w id a y.value o fd i e (this_machine t.world w o same this) contract ef available))

-- Parts of forms.

-- the code of a constant sets a slot to its value
constant_sets : (image : Image) (m : machine.Configuration) (k : ℕ) (value : Constant)
    → machine_steps.act image (constant_code k value) m ≡ sets k (value_of_constant value) m
constant_sets image m k (constant.Int z) = refl
constant_sets image m k (constant.Bool true) = refl
constant_sets image m k (constant.Bool false) = refl
constant_sets image m k (constant.Text bytes) = refl

-- what an instruction gives of one operand
unary_operates : (o : UnaryOperator) (slots : Slots) (a b : ℕ) (y : Value) → value_at slots a ≡ Some y
    → straight.operation (unary_code o) slots a b ≡ Some (before o y)
unary_operates unary.Not slots a b y e = ap (λ r. r >>= λ x. Some (before unary.Not x)) e
unary_operates unary.Negate slots a b y e = ap (λ r. r >>= λ x. Some (before unary.Negate x)) e

two_values : (f : Value → Value → Operated) (slots : Slots) (a b : ℕ) (y z : Value) → value_at slots a ≡ Some y
    → value_at slots b ≡ Some z
    → (value_at slots a >>= λ x. value_at slots b >>= λ w. Some (f x w)) ≡ Some (f y z)
two_values f slots a b y z e g =
    ap (λ r. r >>= λ x. value_at slots b >>= λ w. Some (f x w)) e ∙ ap (λ r. r >>= λ w. Some (f y w)) g

-- what an instruction gives of two operands
binary_operates : (o : BinaryOperator) (slots : Slots) (a b : ℕ) (y z : Value) → value_at slots a ≡ Some y
    → value_at slots b ≡ Some z
    → straight.operation (binary_code o) slots a b ≡ Some (between o y z)
binary_operates binary.Add slots a b y z e g = two_values (between binary.Add) slots a b y z e g
binary_operates binary.Sub slots a b y z e g = two_values (between binary.Sub) slots a b y z e g
binary_operates binary.Mul slots a b y z e g = two_values (between binary.Mul) slots a b y z e g
binary_operates binary.Div slots a b y z e g = two_values (between binary.Div) slots a b y z e g
binary_operates binary.Rem slots a b y z e g = two_values (between binary.Rem) slots a b y z e g
binary_operates binary.Equal slots a b y z e g = two_values (between binary.Equal) slots a b y z e g
binary_operates binary.NotEqual slots a b y z e g = two_values (between binary.NotEqual) slots a b y z e g
binary_operates binary.Less slots a b y z e g = two_values (between binary.Less) slots a b y z e g
binary_operates binary.LessEqual slots a b y z e g = two_values (between binary.LessEqual) slots a b y z e g
binary_operates binary.Greater slots a b y z e g = two_values (between binary.Greater) slots a b y z e g
binary_operates binary.GreaterEqual slots a b y z e g = two_values (between binary.GreaterEqual) slots a b y z e g

-- a field that is available is one of the object's
available_by : (b : Bool) (f fd : FieldOf) → (if b then Some f else None) ≡ Some fd → (b ≡ true) × (f ≡ fd)
available_by true f fd e = (refl, some_same f fd e)
available_by false f fd e = absurd (none_some e)

available_of : (state : Option StateId) (f : Option FieldOf) (fd : FieldOf)
    → option_and_then (λ (f : FieldOf). if is_available state f then Some f else None) f ≡ Some fd
    → (f ≡ Some fd) × (is_available state fd ≡ true)
available_of state None fd e = absurd (none_some e)
available_of state (Some f) fd e =
    let h = available_by (is_available state f) f fd e in (ap Some h.1, ap (is_available state) (sym h.1) ∙ h.0)

available_from : (table : ClassTable) (o : Option Object) (k : ℕ) (fd : FieldOf)
    → option_and_then
    (λ (o : Object). option_and_then (λ (f : FieldOf). if is_available o.state f then Some f else None) (field_of table o k))
    o ≡ Some fd
    → (p : Object) × (o ≡ Some p) × (field_of table p k ≡ Some fd) × (is_available p.state fd ≡ true)
available_from table None k fd e = absurd (none_some e)
available_from table (Some o) k fd e = let h = available_of o.state (field_of table o k) fd e in (o, refl, h.0, h.1)

-- an object that is there is marked
marks_so : (mark : ℕ → World → World) (M : machine.Configuration) (a n : ℕ) (v : Value) (o : Object)
    → value_at M.top.slots a ≡ Some v → referred v ≡ Some n → object_at M.world.objects n ≡ Some o
    → straight.marks_object mark a M ≡ next_place (with_world (mark n M.world) M)
marks_so mark M a n v o e r there =
    ap (λ r. (r >>= λ v. referred v) >>= λ n. object_at M.world.objects n >>= λ o. next_place (with_world (mark n M.world) M)) e
    ∙ ap (λ r. r >>= λ n. object_at M.world.objects n >>= λ o. next_place (with_world (mark n M.world) M)) r
    ∙ ap (λ r. r >>= λ o. next_place (with_world (mark n M.world) M)) there

-- a permission changes no world, and handing over changes it as what comes in does
pub permission_world : (place : Location) (p : Permission) (h : Here) → (set_permission place p h).world ≡ h.world
permission_world (slot k) p h = refl
permission_world (field k) p h = refl

-- a reference to an object that is there may come into any place
may_come : (w : World) (of : ResolvedType) (n : ℕ) (o : Object) → object_at w.objects n ≡ Some o → MayCome w of (reference n)
may_come w typed.Int n o e = tt
may_come w typed.Bool n o e = tt
may_come w typed.Text n o e = tt
may_come w (typed.Reference id p) n o e = (o, e)

-- Forms.

module _ {program : SilicaProgram} {span : Span} {rest : SilicaTerms} {outer : List Rest} {c : Configuration}
    {m : machine.Configuration} where
  pub unit_does : FormStep program unit_form span rest outer c m → Does program m (act program unit_form rest outer c)
  unit_does x = by c.world.fuel refl
    where
      by : (n : ℕ) → c.world.fuel ≡ n
          → Does program m (with_fuel_left n c.world (λ w. goes_to c (record (here c) { world = w }) (runs rest outer)))
      by zero e =
          does_abort program m instruction.Unit by_fuel c.world m.world
          (instruction_here x m.top.at m.top.slots m.world instruction.Unit (form_placed x).0)
          (ap (λ n. with_units n m.world (λ w. next_place (with_world w m))) (x.world.fuel ∙ e)) x.world
      by (suc n) e =
          goes_on x (record (here c) { world = with_unit_taken c.world n }) (m.top.at + 1) m.top.slots
          (with_unit_taken m.world n) refl (omega arith)
          (left_alike x (record (here c) { world = with_unit_taken c.world n }) m.top.slots (with_unit_taken m.world n) refl
          (λ j. refl) x.goes_on.slots (same_unit n x.world))
          (steps_here x m.top.at m.top.slots m.world
          (machine_at m (m.top.at + 1) m.top.slots (with_unit_taken m.world n)) instruction.Unit (form_placed x).0
          (ap (λ n. with_units n m.world (λ w. next_place (with_world w m))) (x.world.fuel ∙ e)))

  pub const_does : {k : ℕ} {value : Constant} → FormStep program (const_form k value) span rest outer c m
      → Does program m (act program (const_form k value) rest outer c)
  const_does {k} {value} x =
      let le = form_slots x in
      let p = (form_formed x).params in
      let lt : k < scratch x = omega (arith, le) in
      let pos : 0 < k = omega (arith, p) in
      set_goes_on x k (Some (constant_cell value).note.kind) (constant_cell value) (here c)
      (m.top.at + 1) m.top.slots m.world refl pos lt refl (λ known f. some_same _ known f) (λ j. refl) x.goes_on.slots x.world
      (omega arith)
      (steps_here x m.top.at m.top.slots m.world
      (machine_at m (m.top.at + 1) (set_in m.top.slots k (value_of_constant value)) m.world) (constant_code k value)
      (form_placed x).0
      (constant_sets (code_of program) m k value
      ∙ sets_slot m k (value_of_constant value) (slot_there x k m.top.slots lt x.goes_on.slots)))

  op_by : (operator : SilicaOperator) {k line : ℕ} {a b : Operand}
      (x : FormStep program (op_form k operator a b line) span rest outer c m) (y z : Cell)
      → read program.table (here c) (located a) ≡ Some y → read program.table (here c) (located b) ≡ Some z
      → Does program m
      (silica.with_operated line c.world (operate operator y.value z.value)
      (λ v. goes_to c (set_slot k (Some (plain_cell v (kind_of_operator operator))) (here c)) (runs rest outer)))
  op_by (Unary o) {k} {line} {a} {b} x y z e f =
      let s = slot_read (scratch x) 0 a.place in
      let i = instruction.Op k (unary_code o) s s line in
      let le = form_scratch x in
      let named = form_slots x in
      let p = (form_formed x).params in
      let l = one_loaded x a y (i ∷ []) (form_placed x) (omega (arith, le)) e in
      let size = length-append (loads (scratch x) 0 (a ∷ [])) (i ∷ []) in
      operated_does x k line (kind_of_operator (Unary o)) (before o y.value) i (behind_loads x (a ∷ [])) l.into refl
      (omega (arith, p)) (omega (arith, named)) refl l.same (omega (arith, size)) l.reaches l.code.0
      (ap (λ r. r >>= λ q. straight.with_operated line m.world q
      (λ v. sets k v (machine_at m (behind_loads x (a ∷ [])) l.into m.world))) (unary_operates o l.into s s y.value l.value))
  op_by (Binary o) {k} {line} {a} {b} x y z e f =
      let i = instruction.Op k (binary_code o) (slot_read (scratch x) 0 a.place) (slot_read (scratch x) 1 b.place) line in
      let le = form_scratch x in
      let named = form_slots x in
      let p = (form_formed x).params in
      let l = two_loaded x a b y z (i ∷ []) (form_placed x) (omega (arith, le)) e f in
      let size = length-append (loads (scratch x) 0 (a ∷ b ∷ [])) (i ∷ []) in
      operated_does x k line (kind_of_operator (Binary o)) (between o y.value z.value) i (behind_loads x (a ∷ b ∷ [])) l.into refl
      (omega (arith, p)) (omega (arith, named)) refl l.same (omega (arith, size)) l.reaches l.code.0
      (ap (λ r. r >>= λ q. straight.with_operated line m.world q
      (λ v. sets k v (machine_at m (behind_loads x (a ∷ b ∷ [])) l.into m.world)))
      (binary_operates o l.into (slot_read (scratch x) 0 a.place)
      (slot_read (scratch x) 1 b.place) y.value z.value l.first l.second))

  pub op_does : {k line : ℕ} {operator : SilicaOperator} {a b : Operand}
      → FormStep program (op_form k operator a b line) span rest outer c m
      → Does program m (act program (op_form k operator a b line) rest outer c)
  op_does {k} {line} {operator} {a} {b} x =
      does_there program m (read program.table (here c) (located a)) _
      (λ y e. does_there program m (read program.table (here c) (located b)) _ (λ z f. op_by operator x y z e f))

  copy_by : (to : Place) {from : Operand} (x : FormStep program (copy_form to from) span rest outer c m) (y : Cell)
      → read program.table (here c) (located from) ≡ Some y
      → Does program m (silica.copy_to program.table (location_of to) y (here c) (λ h. goes_to c h (runs rest outer)))
  copy_by This x y e = let p = (form_formed x).params in absurd (omega (arith, p))
  copy_by (Slot k) {from} x y e =
      let named = form_slots x in
      let p = (form_formed x).params in
      let lt : k < scratch x = omega (arith, named) in
      set_goes_on x k (kind_of_operand (around_forms x).static x.goes_on.holdings from) (plain_cell y.value y.note.kind) (here c)
      (m.top.at + 1) m.top.slots m.world refl (omega (arith, p)) lt refl
      (λ known f. read_kind x from y known e f) (λ j. refl) x.goes_on.slots x.world (omega arith)
      (fetch_runs x k from.place y (form_placed x).0 lt e)
  copy_by (Field id) {from} x y e = does_there program m (available_field program.table (here c) id.0) _ (λ fd ef.
      let s = slot_read (scratch x) 0 from.place in
      let i = instruction.Store id s in
      let le = form_scratch x in
      let l = one_loaded x from y (i ∷ []) (form_placed x) (omega (arith, le)) e in
      let size = length-append (loads (scratch x) 0 (from ∷ [])) (i ∷ []) in
      let o = available_from program.table (self (here c)) id.0 fd ef in
      let contract = this_contract x o.0 o.1 in
      store_goes_on x (here c) (plain_cell y.value (kind_of_resolved fd.of)) id s fd o.0
      (behind_loads x (from ∷ [])) l.into m.world refl refl (λ j. refl) l.same x.world l.code.0 l.value o.1 contract
      (own_field x o.0 id fd contract o.2) o.3 (omega (arith, size)) l.reaches)

  pub copy_does : {to : Place} {from : Operand} → FormStep program (copy_form to from) span rest outer c m
      → Does program m (act program (copy_form to from) rest outer c)
  copy_does {to} {from} x = does_there program m (read program.table (here c) (located from)) _ (λ y e. copy_by to x y e)

  pub assert_does : {o : Operand} {perm : Perm} → FormStep program (assert_form o perm) span rest outer c m
      → Does program m (act program (assert_form o perm) rest outer c)
  assert_does x =
      goes_on x (here c) m.top.at m.top.slots m.world refl (omega arith)
      (left_alike x (here c) m.top.slots m.world refl (λ j. refl) x.goes_on.slots x.world) (reaches_here program m)

  pub drop_does : {k : ℕ} → FormStep program (drop_form k) span rest outer c m
      → Does program m (act program (drop_form k) rest outer c)
  drop_does {k} x =
      let p = (form_formed x).params in
      goes_on x (set_slot k None (here c)) m.top.at m.top.slots m.world refl (omega arith)
      (record {
        this = self_other c.frame.slots k None (omega (arith, p));
        slots_same = same_drop k x.goes_on.slots;
        kinds = kinds_drop x.goes_on.holdings c.frame.slots k x.kinds;
        world = x.world;
      })
      (reaches_here program m)

  pub disown_does : {o : Operand} → FormStep program (disown_form o) span rest outer c m
      → Does program m (act program (disown_form o) rest outer c)
  disown_does {o} x =
      does_there program m (read program.table (here c) (located o)) _ (λ y e. does_there program m (referred y.value) _ (λ n r.
      let i = instruction.Disown (slot_read (scratch x) 0 o.place) in
      let le = form_scratch x in
      let l = one_loaded x o y (i ∷ []) (form_placed x) (omega (arith, le)) e in
      let size = length-append (loads (scratch x) 0 (o ∷ [])) (i ∷ []) in
      let known = read_refers x o y e (form_formed x).kinds in
      let same : known.0 ≡ n = some_same known.0 n (sym (ap referred known.1) ∙ r) in
      let there : object_at m.world.objects n ≡ Some (nth_object c.world.objects n) =
      ap (λ os. object_at os n) x.world.objects
      ∙ object_there c.world.objects n (subst (λ k. k < length c.world.objects) same known.2) in
      let place = behind_loads x (o ∷ []) in
      let M = machine_at m place l.into m.world in
      let t : Here = set_permission (located o) unowned (record (here c) { world = mark_disowned n c.world }) in
      goes_on x t (place + 1) l.into (mark_disowned n m.world) refl (omega (arith, size))
      (left_alike x t l.into (mark_disowned n m.world) refl
      (permission_alike (located o) unowned (record (here c) { world = mark_disowned n c.world })).slots l.same
      (rw (permission_world (located o) unowned (record (here c) { world = mark_disowned n c.world })) (same_disowned n x.world)))
      (reaches_then l.reaches
      (steps_here x place l.into m.world (machine_at m (place + 1) l.into (mark_disowned n m.world)) i l.code.0
      (marks_so mark_disowned M (slot_read (scratch x) 0 o.place) n y.value (nth_object c.world.objects n) l.value r there)))))

  pub revert_does : {o : Operand} → FormStep program (revert_form o) span rest outer c m
      → Does program m (act program (revert_form o) rest outer c)
  revert_does {o} x = does_there program m (read program.table (here c) (located o)) _ (λ y e. by y e y.value refl)
    where
      by : (y : Cell) → read program.table (here c) (located o) ≡ Some y → (v : Value) → y.value ≡ v
          → Does program m (with_text v (λ bytes. abort_step (by_revert bytes) c.world))
      by y e (int_value z) is = record { by = tt }
      by y e (bool_value b) is = record { by = tt }
      by y e (reference n) is = record { by = tt }
      by y e (text_value bytes) is =
          let i = instruction.Revert (slot_read (scratch x) 0 o.place) in
          let le = form_scratch x in
          let l = one_loaded x o y (i ∷ []) (form_placed x) (omega (arith, le)) e in
          let place = behind_loads x (o ∷ []) in
          let M = machine_at m place l.into m.world in
          does_reached l.reaches
          (does_abort program M i (by_revert bytes) c.world m.world (instruction_here x place l.into m.world i l.code.0)
          (ap (λ r. (r >>= text_of) >>= λ bytes. Some (machine.abort (by_revert bytes) m.world)) (l.value ∙ ap Some is)) x.world)

  move_to_slot_by : (k : ℕ) (contract : Option ContractId) {from : Operand}
      (x : FormStep program (move_form (Slot k) from contract) span rest outer c m) (y : Cell)
      → read program.table (here c) (located from) ≡ Some y
      → Does program m
      (silica.move_to_slot program.table k contract (located from) y (here c) (λ h. goes_to c h (runs rest outer)))
  move_to_slot_by k None x y e = record { by = tt }
  move_to_slot_by k (Some id) {from} x y e =
      let named = form_slots x in
      let p = (form_formed x).params in
      let lt : k < scratch x = omega (arith, named) in
      let left = kept y.note.permission (counted (here c) (located from) y) in
      set_goes_on x k (Some (Reference id))
      (cell y.value (Reference id) (converted program.table y.note.kind (Reference id) (counted (here c) (located from) y)))
      (set_permission (located from) left (here c))
      (m.top.at + 1) m.top.slots m.world refl (omega (arith, p)) lt refl (λ known f. some_same (Reference id) known f)
      (permission_alike (located from) left (here c)).slots x.goes_on.slots
      (rw (permission_world (located from) left (here c)) x.world) (omega arith)
      (fetch_runs x k from.place y (form_placed x).0 lt e)

  move_by : (to : Place) {from : Operand} {contract : Option ContractId}
      (x : FormStep program (move_form to from contract) span rest outer c m) (y : Cell)
      → read program.table (here c) (located from) ≡ Some y
      → Does program m
      (silica.move_to program.table (location_of to) contract (located from) y (here c) (λ h. goes_to c h (runs rest outer)))
  move_by This x y e = let p = (form_formed x).params in absurd (omega (arith, p))
  move_by (Slot k) {from} {contract} x y e = move_to_slot_by k contract x y e
  move_by (Field id) {from} {contract} x y e = does_there program m (available_field program.table (here c) id.0) _ (λ fd ef.
      let own = x.goes_on.has.own in
      let s = slot_read (scratch x) 0 from.place in
      let store = instruction.Store id s in
      let first = loads (scratch x) 0 (from ∷ []) in
      let o = available_from program.table (self (here c)) id.0 fd ef in
      let contract_is = this_contract x o.0 o.1 in
      let declared : field_at own id ≡ Some fd = own_field x o.0 id fd contract_is o.2 in
      let shared : share_in_field own id s ≡ share fd.of s =
      ap (λ (f : Option FieldOf). option_map_or (λ (f : FieldOf). share f.of s) f []) declared in
      let le = form_scratch x in
      let whole : own_code x ≡ first ++ (share_in_field own id s ++ store ∷ []) =
      append_assoc first (share_in_field own id s) (store ∷ []) in
      let l =
      one_loaded x from y (share_in_field own id s ++ store ∷ []) (subst (HasAt (code_here x) m.top.at) whole (form_placed x))
      (omega (arith, le)) e in
      let place = behind_loads x (from ∷ []) in
      let has : HasAt (code_here x) place (share fd.of s ++ store ∷ []) =
      subst (λ is. HasAt (code_here x) place (is ++ store ∷ [])) shared l.code in
      let M = machine_at m place l.into m.world in
      let known = read_refers x from y e (form_formed x).kinds.0 in
      let may : MayCome c.world fd.of y.value =
      subst (MayCome c.world fd.of) (sym known.1)
      (may_come c.world fd.of known.0 (nth_object c.world.objects known.0) (object_there c.world.objects known.0 known.2)) in
      let marked =
      marks_one program (code_here x) M fd.of s y.value c.world
      (λ at i f. instruction_here x at l.into m.world i f) x.world l.value may
      (has_front (code_here x) place (share fd.of s) (store ∷ []) has) in
      let p = quiet_object (quiet_into fd.of y.value c.world) (self_of c.frame.slots) o.0 o.1 in
      let t : Here = hand fd.of (located from) y (here c) in
      let world_is : t.world ≡ comes_into fd.of y.value c.world =
      permission_world (located from) (kept y.note.permission (permission_of_type fd.of))
      (record (here c) { world = comes_into fd.of y.value c.world }) in
      let size : length (own_code x) ≡ length first + (length (share fd.of s) + 1) =
      ap length whole ∙ length-append first (share_in_field own id s ++ store ∷ [])
      ∙ ap (λ is. length first + length (is ++ store ∷ [])) shared
      ∙ ap (λ n. length first + n) (length-append (share fd.of s) (store ∷ [])) in
      store_goes_on x t (got_from program.table fd.of (here c) (located from) y) id s fd p.0
      (place + length (share fd.of s)) l.into marked.world refl refl
      (permission_alike (located from) (kept y.note.permission (permission_of_type fd.of))
      (record (here c) { world = comes_into fd.of y.value c.world })).slots l.same
      (rw world_is marked.same) (has_back (code_here x) place (share fd.of s) (store ∷ []) has).0 l.value
      (rw world_is p.1) (ap (λ b. b.0) p.2 ∙ contract_is) declared (ap (λ b. is_available b.1 fd) p.2 ∙ o.3) (omega (arith, size))
      (reaches_then l.reaches marked.reaches))

  pub move_does : {to : Place} {from : Operand} {contract : Option ContractId}
      → FormStep program (move_form to from contract) span rest outer c m
      → Does program m (act program (move_form to from contract) rest outer c)
  move_does {to} {from} x = does_there program m (read program.table (here c) (located from)) _ (λ y e. move_by to x y e)

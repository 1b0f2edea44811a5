-- A return: what comes into the result is marked, and the machine stands before the instruction that returns.
use Rattle.std.proofs.Common.{◌≡◌, ◌≢◌, ℕ, ◌+◌, ◌≤◌, Bool, true, false, List, [], ◌∷◌, ◌++◌, length, Option, Some, None, refl, sym, ap, ◌∙◌, subst, eqb-true}
use Rattle.std.specs.Prelude.{nat_eq, ◌&&◌, not, option_map, option_and_then, slice_get, MatchBool, IsSomeAnd, if◌then◌else◌}
use Rattle.std.specs.Option.{option_map_or}
use Rattle.ob_base.specs.declared.fault.Span.{Span}
use Rattle.ob_table.specs.Tables.{ClassTable, contract_at, signature_at, signature_of}
use Rattle.ob_table.specs.declared.contract.Contract.{Contract}
use Rattle.ob_table.specs.declared.contract.ResolvedType.{ResolvedType}
use Rattle.ob_table.specs.declared.contract.ResolvedType.TheVariants as typed
use Rattle.ob_table.specs.declared.contract.Signature.{Signature}
use Rattle.ob_table_spec.specs.Conditions.{IsContract, IsConstructor}
use Rattle.ob_table_spec.specs.WellFormed.{kind_of_resolved, is_constructor}
use Rattle.ob_heap_spec.specs.GoingWrong.{is_finished, is_within}
use Rattle.ob_heap_spec.specs.Objects.{Object}
use Rattle.ob_heap_spec.specs.Values.{Value, reference}
use Rattle.ob_heap_spec.specs.Worlds.{World, SameWorld}
use Rattle.ob_heap_spec.specs.Marks.{without_first, comes_into}
use Rattle.ob_silica.specs.Terms.{SilicaTerms, return_form}
use Rattle.ob_silica.specs.declared.place.Operand.{Operand}
use Rattle.ob_silica_formed.specs.Holdings.{Holdings}
use Rattle.ob_silica_formed.specs.Points.{HasKind, IsReturnedAs}
use Rattle.ob_silica_places.specs.Places.{this, located}
use Rattle.ob_silica_steps.specs.Binding.{bound_cell}
use Rattle.ob_silica_steps.specs.Cells.{Cell, value_in}
use Rattle.ob_silica_steps.specs.Configurations.{SilicaProgram, How, by_receiver, by_this, by_new, Ends, plain_end, test_end, lock_end, loop_end, Rest, Configuration, NextStep, stuck}
use Rattle.ob_silica_steps.specs.Here.{Here, here, self_of, self, read, hand}
use Rattle.ob_silica_steps.specs.Returning.{exits_are_within, leaves_with, gives_this, gives_value, gives_none, gives_result}
use Rattle.ob_silica_steps.specs.Steps.{act}
use Rattle.ob_code.specs.declared.instruction.Instruction.{Instruction}
use Rattle.ob_code.specs.declared.instruction.Instruction.TheVariants as instruction
use Rattle.ob_machine_steps.specs.Configurations as machine
use Rattle.ob_machine_steps.specs.Configurations.{Entered}
use Rattle.ob_machine_steps.specs.Returning.{given_by}
use Rattle.ob_machine_steps.specs.Slots.{Slots}
use Rattle.ob_machine_steps.specs.Testing.{without_lock, without_locks}
use Rattle.ob_emit_spec.specs.Emission.{EmissionFrame, return_none_code, share_result}
use Rattle.ob_emit_spec.specs.Operands.{slot_read, loads, all_scratch_slots, share}
use Rattle.ob_lower_correct.proofs.Standing.{none_some, some_same}
use Rattle.ob_lower_correct.proofs.Placing.{hand_alike, hand_world}
use Rattle.ob_emit_correct.proofs.Agreeing.{contract_meets}
use Rattle.ob_emit_correct.proofs.Handing.{may_come}
use Rattle.ob_emit_correct.proofs.Marks.{MayCome, IsMarked, IsCodeOf, are_in, marks_one}
use Rattle.ob_emit_correct.proofs.Matching.{entered_as, Returns, as_leaving, world_after_end, world_after_ends, Does}
use Rattle.ob_emit_correct.proofs.Placed.{has_front, has_back, place_after, machine_at, FormStep, code_here, around_forms, slot_count, form_placed, form_formed, instruction_here}
use Rattle.ob_emit_correct.proofs.Placing.{HasAt, IsNotedAs, Around, outermost, plain, tested, turning}
use Rattle.ob_emit_correct.proofs.Slots.{Loaded, loads_run, scratch, form_scratch, self_alike}
use Rattle.ob_emit_correct.proofs.Stepping.{Reaches, reaches_here, reaches_then, does_reached, does_there}

-- The lists around end.

same_unlock : (n : ℕ) (w v : World) → SameWorld w v → SameWorld (world_after_end (lock_end this n) w) (without_lock (Some n) v)
same_unlock n w v s = record {
  objects = s.objects;
  made = s.made;
  locked = ap (without_first n) s.locked;
  progress = s.progress;
  fuel = s.fuel;
  taken = s.taken;
  reads = s.reads;
}

ended_same : (e : Ends) (t : Option ℕ) (w v : World) → IsNotedAs e t → SameWorld w v
    → SameWorld (world_after_end e w) (without_lock t v)
ended_same plain_end t w v is s = subst (λ o. SameWorld w (without_lock o v)) (sym is) s
ended_same (test_end p) t w v is s = subst (λ o. SameWorld w (without_lock o v)) (sym is) s
ended_same (lock_end p n) t w v is s =
    subst (λ o. SameWorld (world_after_end (lock_end p n) w) (without_lock o v)) (sym is) (same_unlock n w v s)
ended_same (loop_end first a body end) t w v is s = absurd is

-- the locks of the lists around are those of the noted tests
around_world : {f : EmissionFrame} {count : ℕ} {code : List Instruction} {at : ℕ} {ended : Bool} {h : Holdings} {outer : List
    Rest} {tests : List (Option ℕ)}
    → Around f count code at ended h outer tests → (w v : World) → SameWorld w v
    → SameWorld (world_after_ends outer w) (without_locks tests v)
around_world outermost w v s = s
around_world (plain {r = r} to i e g has em a) w v s =
    around_world a (world_after_end r.ends w) v (subst (λ z. SameWorld (world_after_end z w) v) (sym e) s)
around_world (turning {r = r} first o body end start i e at h has em a) w v s =
    around_world a (world_after_end r.ends w) v (subst (λ z. SameWorld (world_after_end z w) v) (sym e) s)
around_world (tested {r = r} to i t e g has em a) w v s =
    around_world a (world_after_end r.ends w) (without_lock t v) (ended_same r.ends t w v e s)

-- What follows where a test holds.

pub does_if : (program : SilicaProgram) (m : machine.Configuration) (b : Bool) (next : NextStep) → Does program m next
    → Does program m (if b then next else stuck)
does_if program m true next d = d
does_if program m false next d = record { by = tt }

-- a constructor's body has no result
made_nothing : (table : ClassTable) (own : Contract) (s : Signature) → IsContract table own → own.interface ≡ false
    → slice_get own.transactions 0 ≡ Some s → s.result ≡ None
made_nothing table own s c class e =
    let first =
    (subst (λ b. MatchBool b (own.constructor ≡ None)
    ((own.constructor ≡ Some (record { 0 = 0 })) × IsSomeAnd (slice_get own.transactions 0) (IsConstructor table own)))
    class c.constructor).1 in
    (subst (λ o. IsSomeAnd o (IsConstructor table own)) e first).result

module _ {program : SilicaProgram} {place : Option Operand} {span : Span} {rest : SilicaTerms} {outer : List Rest}
    {c : Configuration} {m : machine.Configuration}
    (x : FormStep program (return_form place) span rest outer c m) where
  -- the frame leaves, and the machine has come to an instruction that returns
  leaves_so : (h : Here) (result : Option Cell) (at : ℕ) (slots : Slots) (w : World) (i : Instruction)
      → Reaches program m (machine_at m at slots w)
      → self_of h.slots ≡ self_of c.frame.slots → slice_get (code_here x) at ≡ Some i
      → Returns (Some i) (machine_at m at slots w).top (value_in result)
      → SameWorld h.world w → Does program m (leaves_with c h result outer)
  leaves_so h result at slots w i reached self is ret same = does_reached reached (record {
    by = (
      0,
      machine_at m at slots w,
      refl,
      as_leaving (record {
        result = result;
        outer = outer;
        control = refl;
        frame = record {
          this = x.goes_on.frame.this ∙ sym self;
          contract = x.goes_on.frame.contract;
          tx = x.goes_on.frame.tx;
          entered = x.goes_on.frame.entered;
          share_entered = x.goes_on.frame.share_entered;
        };
        returns = subst (λ o. Returns o (machine_at m at slots w).top (value_in result))
            (sym (instruction_here x at slots w i is)) ret;
        below = x.below;
        world = around_world x.goes_on.stands.around h.world w same;
      }),
    );
  })

  abbrev own_signature : Signature
  own_signature = x.goes_on.has.signature

  -- the signature that is found
  signature_found : signature_of program.table c.frame.contract c.frame.tx ≡ Some own_signature
  signature_found = ap (option_and_then (λ c0. signature_at c0 c.frame.tx)) x.goes_on.has.is_own ∙ x.goes_on.has.is_signature

  -- whether the body is a constructor's
  constructs_as : (b : Bool) → nat_eq c.frame.tx.0 0 ≡ b → is_constructor program.table c.frame.contract c.frame.tx.0 ≡ b
  constructs_as b e =
      ap (λ o. option_map_or (λ (c0 : Contract). not c0.interface && nat_eq c.frame.tx.0 0) o false) x.coherent.whole.frame.own
      ∙ ap (λ i. not i && nat_eq c.frame.tx.0 0) x.coherent.whole.frame.class ∙ e

  not_new : c.frame.how ≢ by_new → nat_eq c.frame.tx.0 0 ≡ false
  not_new h = go (nat_eq c.frame.tx.0 0) refl
    where
      go : (b : Bool) → nat_eq c.frame.tx.0 0 ≡ b → nat_eq c.frame.tx.0 0 ≡ false
      go true e = absurd (h (x.coherent.whole.frame.constructor e))
      go false e = e

  given_result : (how : How) → c.frame.how ≡ how → (v : Option Value)
      → given_by m.top.entered m.top.this v ≡ given_by (entered_as how) m.top.this v
  given_result how e v = ap (λ z. given_by z m.top.this v) (x.goes_on.frame.entered ∙ ap entered_as e)

  -- the instructions of the body
  code_is : IsCodeOf program m (code_here x)
  code_is at i e = instruction_here x at m.top.slots m.world i e

  -- the signature of a body that gives something back by itself is no constructor's
  no_result_made : (of : ResolvedType) → own_signature.result ≡ Some of → c.frame.how ≢ by_new
  no_result_made of e h =
      let first : c.frame.tx.0 ≡ 0 = eqb-true c.frame.tx.0 0 (x.coherent.whole.frame.constructs h) in
      let own : x.goes_on.has.own ≡ x.coherent.whole.parts.own =
      some_same x.goes_on.has.own x.coherent.whole.parts.own (sym x.goes_on.has.is_own ∙ x.coherent.whole.frame.own) in
      let found : slice_get x.goes_on.has.own.transactions 0 ≡ Some own_signature =
      ap (slice_get x.goes_on.has.own.transactions) (sym first) ∙ x.goes_on.has.is_signature in
      none_some (sym (made_nothing program.table x.goes_on.has.own own_signature
      (contract_meets program.table x.checked.table c.frame.contract x.goes_on.has.own x.goes_on.has.is_own)
      (ap (λ (c0 : Contract). c0.interface) own ∙ x.coherent.whole.frame.class) found) ∙ e)

  -- an ordinary body returns without a value
  gives_none_plain : (how : How) → c.frame.how ≡ how → how ≢ by_new → given_by (entered_as how) m.top.this None ≡ None
      → HasAt (code_here x) m.top.at (return_none_code (around_forms x)) → Does program m (leaves_with c (here c) None outer)
  gives_none_plain how e other gives has =
      let none : is_constructor program.table c.frame.contract c.frame.tx.0 ≡ false =
      constructs_as false (not_new (λ z. other (sym e ∙ z))) in
      let at : HasAt (code_here x) m.top.at (instruction.Ret ∷ []) =
      subst (λ b. HasAt (code_here x) m.top.at
      ((if b then share (typed.Reference (around_forms x).static.here (around_forms x).signature.exit) 0
      else []) ++ instruction.Ret ∷ [])) none has in
      leaves_so (here c) None m.top.at m.top.slots m.world instruction.Ret (reaches_here program m) refl at.0
      (sym (given_result how e None ∙ gives)) x.world

  -- a constructor gives its object
  gives_this_does : c.frame.how ≡ by_new → HasAt (code_here x) m.top.at (return_none_code (around_forms x))
      → Does program m (gives_this program own_signature outer c)
  gives_this_does e has =
      let of = typed.Reference c.frame.contract own_signature.exit in
      let made : is_constructor program.table c.frame.contract c.frame.tx.0 ≡ true =
      constructs_as true (x.coherent.whole.frame.constructs e) in
      let at : HasAt (code_here x) m.top.at (share of 0 ++ instruction.Ret ∷ []) =
      subst (λ b. HasAt (code_here x) m.top.at ((if b then share of 0 else []) ++ instruction.Ret ∷ [])) made has in
      does_there program m (contract_at program.table c.frame.contract) _ (λ own eo.
      does_there program m (self (here c)) _ (λ o es.
      does_there program m (read program.table (here c) this) _ (λ y ey.
      does_if program m (is_finished own o) _ (by_mark of o y es ey at e))))
    where
      by_mark : (of : ResolvedType) (o : Object) (y : Cell) → self (here c) ≡ Some o → read program.table (here c) this ≡ Some y
          → HasAt (code_here x) m.top.at (share of 0 ++ instruction.Ret ∷ []) → c.frame.how ≡ by_new
          → Does program m (leaves_with c (hand of this y (here c)) (Some (bound_cell of y.value)) outer)
      by_mark of o y es ey at e =
          let cell : y ≡ x.coherent.whole.frame.this =
          some_same y x.coherent.whole.frame.this (sym ey ∙ x.coherent.whole.frame.set) in
          let refers : y.value ≡ reference (self_of c.frame.slots) =
          ap (λ (z : Cell). z.value) cell ∙ x.coherent.whole.frame.refers in
          let there : MayCome c.world of y.value = subst (MayCome c.world of) (sym refers) (object_there of o es) in
          let one : IsMarked program m (length (share of 0)) (comes_into of y.value c.world) =
          marks_one program (code_here x) m of 0 y.value c.world code_is x.world (x.goes_on.slots.same 0 y ey) there
          (has_front (code_here x) m.top.at (share of 0) (instruction.Ret ∷ []) at) in
          leaves_so (hand of this y (here c)) (Some (bound_cell of y.value))
          (m.top.at + length (share of 0)) m.top.slots one.world instruction.Ret one.reaches
          (self_alike c.frame.slots (hand of this y (here c)).slots (hand_alike program 0 of this y (here c)).slots)
          (has_back (code_here x) m.top.at (share of 0) (instruction.Ret ∷ []) at).0
          (sym (given_result by_new e None ∙ ap (λ n. Some (reference n)) x.goes_on.frame.this ∙ ap Some (sym refers)))
          one.same
        where
          object_there : (of : ResolvedType) (o : Object) → self (here c) ≡ Some o
              → MayCome c.world of (reference (self_of c.frame.slots))
          object_there (typed.Reference id p) o e = (o, e)
          object_there typed.Int o e = tt
          object_there typed.Bool o e = tt
          object_there typed.Text o e = tt

  gives_none_does : HasAt (code_here x) m.top.at (return_none_code (around_forms x))
      → Does program m (gives_none c.frame.how program own_signature outer c)
  gives_none_does has = go c.frame.how refl
    where
      go : (how : How) → c.frame.how ≡ how → Does program m (gives_none how program own_signature outer c)
      go by_receiver e = gives_none_plain by_receiver e (λ z. absurd cc) refl has
      go by_this e = gives_none_plain by_this e (λ z. absurd cc) refl has
      go by_new e = gives_this_does e has

  -- a value is given as the result
  gives_value_does : (o : Operand) (of : ResolvedType) → own_signature.result ≡ Some of
      → HasAt (code_here x) m.top.at (loads (around_forms x).scratch 0 (o ∷ [])
      ++ share_result own_signature (slot_read (around_forms x).scratch 0 o.place) ++ instruction.RetValue
      (slot_read (around_forms x).scratch 0 o.place) ∷ [])
      → scratch x + all_scratch_slots 0 (o ∷ []) ≤ slot_count x
      → HasKind (around_forms x).static x.goes_on.holdings (kind_of_resolved of) o
      → Does program m (gives_value program of (located o) outer c)
  gives_value_does o of er has room served =
      does_there program m (read program.table (here c) (located o)) _ (λ y ey.
      does_if program m (is_within program.table c.world.objects of y.value) _ (given y ey))
    where
      a : ℕ
      a = slot_read (around_forms x).scratch 0 o.place

      before : List Instruction
      before = loads (around_forms x).scratch 0 (o ∷ [])

      at : HasAt (code_here x) m.top.at (before ++ share of a ++ instruction.RetValue a ∷ [])
      at =
          subst (λ r. HasAt (code_here x) m.top.at (before ++ option_map_or (λ z. share z a) r [] ++ instruction.RetValue a ∷ []))
          er has

      marked : HasAt (code_here x) m.top.at (before ++ share of a)
      marked = has_front (code_here x) m.top.at (before ++ share of a) (instruction.RetValue a ∷ []) at

      gives_so : (how : How) → c.frame.how ≡ how → (v : Value) → given_by (entered_as how) m.top.this (Some v) ≡ Some v
      gives_so by_receiver e v = refl
      gives_so by_this e v = refl
      gives_so by_new e v = absurd (no_result_made of er e)

      given : (y : Cell) → read program.table (here c) (located o) ≡ Some y
          → Does program m (leaves_with c (hand of (located o) y (here c)) (Some (bound_cell of y.value)) outer)
      given y ey =
          let l : Loaded x m.top.at m.top.slots m.world 0 (o ∷ []) (y.value ∷ []) =
          loads_run x m.top.at m.top.slots m.world 0 (o ∷ []) (y.value ∷ [])
          (has_front (code_here x) m.top.at before (share of a) marked)
          room x.goes_on.slots x.world (ap (λ r. option_and_then (λ v. Some (v ∷ [])) (value_in r)) ey) in
          let held = are_in l.into (a ∷ []) (y.value ∷ []) l.values in
          let n = machine_at m (m.top.at + length before) l.into m.world in
          let one : IsMarked program n (length (share of a)) (comes_into of y.value c.world) =
          marks_one program (code_here x) n of a y.value c.world code_is x.world held.0
          (may_come x of o y.value served (ap value_in ey))
          (has_back (code_here x) m.top.at before (share of a) marked) in
          leaves_so (hand of (located o) y (here c)) (Some (bound_cell of y.value))
          (m.top.at + length before + length (share of a)) l.into
          one.world (instruction.RetValue a)
          (reaches_then {n = machine_at n (m.top.at + length before + length (share of a)) l.into one.world} l.reaches
          one.reaches)
          (self_alike c.frame.slots (hand of (located o) y (here c)).slots (hand_alike program 0 of (located o) y (here c)).slots)
          (ap (slice_get (code_here x)) (sym (place_after m.top.at before (share of a)))
          ∙ (has_back (code_here x) m.top.at (before ++ share of a) (instruction.RetValue a ∷ []) at).0)
          (y.value, held.0, sym (given_result c.frame.how refl (Some y.value) ∙ gives_so c.frame.how refl y.value))
          (subst (λ w. SameWorld w one.world) (sym (hand_world program 0 of (located o) y (here c))) one.same)

-- the step of a return
pub return_does : {program : SilicaProgram} {span : Span} {rest : SilicaTerms} {outer : List
    Rest} {c : Configuration} {m : machine.Configuration} (place : Option Operand)
    → FormStep program (return_form place) span rest outer c m → Does program m (act program (return_form place) rest outer c)
return_does {program = program} {outer = outer} {c = c} {m = m} None x =
    does_there program m (signature_of program.table c.frame.contract c.frame.tx) _ (λ s es.
    does_if program m (exits_are_within program.table c s) _
    (subst (λ z. Does program m (gives_result program z z.result None outer c))
    (some_same x.goes_on.has.signature s (sym (signature_found x) ∙ es))
    (gives_none_does x (form_placed x))))
return_does {program = program} {outer = outer} {c = c} {m = m} (Some o) x =
    does_there program m (signature_of program.table c.frame.contract c.frame.tx) _ (λ s es.
    does_if program m (exits_are_within program.table c s) _
    (subst (λ z. Does program m (gives_result program z z.result (Some (located o)) outer c))
    (some_same x.goes_on.has.signature s (sym (signature_found x) ∙ es))
    (by_result x.goes_on.has.signature.result refl (form_formed x).returns)))
  where
    by_result : (r : Option ResolvedType) → x.goes_on.has.signature.result ≡ r
        → IsReturnedAs (around_forms x).static x.goes_on.holdings (option_map kind_of_resolved r) (Some o)
        → Does program m (gives_result program x.goes_on.has.signature r (Some (located o)) outer c)
    by_result None e formed = absurd formed
    by_result (Some of) e formed = gives_value_does x o of e (form_placed x) (form_scratch x) formed

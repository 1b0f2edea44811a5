-- What a call hands over, up to the instruction that calls, and how its frame waits for the callee.
use Rattle.std.proofs.Common.{◌≡◌, ◌≢◌, ℕ, suc, ◌+◌, ◌<◌, ◌≤◌, Bool, true, false, List, [], ◌∷◌, ◌++◌, map, length, Option, Some, None, refl, sym, ap, ◌∙◌, subst, arith, length-append, eq-eqb, true≢false}
use Rattle.std.specs.Prelude.{nat_eq, slice_get, IfSome, if◌then◌else◌}
use Rattle.std.proofs.lemmas.Bool.{ne_eqb}
use Rattle.ob_base.specs.Optional.{◌>>=◌}
use Rattle.ob_base.specs.declared.fault.Span.{Span}
use Rattle.ob_base.specs.declared.id.ContractId.{ContractId}
use Rattle.ob_table.specs.Tables.{ClassTable}
use Rattle.ob_table.specs.declared.contract.Param.{Param}
use Rattle.ob_table.specs.declared.contract.ResolvedType.{ResolvedType}
use Rattle.ob_table.specs.declared.contract.ResolvedType.TheVariants as typed
use Rattle.ob_table.specs.declared.seen.Kind.{Kind}
use Rattle.ob_table.specs.declared.seen.Kind.TheVariants as kind
use Rattle.ob_table_spec.specs.WellFormed.{StaticFrame, kind_of_resolved, is_reference, serves_as}
use Rattle.ob_heap_spec.specs.Values.{Value, nothing}
use Rattle.ob_heap_spec.specs.Worlds.{World, SameWorld}
use Rattle.ob_silica.specs.Slots.{slots_of_result}
use Rattle.ob_silica.specs.Terms.{SilicaForm, SilicaTerms}
use Rattle.ob_silica.specs.declared.place.Operand.{Operand}
use Rattle.ob_silica_formed.specs.Holdings.{Holdings, SlotContent, held, with_slot_if, form_ends, after_form}
use Rattle.ob_silica_formed.specs.Points.{HasKind, ArePassed}
use Rattle.ob_silica_places.specs.Parameters.{Parameter, parameter_of}
use Rattle.ob_silica_places.specs.Places.{Location, located, all_located}
use Rattle.ob_silica_steps.specs.Binding.{Bound, unbound, bind_all}
use Rattle.ob_silica_steps.specs.Calling.{waits}
use Rattle.ob_silica_steps.specs.Cells.{Cell, value_in}
use Rattle.ob_silica_steps.specs.Configurations.{SilicaProgram, SlotCells, Rest, Configuration, NextStep}
use Rattle.ob_silica_steps.specs.Here.{here, read}
use Rattle.ob_places_laws.proofs.Tables.{there_is, there_from}
use Rattle.ob_code.specs.declared.instruction.Instruction.{Instruction}
use Rattle.ob_machine_steps.specs.Configurations as machine
use Rattle.ob_machine_steps.specs.Parts.{waiting}
use Rattle.ob_machine_steps.specs.Slots.{Slots, value_at, values_at}
use Rattle.ob_emit_spec.specs.Emission.{result_slot}
use Rattle.ob_emit_spec.specs.Operands.{slots_read, loads, all_scratch_slots, shares}
use Rattle.ob_emit_correct.proofs.Placing.{HasAt, Stands, KindsHold}
use Rattle.ob_emit_correct.proofs.Matching.{AllWaitFor}
use Rattle.ob_emit_correct.proofs.Stepping.{Reaches, reaches_then}
use Rattle.ob_emit_correct.proofs.Placed.{has_front, has_back, place_after, stands_rest, machine_at, FormStep, around_forms, code_here, slot_count, own_code, form_placed, instruction_here}
use Rattle.ob_emit_correct.proofs.Slots.{scratch, Standing, loads_run, same_alike, self_alike, kinds_alike}
use Rattle.ob_emit_correct.proofs.Reading.{object_there, read_refers}
use Rattle.ob_emit_correct.proofs.Marks.{MayCome, MayAllCome, AreIn, marks}
use Rattle.ob_lower_correct.proofs.Binding.{come_all, split_values, read_length, bound_slots, binds}
use Rattle.ob_lower_correct.proofs.CallsThis.{located_length}
use Rattle.ob_lower_correct.proofs.Changes.{Alike}
use Rattle.ob_lower_correct.proofs.Calling.{read_values}
use Rattle.ob_lower_correct.proofs.Standing.{none_some, some_same}
use Rattle.ob_lower_correct.proofs.Values.{there}

-- Values in slots.

abbrev first_or : Value → List Value → Value
first_or d [] = d
first_or d (v ∷ vs) = v

abbrev others : List Value → List Value
others [] = []
others (v ∷ vs) = vs

-- the first of some slots, and the others
pub values_split : (slots : Slots) (k : ℕ) (ks : List ℕ) (v : Value) (vs : List Value) → values_at slots (k ∷ ks) ≡ Some (v ∷ vs)
    → (value_at slots k ≡ Some v) × (values_at slots ks ≡ Some vs)
values_split slots k ks v vs e = by (value_at slots k) (values_at slots ks) e
  where
    by : (x : Option Value) (xs : Option (List Value)) → (x >>= λ v. xs >>= λ vs. Some (v ∷ vs)) ≡ Some (v ∷ vs)
        → (x ≡ Some v) × (xs ≡ Some vs)
    by None xs e = absurd (none_some e)
    by (Some u) None e = absurd (none_some e)
    by (Some u) (Some us) e =
        let same = some_same (u ∷ us) (v ∷ vs) e in
        (ap (λ (l : List Value). Some (first_or v l)) same, ap (λ (l : List Value). Some (others l)) same)

-- a reference serves where one is needed, and nothing else
serves_reference : (table : ClassTable) (id : ContractId) (k : Kind) → serves_as table (kind.Reference id) k ≡ true
    → is_reference k ≡ true
serves_reference table id (kind.Reference c) e = refl
serves_reference table id kind.Int e = absurd (true≢false (sym e))
serves_reference table id kind.Bool e = absurd (true≢false (sym e))
serves_reference table id kind.Text e = absurd (true≢false (sym e))

-- there are as many arguments as parameters
passed_length : (f : StaticFrame) (h : Holdings) (params : List Param) (args : List Operand) → ArePassed f h params args
    → length args ≡ length params
passed_length f h [] [] passed = refl
passed_length f h (p ∷ params) (o ∷ os) passed = ap suc (passed_length f h params os passed.1)
passed_length f h [] (o ∷ os) passed = absurd passed
passed_length f h (p ∷ params) [] passed = absurd passed

module _ {program : SilicaProgram} {form : SilicaForm} {span : Span} {rest : SilicaTerms} {outer : List Rest} {c : Configuration}
    {m : machine.Configuration} (x : FormStep program form span rest outer c m) where
  -- Arguments.

  -- the values of operands
  abbrev pub ReadAs : List Operand → List Value → Type 0
  ReadAs os vs = read_values program.table (here c) (all_located os) ≡ Some vs

  -- operands may take the place of parameters
  abbrev pub Pass : List Param → List Operand → Type 0
  Pass params os = ArePassed (around_forms x).static x.goes_on.holdings params os

  pub as_many : (params : List Param) (os : List Operand) (vs : List Value) → Pass params os → ReadAs os vs → length vs
      ≡ length params
  as_many params os vs passed reads =
      read_length program.table (here c) (all_located os) vs reads ∙ located_length os
      ∙ passed_length (around_forms x).static x.goes_on.holdings params os passed

  -- what an operand has may come into a parameter for which it serves
  pub may_come : (of : ResolvedType) (o : Operand) (v : Value)
      → HasKind (around_forms x).static x.goes_on.holdings (kind_of_resolved of) o
      → value_in (read program.table (here c) (located o)) ≡ Some v → MayCome c.world of v
  may_come (typed.Reference id p) o v has e =
      let y = there (read program.table (here c) (located o)) v e in
      let known = there_is _ (λ k. serves_as program.table (kind.Reference id) k ≡ true) has in
      let refers = serves_reference program.table id known.0 known.2 in
      let r = read_refers x o y.0 y.1 (there_from _ (λ k. is_reference k ≡ true) known.0 known.1 refers) in
      subst (MayCome c.world (typed.Reference id p)) (sym r.1 ∙ y.2) (_, object_there c.world.objects r.0 r.2)
  may_come typed.Int o v has e = tt
  may_come typed.Bool o v has e = tt
  may_come typed.Text o v has e = tt

  -- the arguments may come into the parameters
  pub may_pass : (params : List Param) (os : List Operand) (vs : List Value) → Pass params os → ReadAs os vs
      → MayAllCome c.world (map parameter_of params) vs
  may_pass [] [] vs passed e = subst (MayAllCome c.world []) (some_same [] vs e) tt
  may_pass (p ∷ params) (o ∷ os) vs passed e =
      let first = value_in (read program.table (here c) (located o)) in
      let parts = split_values first (read_values program.table (here c) (all_located os)) vs e in
      subst (MayAllCome c.world (map parameter_of (p ∷ params))) parts.4
      (may_come p.of o parts.0 passed.0 parts.2, may_pass params os parts.1 passed.1 parts.3)
  may_pass [] (o ∷ os) vs passed e = absurd passed
  may_pass (p ∷ params) [] vs passed e = absurd passed

  -- Up to the call.

  -- the code of a call: operands are loaded, what comes into parameters is marked, and then this instruction calls
  abbrev pub calling_code : List Operand → List Parameter → List ℕ → Instruction → List Instruction
  calling_code os ps ks i = loads (scratch x) 0 os ++ shares (map (λ (p : Parameter). p.of) ps) ks ++ i ∷ []

  -- The machine comes to the instruction that calls.
  pub record Handed (os : List Operand) (us : List Value) (w : World) (i : Instruction) : Type 0 where
    pub place : ℕ
    pub slots : Slots
    pub world : World
    pub stand : Standing x slots
    pub values : values_at slots (slots_read (scratch x) 0 os) ≡ Some us
    pub same : SameWorld w world
    pub reaches : Reaches program m (machine_at m place slots world)
    pub next : slice_get (code_here x) place ≡ Some i
    pub last : place + 1 ≡ m.top.at + length (own_code x)

  -- there it calls
  abbrev pub at_call : {os : List Operand} {us : List Value} {w : World} {i : Instruction} → Handed os us w i
      → machine.Configuration
  at_call h = machine_at m h.place h.slots h.world

  hands_over : (os : List Operand) (us : List Value) (ps : List Parameter) (ks : List ℕ) (vs : List Value) (i : Instruction)
      → own_code x ≡ calling_code os ps ks i → scratch x + all_scratch_slots 0 os ≤ slot_count x → ReadAs os us
      → ((slots : Slots) → Standing x slots → values_at slots (slots_read (scratch x) 0 os) ≡ Some us → AreIn slots ks vs)
      → MayAllCome c.world ps vs → Handed os us (come_all ps vs c.world) i
  hands_over os us ps ks vs i code enough reads are may =
      let first = loads (scratch x) 0 os in
      let marked = shares (map (λ (p : Parameter). p.of) ps) ks in
      let has = subst (HasAt (code_here x) m.top.at) code (form_placed x) in
      let front = has_front (code_here x) m.top.at (first ++ marked) (i ∷ []) has in
      let a = loads_run x m.top.at m.top.slots m.world 0 os us (has_front (code_here x) m.top.at first marked front) enough
      x.goes_on.slots x.world reads in
      let b = marks program (code_here x) ps ks vs (machine_at m (m.top.at + length first) a.into m.world) c.world
      (λ place i e. instruction_here x place a.into m.world i e) x.world (are a.into a.same a.values) may
      (has_back (code_here x) m.top.at first marked front) in
      record {
        place = m.top.at + length first + length marked;
        slots = a.into;
        world = b.world;
        stand = a.same;
        values = a.values;
        same = b.same;
        reaches = reaches_then a.reaches b.reaches;
        next = ap (slice_get (code_here x)) (sym (place_after m.top.at first marked))
            ∙ (has_back (code_here x) m.top.at (first ++ marked) (i ∷ []) has).0;
        last = whole first marked ∙ ap (λ (l : List Instruction). m.top.at + length l) (sym code);
      }
    where
      whole : (a b : List Instruction) → m.top.at + length a + length b + 1 ≡ m.top.at + length (a ++ b ++ i ∷ [])
      whole a b =
          let e = length-append (a ++ b) (i ∷ []) in
          let g = length-append a b in
          omega (arith, e, g)

  -- What is handed over on both sides: these places are bound to parameters from a number on, with these values, and the machine
  -- comes to the instruction with what it has loaded.
  pub record BothHand (places : List Location) (first : ℕ) (ps : List Parameter) (vs : List Value) (os : List Operand)
      (us : List Value)
      (i : Instruction) : Type 0 where
    pub bound : Bound
    pub binds_so : (go : Bound → NextStep) → bind_all program.table (unbound (here c)) places first ps go ≡ go bound
    pub slots : bound.slots ≡ bound_slots nothing first ps vs
    pub alike : Alike (here c) bound.from
    pub handed : Handed os us bound.from.world i

  pub both_hand : (places : List Location) (first : ℕ) (ps : List Parameter) (vs : List Value) (os : List Operand)
      (us : List Value)
      (ks : List ℕ) (i : Instruction) → read_values program.table (here c) places ≡ Some vs → length vs ≡ length ps
      → own_code x ≡ calling_code os ps ks i → scratch x + all_scratch_slots 0 os ≤ slot_count x → ReadAs os us
      → ((slots : Slots) → Standing x slots → values_at slots (slots_read (scratch x) 0 os) ≡ Some us → AreIn slots ks vs)
      → MayAllCome c.world ps vs → BothHand places first ps vs os us i
  both_hand places first ps vs os us ks i all many code enough reads are may =
      let b = binds program 0 places ps vs (unbound (here c)) first all many in
      record {
        bound = b.0;
        binds_so = b.1;
        slots = b.2.slots;
        alike = b.2.alike;
        handed = subst (λ w. Handed os us w i) (sym b.2.world) (hands_over os us ps ks vs i code enough reads are may);
      }

  -- Waiting.

  -- what is known of slots after a call, but of the one for its result
  other_kinds : (k : Option ℕ) (content : SlotContent) (h : Holdings) (cells : SlotCells) → KindsHold h cells → (j : ℕ) (y : Kind)
      (d : Cell) → k ≢ Some j → (with_slot_if k content h j).kind ≡ Some y → cells j ≡ Some d → d.note.kind ≡ y
  other_kinds None content h cells kinds j y d other e f = kinds j y d e f
  other_kinds (Some k) content h cells kinds j y d other e f =
      let another : nat_eq j k ≡ false = ne_eqb j k (λ same. other (ap (λ n. Some n) (sym same))) in
      kinds j y d (sym (ap (λ (b : Bool). (if b then content else h j).kind) another) ∙ e) f

  -- and of that one
  result_kind : (k : Option ℕ) (kind : Option Kind) (h : Holdings) (j : ℕ) (y : Kind) → k ≡ Some j
      → (with_slot_if k (held kind) h j).kind ≡ Some y → kind ≡ Some y
  result_kind k kind h j y e g =
      sym (ap (λ (b : Bool). (if b then held kind else h j).kind) (eq-eqb j j refl))
      ∙ sym (ap (λ (o : Option ℕ). (with_slot_if o (held kind) h j).kind) e) ∙ g

  -- what slots hold after the form
  abbrev held_after : Holdings
  held_after = after_form (around_forms x).static form x.goes_on.holdings

  -- The frame waits for a callee that gives back something of this kind, or nothing.
  pub frame_waits : (k : Option ℕ) (kind : Option Kind) (b : Bound) {os : List Operand} {us : List Value} {w : World} {i :
      Instruction}
      (h : Handed os us w i) → form_ends form ≡ false → held_after ≡ with_slot_if k (held kind) x.goes_on.holdings
      → IfSome k (λ j. (around_forms x).static.params < j) → slots_of_result k ≤ scratch x → Alike (here c) b.from
      → AllWaitFor program kind (waits c b rest outer k) (result_slot k) (waiting (at_call h))
  frame_waits k kind b h ends after beyond few alike = (
    refl,
    record {
      goes_on = record {
        frame = record {
          this = x.goes_on.frame.this ∙ sym (self_alike c.frame.slots b.from.slots alike.slots);
          contract = x.goes_on.frame.contract;
          tx = x.goes_on.frame.tx;
          entered = x.goes_on.frame.entered;
          share_entered = x.goes_on.frame.share_entered;
        };
        has = x.goes_on.has;
        slots = same_alike alike.slots h.stand;
        holdings = held_after;
        stands = subst (λ n. Stands (around_forms x) (slot_count x) (code_here x) n held_after rest outer m.top.tests)
            (sym h.last)
            (stands_rest x.goes_on.stands ends);
      };
      kinds = λ j y d other e f. other_kinds k (held kind) x.goes_on.holdings b.from.slots
          (kinds_alike x.goes_on.holdings c.frame.slots b.from.slots alike.slots x.kinds) j y d other
          (ap (λ (h : Holdings). (h j).kind) (sym after) ∙ e) f;
      result = λ j y e g. result_kind k kind x.goes_on.holdings j y e (ap (λ (h : Holdings). (h j).kind) (sym after) ∙ g);
      into = λ j e. into j (subst (λ o. IfSome o (λ j. (around_forms x).static.params < j)) e beyond)
          (subst (λ o. slots_of_result o ≤ scratch x) e few);
    },
    x.below,
  )
    where
      into : (j : ℕ) → (around_forms x).static.params < j → j + 1 ≤ scratch x → (0 < j) × (j < scratch x)
      into j low high = (omega (arith, low), omega (arith, high))

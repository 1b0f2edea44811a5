-- Tests of states: what a test does, its code does.
use Rattle.std.proofs.Common.{◌≡◌, ℕ, ◌+◌, ◌<◌, Bool, true, false, ◌&&◌, List, [], ◌∷◌, ◌++◌, length, Option, Some, None, refl, sym, ap, ◌∙◌, subst, arith, length-append, eqb-true, true≢false}
use Rattle.std.proofs.lemmas.Bool.{ne_eqb}
use Rattle.std.specs.Prelude.{◌||◌, ◌==◌, unwrap_or, IsSomeAnd, if◌then◌else◌}
use Rattle.ob_base.specs.Optional.{◌>>=◌}
use Rattle.ob_base.specs.declared.fault.Span.{Span}
use Rattle.ob_base.specs.declared.id.ContractId.{ContractId}
use Rattle.ob_base.specs.declared.id.StateId.{StateId}
use Rattle.ob_perm.specs.Permissions.{Permission, owned, shared, unowned}
use Rattle.ob_table.specs.Tables.{ClassTable}
use Rattle.ob_table.specs.declared.seen.Kind.{Kind}
use Rattle.ob_table.specs.declared.seen.Kind.TheVariants.{Int, Bool as BoolKind, Text, Reference}
use Rattle.ob_table_spec.specs.WellFormed.{is_reference}
use Rattle.ob_heap_spec.specs.Values.{referred}
use Rattle.ob_heap_spec.specs.Objects.{Object}
use Rattle.ob_heap_spec.specs.Contents.{object_at}
use Rattle.ob_heap_spec.specs.Worlds.{SameWorld, read_object, by_state}
use Rattle.ob_heap_spec.specs.Marks.{is_locked, is_in_progress, is_among, lock}
use Rattle.ob_silica.specs.Terms.{test_form, SilicaTerms}
use Rattle.ob_silica.specs.declared.place.Operand.{Operand}
use Rattle.ob_silica.specs.declared.place.Place.{Place}
use Rattle.ob_silica.specs.declared.place.Place.TheVariants.{This, Slot, Field}
use Rattle.ob_silica_formed.specs.Holdings.{terms_end, after_terms, kind_of_operand}
use Rattle.ob_silica_places.specs.Places.{Location, slot, field, this, same_location, location_of, located}
use Rattle.ob_silica_steps.specs.Cells.{Cell, object_in}
use Rattle.ob_silica_steps.specs.Configurations.{SilicaProgram, Rest, Ends, plain_end, test_end, lock_end, runs, Configuration, abort_step}
use Rattle.ob_silica_steps.specs.Here.{Here, here, goes_to, read, self_of, set_permission}
use Rattle.ob_silica_steps.specs.Steps.{act}
use Rattle.ob_silica_steps.specs.Testing as silica
use Rattle.ob_silica_steps.specs.Testing.{StateTest, narrowed, is_in, reads_object, tests_from}
use Rattle.ob_lower_correct.proofs.Standing.{shape}
use Rattle.ob_lower_correct.proofs.Changes.{permission_alike}
use Rattle.ob_code.specs.declared.instruction.Instruction.{Instruction}
use Rattle.ob_code.specs.declared.instruction.Instruction.TheVariants as instruction
use Rattle.ob_machine_steps.specs.Configurations as machine
use Rattle.ob_machine_steps.specs.Configurations.{Next}
use Rattle.ob_code_table.specs.Images.{is_in_state_of}
use Rattle.ob_machine_steps.specs.Parts.{with_world}
use Rattle.ob_machine_steps.specs.Steps as machine_steps
use Rattle.ob_machine_steps.specs.Testing.{with_lock, branches, tests_this, tests_other, lock_of}
use Rattle.ob_emit_spec.specs.Emission.{terms_code, jumps_over, after_branch, choice_code, end_test, contract_referred}
use Rattle.ob_emit_spec.specs.Operands.{slot_read, loads}
use Rattle.ob_emit_correct.specs.Law.{code_of}
use Rattle.ob_emit_correct.proofs.Placing.{HasAt, AreEmitted, LeadsTo, here as leads_here, IsNotedAs, Stands}
use Rattle.ob_emit_correct.proofs.Matching.{Does}
use Rattle.ob_emit_correct.proofs.Agreeing.{states_agree}
use Rattle.ob_emit_correct.proofs.Stepping.{reaches_then, does_reached, does_abort, does_there}
use Rattle.ob_emit_correct.proofs.Placed.{has_front, has_back, place_after, machine_at, FormStep, around_forms, code_here, slot_count, own_code, form_placed, form_formed, instruction_here, steps_here}
use Rattle.ob_emit_correct.proofs.Worlds.{same_read_object, same_lock}
use Rattle.ob_emit_correct.proofs.Slots.{scratch, form_scratch}
use Rattle.ob_emit_correct.proofs.Reading.{read_kind}
use Rattle.ob_emit_correct.proofs.Straight.{behind_loads, OneLoaded, one_loaded, permission_world}
use Rattle.ob_emit_correct.proofs.Branching.{ChoiceParts, choice_parts, leads_over, kinds_of_first, kinds_of_second, behind_form, first_reached, second_reached, plain_branch, tested_branch, machine_testing, runs_on}

-- `this` is what stands in slot 0, and no field is loaded into that
this_slot : (scratch : ℕ) (p : Place) → 0 < scratch → (slot_read scratch 0 p == 0) ≡ same_location (location_of p) this
this_slot scratch This lt = refl
this_slot scratch (Slot k) lt = refl
this_slot scratch (Field id) lt = ne_eqb (scratch + 0) 0 (λ e. absurd (omega (arith, e, lt)))

-- what is read of `this` is what is in slot 0
read_this : (table : ClassTable) (h : Here) (p : Location) → same_location p this ≡ true → read table h p ≡ h.slots 0
read_this table h (slot k) e = ap h.slots (eqb-true k 0 e)
read_this table h (field k) e = absurd (true≢false (sym e))

-- an operand that is known to refer has a reference's kind, and names its contract
referred_kind : (k : Option Kind) → IsSomeAnd k (λ kind. is_reference kind ≡ true) → (id : ContractId) × (k ≡ Some (Reference id))
    × (contract_referred k ≡ id)
referred_kind None h = absurd h
referred_kind (Some Int) h = absurd (true≢false (sym h))
referred_kind (Some BoolKind) h = absurd (true≢false (sym h))
referred_kind (Some Text) h = absurd (true≢false (sym h))
referred_kind (Some (Reference id)) h = (id, refl, refl)

module _ {program : SilicaProgram} {o : Operand} {state : StateId} {branch other : SilicaTerms} {join span : Span}
    {rest : SilicaTerms} {outer : List Rest} {c : Configuration} {m : machine.Configuration}
    (x : FormStep program (test_form o state branch other join) span rest outer c m) where
  abbrev place : ℕ
  place = behind_loads x (o ∷ [])

  abbrev terms_first : List Instruction
  terms_first = terms_code (around_forms x) x.goes_on.holdings branch (place + 1)

  abbrev first : List Instruction
  first = terms_first ++ end_test branch

  abbrev target : ℕ
  target = after_branch (place + 1) first (jumps_over branch other)

  abbrev second : List Instruction
  second = terms_code (around_forms x) x.goes_on.holdings other target

  abbrev declared : ContractId
  declared = contract_referred (kind_of_operand (around_forms x).static x.goes_on.holdings o)

  abbrev chooses : ℕ → Instruction
  chooses to = instruction.Test (slot_read (scratch x) 0 o.place) declared state to

  abbrev Parts : Type 0
  Parts = ChoiceParts (code_here x) place chooses (jumps_over branch other) first second

  behind : Parts → m.top.at + length (own_code x) ≡ target + length second
  behind parts =
      place_after m.top.at (loads (scratch x) 0 (o ∷ [])) (choice_code place chooses (jumps_over branch other) first second)
      ∙ parts.size

  first_emitted : AreEmitted (around_forms x) (slot_count x) x.goes_on.holdings branch
  first_emitted =
      let e =
      x.goes_on.stands.emitted in record
      { forms = e.forms.1.0; slots = omega (arith, e.slots); scratch = omega (arith, e.scratch); follows = e.follows.1.0 }

  second_emitted : AreEmitted (around_forms x) (slot_count x) x.goes_on.holdings other
  second_emitted =
      let e =
      x.goes_on.stands.emitted in record
      { forms = e.forms.1.1; slots = omega (arith, e.slots); scratch = omega (arith, e.scratch); follows = e.follows.1.1 }

  -- where the end of the branch is reached, its test ends first
  ends_with : terms_end branch ≡ false → end_test branch ≡ instruction.EndTest ∷ []
  ends_with e = ap (λ b. if b then [] else instruction.EndTest ∷ []) e

  first_stands : (ends : Ends) (t : Option ℕ) → IsNotedAs ends t → Parts
      → Stands (around_forms x) (slot_count x) (code_here x) (place + 1) x.goes_on.holdings branch
      (record { terms = rest; ends = ends } ∷ outer) (t ∷ m.top.tests)
  first_stands ends t noted parts =
      tested_branch x.goes_on.holdings branch (place + 1) ends t noted
      (has_front (code_here x) (place + 1) terms_first (end_test branch) parts.branch_at) first_emitted
      (λ e. (subst (HasAt (code_here x) (place + 1 + length terms_first)) (ends_with e)
      (has_back (code_here x) (place + 1) terms_first (end_test branch) parts.branch_at)).0)
      (λ e.
      let size : length first ≡ length terms_first + 1 =
      length-append terms_first (end_test branch) ∙ ap (λ is. length terms_first + length is) (ends_with e) in
      let from : place + 1 + length first ≡ place + 1 + length terms_first + 1 = omega (arith, size) in
      subst (λ n. LeadsTo (code_here x) n (m.top.at + length (own_code x))) from
      (subst (LeadsTo (code_here x) (place + 1 + length first)) (sym (behind parts))
      (leads_over (code_here x) (around_forms x) x.goes_on.holdings branch other place chooses first e parts)))
      (λ e. kinds_of_first (terms_end branch) (terms_end other) (after_terms (around_forms x).static branch x.goes_on.holdings)
      (after_terms (around_forms x).static other x.goes_on.holdings) e)
      (behind_form (around_forms x) (slot_count x) (code_here x) m.top.at x.goes_on.holdings
      (test_form o state branch other join) span rest outer m.top.tests (terms_end branch)
      (first_reached (terms_end branch) (terms_end other) (terms_end rest)) x.goes_on.stands)

  second_stands : Parts
      → Stands (around_forms x) (slot_count x) (code_here x) target x.goes_on.holdings other
      (record { terms = rest; ends = plain_end } ∷ outer) m.top.tests
  second_stands parts = plain_branch x.goes_on.holdings other target parts.other_at second_emitted
      (λ e. subst (LeadsTo (code_here x) (target + length second)) (sym (behind parts)) leads_here)
      (λ e. kinds_of_second (terms_end branch) (terms_end other) (after_terms (around_forms x).static branch x.goes_on.holdings)
      (after_terms (around_forms x).static other x.goes_on.holdings) e)
      (behind_form (around_forms x) (slot_count x) (code_here x) m.top.at x.goes_on.holdings
      (test_form o state branch other join) span rest outer m.top.tests (terms_end other)
      (second_reached (terms_end branch) (terms_end other) (terms_end rest)) x.goes_on.stands)

  -- the test, as its step has it
  abbrev t : StateTest
  t = record { place = located o; state = state.0; branch = branch; other = other; rest = rest; outer = outer }

  -- Once the tested place was loaded, and refers to the object of a number.
  module _ (y : Cell) (n : ℕ) (l : OneLoaded x o y (choice_code place chooses (jumps_over branch other) first second)) where
    abbrev parts : Parts
    parts = choice_parts (code_here x) place chooses (jumps_over branch other) first second l.code

    -- the machine before its test, and once the object was read
    abbrev M : machine.Configuration
    M = machine_at m place l.into m.world

    abbrev d : machine.Configuration
    d = with_world (read_object m.world n) M

    -- the frame once the object was read
    abbrev h : Here
    h = reads_object (here c) n

    same_read : SameWorld h.world d.world
    same_read = same_read_object n x.world

    -- what the instruction comes to
    abbrev Acts : Option Next → Type 0
    Acts next = machine_steps.act (code_of program) (chooses target) M ≡ next

    -- into the branch of a test that holds, and into the other one
    holds_into : (into : Here) (ends : Ends) (lock : Option ℕ) → IsNotedAs ends lock
        → ((k : ℕ) → shape (into.slots k) ≡ shape (c.frame.slots k)) → SameWorld into.world (with_lock lock d.world)
        → Acts (branches lock target d true)
        → Does program m (goes_to c into (runs branch (record { terms = rest; ends = ends } ∷ outer)))
    holds_into into ends lock noted alike same acts =
        runs_on program c m x.goes_on.frame x.goes_on.has x.below into branch (record { terms = rest; ends = ends } ∷ outer)
        (place + 1) l.into (lock ∷ m.top.tests) (with_lock lock d.world) x.goes_on.holdings alike l.same x.kinds same
        (first_stands ends lock noted parts)
        (reaches_then l.reaches
        (steps_here x place l.into m.world (machine_testing m (place + 1) l.into (lock ∷ m.top.tests) (with_lock lock d.world))
        (chooses target) parts.first acts))

    fails_into : (into : Here) (lock : Option ℕ) → ((k : ℕ) → shape (into.slots k) ≡ shape (c.frame.slots k))
        → SameWorld into.world d.world
        → Acts (branches lock target d false)
        → Does program m (goes_to c into (runs other (record { terms = rest; ends = plain_end } ∷ outer)))
    fails_into into lock alike same acts =
        runs_on program c m x.goes_on.frame x.goes_on.has x.below into other
        (record { terms = rest; ends = plain_end } ∷ outer) target l.into m.top.tests d.world x.goes_on.holdings alike l.same
        x.kinds same
        (second_stands parts)
        (reaches_then l.reaches
        (steps_here x place l.into m.world (machine_at m target l.into d.world) (chooses target) parts.first acts))

    -- the world is the same once a place has another permission
    permitted : (p : Permission) → SameWorld (set_permission (located o) p h).world d.world
    permitted p = rw (permission_world (located o) p h) same_read

    aborts : Acts (Some (machine.abort (by_state n None) d.world)) → Does program m (abort_step (by_state n None) h.world)
    aborts acts =
        does_reached l.reaches
        (does_abort program M (chooses target) (by_state n None) h.world d.world
        (instruction_here x place l.into m.world (chooses target) parts.first) acts same_read)

    -- a test that takes no lock
    tells_so : (holds : Bool) → Acts (branches None target d holds) → Does program m (silica.tells c h t y holds)
    tells_so true acts =
        holds_into (set_permission (located o) (narrowed y.note.permission state.0 true) h) plain_end None refl
        (permission_alike (located o) (narrowed y.note.permission state.0 true) h).slots
        (permitted (narrowed y.note.permission state.0 true)) acts
    tells_so false acts =
        fails_into (set_permission (located o) (narrowed y.note.permission state.0 false) h) None
        (permission_alike (located o) (narrowed y.note.permission state.0 false) h).slots
        (permitted (narrowed y.note.permission state.0 false)) acts

    -- a test of `this`
    shared_this : (holds : Bool) → Acts (branches None target d holds) → Does program m (silica.test_shared_this c h t holds)
    shared_this true acts =
        holds_into (tests_from h t) (test_end (located o)) None refl (permission_alike (located o) _ h).slots (permitted _) acts
    shared_this false acts = fails_into h None (λ k. refl) same_read acts

    this_as : (p : Permission) (holds : Bool) → Acts (branches None target d holds)
        → Does program m (silica.test_this_as p c h t y holds)
    this_as shared holds acts = shared_this holds acts
    this_as (owned a) holds acts = tells_so holds acts
    this_as unowned holds acts = tells_so holds acts

    this_unless : (barred : Bool) (holds : Bool)
        → Acts (if barred then Some (machine.abort (by_state n None) d.world) else branches None target d holds)
        → Does program m
        (if barred then abort_step (by_state n None) h.world else silica.test_this_as y.note.permission c h t y holds)
    this_unless true holds acts = aborts acts
    this_unless false holds acts = this_as y.note.permission holds acts

    this_so : n ≡ self_of c.frame.slots → (holds : Bool) → Acts (tests_this n target d holds)
        → Does program m (silica.test_this c h t y n holds)
    this_so is holds acts =
        let barred : (m.top.share_entered && is_locked d.world n) ≡ (c.frame.share_entered && is_locked h.world
        (self_of c.frame.slots)) =
        ap (λ b. b && is_locked d.world n) x.goes_on.frame.share_entered
        ∙ ap (λ locked. c.frame.share_entered && is_among n locked) same_read.locked
        ∙ ap (λ k. c.frame.share_entered && is_locked h.world k) is in
        this_unless (c.frame.share_entered && is_locked h.world (self_of c.frame.slots)) holds
        (acts ∙ ap (λ b. if b then Some (machine.abort (by_state n None) d.world) else branches None target d holds) barred)

    -- a test of another place
    shared_other : (holds : Bool) → Acts (branches (Some n) target d holds) → Does program m (silica.test_shared c h t n holds)
    shared_other true acts =
        holds_into (record (tests_from h t) { world = lock n (tests_from h t).world }) (lock_end (located o) n) (Some n) refl
        (permission_alike (located o) _ h).slots (same_lock n (permitted _)) acts
    shared_other false acts = fails_into h (Some n) (λ k. refl) same_read acts

    other_unless : (is_shared barred : Bool) (holds : Bool)
        → Acts (if is_shared && barred then Some (machine.abort (by_state n None) d.world) else branches
        (if is_shared then Some n else None) target d holds)
        → Does program m
        (if is_shared then (if barred then abort_step (by_state n None) h.world else silica.test_shared c h t n holds)
        else silica.tells c h t y holds)
    other_unless true true holds acts = aborts acts
    other_unless true false holds acts = shared_other holds acts
    other_unless false barred holds acts = tells_so holds acts

    other_so : (ob : Object) (holds : Bool) → Acts (tests_other n ob target d holds)
        → Does program m (silica.test_other c h t y n ob holds)
    other_so ob holds acts =
        let barred : (is_locked d.world n || is_in_progress d.world n) ≡ (is_locked h.world n || is_in_progress h.world n) =
        ap (λ locked. is_among n locked || is_in_progress d.world n) same_read.locked
        ∙ ap (λ progress. is_locked h.world n || is_among n progress) same_read.progress in
        other_unless ob.shared (is_locked h.world n || is_in_progress h.world n) holds
        (acts ∙ ap
        (λ b. if ob.shared && b then Some (machine.abort (by_state n None) d.world) else branches (lock_of n ob) target d holds)
        barred)

    -- a test of `this` or of another place
    place_so : (ob : Object) (holds is_this : Bool) → (is_this ≡ true → n ≡ self_of c.frame.slots)
        → Acts (if is_this then tests_this n target d holds else tests_other n ob target d holds)
        → Does program m (if is_this then silica.test_this c h t y n holds else silica.test_other c h t y n ob holds)
    place_so ob holds true self acts = this_so (self refl) holds acts
    place_so ob holds false self acts = other_so ob holds acts

  -- what the machine's test comes to with the object of a number
  abbrev tested_with : machine.Configuration → ℕ → Object → Option Next
  tested_with M n ob =
      if slot_read (scratch x) 0 o.place == 0 then tests_this n target (with_world (read_object M.world n) M)
      (is_in_state_of (code_of program) declared state ob)
      else tests_other n ob target (with_world (read_object M.world n) M) (is_in_state_of (code_of program) declared state ob)

  object_so : (y : Cell) (n : ℕ) (ob : Object) → read program.table (here c) (located o) ≡ Some y → referred y.value ≡ Some n
      → object_at c.world.objects n ≡ Some ob
      → Does program m (silica.test_object c (reads_object (here c) n) t y n ob (is_in program.table y.note.kind state ob))
  object_so y n ob e r there =
      let le = form_scratch x in
      let l =
      one_loaded x o y (choice_code place chooses (jumps_over branch other) first second) (form_placed x)
      (omega (arith, le)) e in
      let kind = referred_kind (kind_of_operand (around_forms x).static x.goes_on.holdings o) (form_formed x).kinds in
      let M = machine_at m place l.into m.world in
      let D = with_world (read_object m.world n) M in
      let holds = is_in program.table y.note.kind state ob in
      let same_holds : is_in_state_of (code_of program) declared state ob ≡ holds =
      ap (λ id. is_in_state_of (code_of program) id state ob) kind.2 ∙ states_agree program kind.0 state ob
      ∙ ap (λ k. is_in program.table k state ob) (sym (read_kind x o y (Reference kind.0) e kind.1)) in
      let positive : 0 < scratch x = x.goes_on.slots.within 0 x.coherent.whole.frame.this x.coherent.whole.frame.set in
      let self : same_location (located o) this ≡ true → n ≡ self_of c.frame.slots =
      λ is. sym
      (ap (λ cell. unwrap_or (object_in cell) 0) (sym (read_this program.table (here c) (located o) is) ∙ e)
      ∙ ap (λ k. unwrap_or k 0) r) in
      let acts : machine_steps.act (code_of program)
      (chooses target) M ≡ (if same_location (located o) this then tests_this n target D holds else tests_other n ob target D holds) =
      ap (λ k. (k >>= referred) >>= λ n. object_at m.world.objects n >>= λ ob. tested_with M n ob) l.value
      ∙ ap (λ k. k >>= λ n. object_at m.world.objects n >>= λ ob. tested_with M n ob) r
      ∙ ap (λ k. k >>= λ ob. tested_with M n ob) (ap (λ os. object_at os n) x.world.objects ∙ there)
      ∙ ap (λ b. if slot_read (scratch x) 0 o.place == 0 then tests_this n target D b else tests_other n ob target D b) same_holds
      ∙ ap (λ b. if b then tests_this n target D holds else tests_other n ob target D holds)
      (this_slot (scratch x) o.place positive) in
      place_so y n l ob holds (same_location (located o) this) self acts

  pub test_does : Does program m (act program (test_form o state branch other join) rest outer c)
  test_does =
      does_there program m (read program.table (here c) (located o)) _ (λ y e. does_there program m (referred y.value) _ (λ n r.
      does_there program m (object_at c.world.objects n) _ (λ ob there. object_so y n ob e r there)))

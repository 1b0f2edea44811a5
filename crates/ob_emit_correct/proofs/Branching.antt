-- Choices between two branches, and the end of a branch: what each does, its code does.
use Rattle.std.proofs.Common.{◌≡◌, ℕ, ◌+◌, ◌≤◌, Bool, true, false, not, ◌&&◌, List, [], ◌∷◌, ◌++◌, length, Option, Some, None, refl, sym, ap, ◌∙◌, subst, arith, length-append, eqb-true, true≢false}
use Rattle.std.specs.Prelude.{◌||◌, slice_get, option_map, option_and_then, if◌then◌else◌}
use Rattle.ob_base.specs.Optional.{◌>>=◌}
use Rattle.ob_base.specs.declared.fault.Span.{Span}
use Rattle.ob_perm.specs.Permissions.{shared}
use Rattle.ob_table.specs.declared.seen.Kind.{Kind}
use Rattle.ob_table.specs.declared.seen.Kind.TheVariants.{Int, Bool as BoolKind, Text, Reference}
use Rattle.ob_heap_spec.specs.Values.{Value, int_value, bool_value, text_value, reference}
use Rattle.ob_heap_spec.specs.Worlds.{World, SameWorld}
use Rattle.ob_silica.specs.Terms.{SilicaForm, test_form, if_form, loop_form, SilicaTerms, no_terms, and_term}
use Rattle.ob_silica.specs.declared.place.Operand.{Operand}
use Rattle.ob_silica_formed.specs.Holdings.{Holdings, form_ends, terms_end, kinds_equal, common_kind, joined, after_form, after_terms, at_head, EachWithin, Each}
use Rattle.ob_silica_formed.specs.Points.{HasKind, HasKinds}
use Rattle.ob_coherent_spec.specs.Remaining.{IsWellFormedForm}
use Rattle.ob_coherent_spec.proofs.Heads.{head_stays, turn_holds}
use Rattle.ob_table_spec.specs.WellFormed.{StaticFrame}
use Rattle.ob_silica_places.specs.Places.{located}
use Rattle.ob_silica_steps.specs.Cells.{Cell, value_in}
use Rattle.ob_silica_steps.specs.Configurations.{SilicaProgram, Rest, Ends, plain_end, test_end, lock_end, loop_end, runs, Configuration}
use Rattle.ob_silica_steps.specs.Here.{Here, here, goes_to, read}
use Rattle.ob_silica_steps.specs.Steps.{act, end_step, pop_step}
use Rattle.ob_silica_steps.specs.Straight.{with_truth}
use Rattle.ob_silica_steps.specs.Testing.{end_branch}
use Rattle.ob_lower_correct.proofs.Standing.{shape, none_some, some_same}
use Rattle.ob_lower_correct.proofs.Changes.{permission_alike}
use Rattle.ob_code.specs.declared.instruction.Instruction.{Instruction}
use Rattle.ob_code.specs.declared.instruction.Instruction.TheVariants as instruction
use Rattle.ob_machine_steps.specs.Configurations as machine
use Rattle.ob_code_table.specs.Images.{instruction_at}
use Rattle.ob_machine_steps.specs.Parts.{goes_on as next_place, goes_to as jumped}
use Rattle.ob_machine_steps.specs.Slots.{Slots, truth_of}
use Rattle.ob_machine_steps.specs.Testing.{without_lock}
use Rattle.ob_emit_spec.specs.Emission.{EmissionFrame, form_code, terms_code, jumps_over, jump_if, after_branch, choice_code, after_load, turn_code, loop_code}
use Rattle.ob_emit_spec.specs.Operands.{slot_read, loads, all_scratch_slots}
use Rattle.ob_emit_correct.specs.Law.{code_of}
use Rattle.ob_emit_correct.proofs.Placing.{HasAt, AreEmitted, LeadsTo, here as leads_here, jumps as leads_by, KindsToo, IsNotedAs, Around, outermost, plain, tested, turning, Stands, KindsHold}
use Rattle.ob_emit_correct.proofs.Matching.{SameFrame, GoesOnWith, kind_given_by, AllWaitFor, as_running, HasBody, SameSlots, frame_in, code_in, slots_in, Does}
use Rattle.ob_emit_correct.proofs.Agreeing.{instruction_found}
use Rattle.ob_emit_correct.proofs.Marks.{are_in}
use Rattle.ob_emit_correct.proofs.Stepping.{Reaches, reaches_here, reaches_then, reaches_by, does_reached, does_there}
use Rattle.ob_emit_correct.proofs.Placed.{has_front, has_back, place_after, emitted_rest, around_as, machine_at, Framed, steps_framed, FormStep, around_forms, code_here, slot_count, own_code, form_placed, steps_here}
use Rattle.ob_emit_correct.proofs.Worlds.{same_unlock}
use Rattle.ob_emit_correct.proofs.Slots.{same_alike, self_alike, kinds_alike, LoadedFrom, loads_from, scratch, form_scratch}
use Rattle.ob_emit_correct.proofs.Straight.{behind_loads, one_loaded, permission_world}

-- The parts of a choice.

-- the instruction, the branch, the jump over the other one if there is one, and the other one stand at their places
pub record ChoiceParts (code : List Instruction) (at : ℕ) (chooses : ℕ → Instruction) (jumps : Bool)
    (branch other : List Instruction) : Type 0 where
  pub first : slice_get code at ≡ Some (chooses (after_branch (at + 1) branch jumps))
  pub branch_at : HasAt code (at + 1) branch
  pub jump : jumps ≡ true
      → slice_get code (at + 1 + length branch) ≡ Some (instruction.Jump (after_branch (at + 1) branch jumps + length other))
  pub other_at : HasAt code (after_branch (at + 1) branch jumps) other
  pub size : at + length (choice_code at chooses jumps branch other) ≡ after_branch (at + 1) branch jumps + length other

pub choice_parts : (code : List Instruction) (at : ℕ) (chooses : ℕ → Instruction) (jumps : Bool) (branch other : List Instruction)
    → HasAt code at (choice_code at chooses jumps branch other)
    → ChoiceParts code at chooses jumps branch other
choice_parts code at chooses true branch other h =
    let jump = instruction.Jump (after_branch (at + 1) branch true + length other) ∷ [] in
    let both = has_front code (at + 1) (branch ++ jump) other h.1 in
    let size = length-append (branch ++ jump) other in
    let half = length-append branch jump in
    let e : at + 1 + length (branch ++ jump) ≡ after_branch (at + 1) branch true = omega (arith, half) in
    record {
      first = h.0;
      branch_at = has_front code (at + 1) branch jump both;
      jump = λ is. (has_back code (at + 1) branch jump both).0;
      other_at = subst (λ n. HasAt code n other) e (has_back code (at + 1) (branch ++ jump) other h.1);
      size = omega (arith, size, half);
    }
choice_parts code at chooses false branch other h =
    let both = has_front code (at + 1) (branch ++ []) other h.1 in
    let size = length-append (branch ++ []) other in
    let half = length-append branch [] in
    let e : at + 1 + length (branch ++ []) ≡ after_branch (at + 1) branch false = omega (arith, half) in
    record {
      first = h.0;
      branch_at = has_front code (at + 1) branch [] both;
      jump = λ is. absurd (true≢false (sym is));
      other_at = subst (λ n. HasAt code n other) e (has_back code (at + 1) (branch ++ []) other h.1);
      size = omega (arith, size, half);
    }

-- where a branch comes to its end, control goes to what is behind the choice
pub leads_over : (code : List Instruction) (f : EmissionFrame) (h : Holdings) (branch other : SilicaTerms) (at : ℕ)
    (chooses : ℕ → Instruction) (is : List Instruction) → terms_end branch ≡ false
    → ChoiceParts code at chooses (jumps_over branch other) is
    (terms_code f h other (after_branch (at + 1) is (jumps_over branch other)))
    → LeadsTo code (at + 1 + length is)
    (after_branch (at + 1) is (jumps_over branch other) + length
    (terms_code f h other (after_branch (at + 1) is (jumps_over branch other))))
leads_over code f h branch no_terms at chooses is e p =
    let same : at + 1 + length is ≡ after_branch (at + 1) is false + 0 =
    omega arith in subst (LeadsTo code (at + 1 + length is)) same leads_here
leads_over code f h branch (and_term form span rest) at chooses is e p = leads_by (p.jump (ap not e))

-- What slots hold after two branches.

equal_kinds : (a b : Kind) → kinds_equal a b ≡ true → a ≡ b
equal_kinds Int Int e = refl
equal_kinds BoolKind BoolKind e = refl
equal_kinds Text Text e = refl
equal_kinds (Reference c) (Reference d) e = ap (λ n. Reference (record { 0 = n })) (eqb-true c.0 d.0 e)
equal_kinds Int BoolKind e = absurd (true≢false (sym e))
equal_kinds Int Text e = absurd (true≢false (sym e))
equal_kinds Int (Reference d) e = absurd (true≢false (sym e))
equal_kinds BoolKind Int e = absurd (true≢false (sym e))
equal_kinds BoolKind Text e = absurd (true≢false (sym e))
equal_kinds BoolKind (Reference d) e = absurd (true≢false (sym e))
equal_kinds Text Int e = absurd (true≢false (sym e))
equal_kinds Text BoolKind e = absurd (true≢false (sym e))
equal_kinds Text (Reference d) e = absurd (true≢false (sym e))
equal_kinds (Reference c) Int e = absurd (true≢false (sym e))
equal_kinds (Reference c) BoolKind e = absurd (true≢false (sym e))
equal_kinds (Reference c) Text e = absurd (true≢false (sym e))

-- a kind that is the same on two ways is that on each
common_both : (a b x : Kind) (same : Bool) → kinds_equal a b ≡ same → (if same then Some a else None) ≡ Some x → (a ≡ x) × (b ≡ x)
common_both a b x true is e = (some_same a x e, sym (equal_kinds a b is) ∙ some_same a x e)
common_both a b x false is e = absurd (none_some e)

common_of : (a b : Option Kind) (x : Kind) → common_kind a b ≡ Some x → (a ≡ Some x) × (b ≡ Some x)
common_of (Some a) (Some b) x e = let p = common_both a b x (kinds_equal a b) refl e in (ap Some p.0, ap Some p.1)
common_of (Some a) None x e = absurd (none_some e)
common_of None (Some b) x e = absurd (none_some e)
common_of None None x e = absurd (none_some e)

pub kinds_of_first : (ends other_ends : Bool) (a b : Holdings) → ends ≡ false → KindsToo a (joined ends other_ends a b)
kinds_of_first true other_ends a b e = absurd (true≢false e)
kinds_of_first false true a b e = λ k x is. is
kinds_of_first false false a b e = λ k x is. (common_of (a k).kind (b k).kind x is).0

pub kinds_of_second : (ends other_ends : Bool) (a b : Holdings) → other_ends ≡ false → KindsToo b (joined ends other_ends a b)
kinds_of_second true other_ends a b e = λ k x is. is
kinds_of_second false true a b e = absurd (true≢false e)
kinds_of_second false false a b e = λ k x is. (common_of (a k).kind (b k).kind x is).1

-- What is around a branch.

module _ {f : EmissionFrame} {count : ℕ} {code : List Instruction} where
  -- where the end inside is never reached, nothing is asked
  around_ended : {at : ℕ} {ended : Bool} {h : Holdings} {outer : List Rest} {tests : List (Option ℕ)}
      → Around f count code at ended h outer tests → Around f count code at true h outer tests
  around_ended outermost = outermost
  around_ended (plain to i is goes has emitted around) =
      plain to i is (record { leads = λ e. absurd (true≢false e); kinds = λ e. absurd (true≢false e) }) has emitted
      (around_ended around)
  around_ended (turning first o body end start i is place holds has emitted around) =
      turning first o body end start i is place holds has emitted around
  around_ended (tested to i t is goes has emitted around) =
      tested to i t is
      (record { ends = λ e. absurd (true≢false e); leads = λ e. absurd (true≢false e); kinds = λ e. absurd (true≢false e) }) has
      emitted (around_ended around)

  around_more : {at : ℕ} {h : Holdings} {outer : List Rest} {tests : List (Option ℕ)} (p q : Bool) → (p ≡ true → q ≡ true)
      → Around f count code at p h outer tests → Around f count code at q h outer tests
  around_more true q imp a = around_as refl (sym (imp refl)) a
  around_more false true imp a = around_ended a
  around_more false false imp a = a

-- what is behind a form, for a branch whose end is reached or isn't
pub record Behind (f : EmissionFrame) (count : ℕ) (code : List Instruction) (to : ℕ) (i : Holdings) (rest : SilicaTerms)
    (outer : List Rest) (tests : List (Option ℕ)) (ended : Bool) : Type 0 where
  pub has : HasAt code to (terms_code f i rest to)
  pub emitted : AreEmitted f count i rest
  pub around : Around f count code (to + length (terms_code f i rest to)) (ended || terms_end rest)
      (after_terms f.static rest i) outer tests

pub behind_form : (f : EmissionFrame) (count : ℕ) (code : List Instruction) (at : ℕ) (h : Holdings) (form : SilicaForm)
    (span : Span) (rest : SilicaTerms) (outer : List Rest) (tests : List (Option ℕ)) (ended : Bool)
    → ((form_ends form || terms_end rest) ≡ true → (ended || terms_end rest) ≡ true)
    → Stands f count code at h (and_term form span rest) outer tests
    → Behind f count code (at + length (form_code f h form at)) (after_form f.static form h) rest outer tests ended
behind_form f count code at h form span rest outer tests ended imp s =
    let own = form_code f h form at in
    let more = terms_code f (after_form f.static form h) rest (at + length own) in
    record {
      has = has_back code at own more s.placed;
      emitted = emitted_rest s.emitted;
      around = around_more (form_ends form || terms_end rest) (ended || terms_end rest) imp
          (around_as (place_after at own more) refl s.around);
    }

or_later : (a b : Bool) → b ≡ true → (a || b) ≡ true
or_later true b e = refl
or_later false b e = e

-- the end of the first branch, or of the second, is reached where that of the choice is
pub first_reached : (a b t : Bool) → (a && b || t) ≡ true → (a || t) ≡ true
first_reached true b t e = refl
first_reached false b t e = e

pub second_reached : (a b t : Bool) → (a && b || t) ≡ true → (b || t) ≡ true
second_reached true b t e = e
second_reached false true t e = refl
second_reached false false t e = e

-- a branch with nothing to end stands at its place
pub plain_branch : {f : EmissionFrame} {count : ℕ} {code : List
    Instruction} {to : ℕ} {i : Holdings} {rest : SilicaTerms} {outer : List Rest} {tests : List (Option ℕ)}
    (h : Holdings) (branch : SilicaTerms) (at : ℕ) → HasAt code at (terms_code f h branch at) → AreEmitted f count h branch
    → (terms_end branch ≡ false → LeadsTo code (at + length (terms_code f h branch at)) to)
    → (terms_end branch ≡ false → KindsToo (after_terms f.static branch h) i)
    → Behind f count code to i rest outer tests (terms_end branch)
    → Stands f count code at h branch (record { terms = rest; ends = plain_end } ∷ outer) tests
plain_branch {to = to} {i} h branch at has emitted leads kinds b = record {
  placed = has;
  emitted = emitted;
  around = plain to i refl (record { leads = leads; kinds = kinds }) b.has b.emitted b.around;
}

-- a branch whose test was noted stands at its place
pub tested_branch : {f : EmissionFrame} {count : ℕ} {code : List
    Instruction} {to : ℕ} {i : Holdings} {rest : SilicaTerms} {outer : List Rest} {tests : List (Option ℕ)}
    (h : Holdings) (branch : SilicaTerms) (at : ℕ) (ends : Ends) (t : Option ℕ) → IsNotedAs ends t
    → HasAt code at (terms_code f h branch at) → AreEmitted f count h branch
    → (terms_end branch ≡ false → slice_get code (at + length (terms_code f h branch at)) ≡ Some instruction.EndTest)
    → (terms_end branch ≡ false → LeadsTo code (at + length (terms_code f h branch at) + 1) to)
    → (terms_end branch ≡ false → KindsToo (after_terms f.static branch h) i)
    → Behind f count code to i rest outer tests (terms_end branch)
    → Stands f count code at h branch (record { terms = rest; ends = ends } ∷ outer) (t ∷ tests)
tested_branch {to = to} {i} h branch at ends t noted has emitted end leads kinds b = record {
  placed = has;
  emitted = emitted;
  around = tested to i t noted (record { ends = end; leads = leads; kinds = kinds }) b.has b.emitted b.around;
}

-- Loops.

mutual
  -- each form of well-formed terms has operands of its kinds
  each_kinds : (f : StaticFrame) (h : Holdings) (terms : SilicaTerms) → Each IsWellFormedForm f h terms → Each HasKinds f h terms
  each_kinds f h no_terms each = tt
  each_kinds f h (and_term form span rest) each =
      (each.0.kinds, kinds_within f h form each.1, each_kinds f (after_form f form h) rest each.2)

  kinds_within : (f : StaticFrame) (h : Holdings) (form : SilicaForm) → EachWithin IsWellFormedForm f h form
      → EachWithin HasKinds f h form
  kinds_within f h (test_form o state branch other join) within = (each_kinds f h branch within.0, each_kinds f h other within.1)
  kinds_within f h (if_form o branch other join) within = (each_kinds f h branch within.0, each_kinds f h other within.1)
  kinds_within f h (loop_form first o body end) within =
      (each_kinds f (at_head f first body h) first within.0, each_kinds f (after_terms f first (at_head f first body h)) body within.1)
  kinds_within f h form within = tt

module _ (f : EmissionFrame) (count : ℕ) (code : List Instruction) (first : SilicaTerms) (o : Operand) (body : SilicaTerms) (end : Span)
    (rest : SilicaTerms) where
  -- the loop with the terms after it
  abbrev again : SilicaTerms
  again = and_term (loop_form first o body end) end rest

  -- what slots hold at its head, and after its first part, from what they hold before it
  abbrev head : Holdings → Holdings
  head i = at_head f.static first body i

  abbrev inside : Holdings → Holdings
  inside i = after_terms f.static first (head i)

  -- the parts of its code
  abbrev first_code : Holdings → ℕ → List Instruction
  first_code i start = terms_code f (head i) first start

  abbrev choice_place : Holdings → ℕ → ℕ
  choice_place i start = after_load f o (start + length (first_code i start))

  abbrev body_code : Holdings → ℕ → List Instruction
  body_code i start = terms_code f (inside i) body (choice_place i start + 1)

  abbrev exit_place : Holdings → ℕ → ℕ
  exit_place i start = after_branch (choice_place i start + 1) (body_code i start) (not (terms_end body))

  abbrev behind_first : Holdings → ℕ → List Instruction
  behind_first i start =
      loads f.scratch 0 (o ∷ [])
      ++ turn_code (slot_read f.scratch 0 o.place) start (not (terms_end body)) (choice_place i start) (body_code i start)

  -- the loop at a place, with what is around it
  pub record LoopAt (start : ℕ) (i : Holdings) (outer : List Rest) (tests : List (Option ℕ)) : Type 0 where
    pub placed : HasAt code start (terms_code f i again start)
    pub emitted : AreEmitted f count i again
    pub around : Around f count code (start + length (terms_code f i again start)) (terms_end rest) (after_terms f.static again i) outer tests

  jump_size : (jumps : Bool) (target : ℕ) → length (jump_if jumps target) ≡ (if jumps then 1 else 0)
  jump_size true target = refl
  jump_size false target = refl

  module _ {start : ℕ} {i : Holdings} {outer : List Rest} {tests : List (Option ℕ)} (l : LoopAt start i outer tests) where
    loop_placed : HasAt code start (form_code f i (loop_form first o body end) start)
    loop_placed = has_front code start (form_code f i (loop_form first o body end) start) _ l.placed

    -- the first part stands at the place, and its end is behind it
    pub first_stands : Stands f count code start (head i) first (record { terms = rest; ends = loop_end first o body end } ∷ outer) tests
    first_stands =
        let e = l.emitted in
        record {
          placed = has_front code start (first_code i start) (behind_first i start) loop_placed;
          emitted = record { forms = e.forms.1.0; slots = omega (arith, e.slots); scratch = omega (arith, e.scratch); follows = e.follows.1.0 };
          around = turning first o body end start i refl refl refl l.placed l.emitted l.around;
        }

    pub behind_placed : HasAt code (start + length (first_code i start)) (behind_first i start)
    behind_placed = has_back code start (first_code i start) (behind_first i start) loop_placed

    pub turn_placed : HasAt code (choice_place i start)
        (turn_code (slot_read f.scratch 0 o.place) start (not (terms_end body)) (choice_place i start) (body_code i start))
    turn_placed = has_back code (start + length (first_code i start)) (loads f.scratch 0 (o ∷ [])) _ behind_placed

    -- its operand has a scratch slot
    pub operand_scratch : f.scratch + all_scratch_slots 0 (o ∷ []) ≤ count
    operand_scratch = let e = l.emitted.scratch in omega (arith, e)

    loop_size : exit_place i start ≡ start + length (form_code f i (loop_form first o body end) start)
    loop_size =
        let a = length-append (first_code i start) (behind_first i start) in
        let b = length-append (loads f.scratch 0 (o ∷ []))
        (turn_code (slot_read f.scratch 0 o.place) start (not (terms_end body)) (choice_place i start) (body_code i start)) in
        let d = length-append (body_code i start) (jump_if (not (terms_end body)) start) in
        let j = jump_size (not (terms_end body)) start in
        omega (arith, a, b, d, j)

    -- what is after the loop stands where it is left
    pub rest_stands : Stands f count code (exit_place i start) (inside i) rest outer tests
    rest_stands =
        let own = form_code f i (loop_form first o body end) start in
        let more = terms_code f (inside i) rest (start + length own) in
        let e = l.emitted in
        subst (λ n. Stands f count code n (inside i) rest outer tests) (sym loop_size) (record {
          placed = has_back code start own more l.placed;
          emitted = record { forms = e.forms.2; slots = omega (arith, e.slots); scratch = omega (arith, e.scratch); follows = e.follows.2 };
          around = around_as (place_after start own more) refl l.around;
        })

    -- From the head, the head is the same.
    stays : at_head f.static first body (head i) ≡ head i
    stays = head_stays f.static first body i (each_kinds f.static (head i) first l.emitted.forms.1.0)
        (each_kinds f.static (inside i) body l.emitted.forms.1.1)

    -- So the same loop stands there with what slots hold at its head.
    abbrev code_from : Holdings → List Instruction
    code_from q =
        let own = loop_code f o (not (terms_end body)) (terms_code f q first start)
        (λ place. terms_code f (after_terms f.static first q) body place) start in
        own ++ terms_code f (after_terms f.static first q) rest (start + length own)

    pub loop_again : LoopAt start (head i) outer tests
    loop_again =
        let e = l.emitted in
        record {
          placed = subst (λ q. HasAt code start (code_from q)) (sym stays) l.placed;
          emitted = record {
            forms = (
              record {
                numbers = e.forms.0.numbers;
                kinds = subst (λ q. HasKind f.static (after_terms f.static first q) BoolKind o) (sym stays) e.forms.0.kinds;
                results = tt;
                params = tt;
                references = tt;
                bodies = tt;
                returns = tt;
                turns = e.forms.0.turns;
              },
              subst (λ q. Each IsWellFormedForm f.static q first × Each IsWellFormedForm f.static (after_terms f.static first q) body)
                  (sym stays) e.forms.1,
              subst (λ q. Each IsWellFormedForm f.static (after_terms f.static first q) rest) (sym stays) e.forms.2,
            );
            slots = e.slots;
            scratch = e.scratch;
            follows = e.follows;
          };
          around = subst (λ q. Around f count code (start + length (code_from q)) (terms_end rest)
              (after_terms f.static rest (after_terms f.static first q)) outer tests) (sym stays) l.around;
        }

    -- the body stands behind the choice, and goes on with the same loop
    pub body_stands : Stands f count code (choice_place i start + 1) (inside i) body (record { terms = again; ends = plain_end } ∷ outer) tests
    body_stands =
        let e = l.emitted in
        let jump = jump_if (not (terms_end body)) start in
        let turn = turn_placed in
        let next = loop_again in
        plain_branch (inside i) body (choice_place i start + 1) (has_front code (choice_place i start + 1) (body_code i start) jump turn.1)
        (record { forms = e.forms.1.1; slots = omega (arith, e.slots); scratch = omega (arith, e.scratch); follows = e.follows.1.1 })
        (λ is. leads_by (subst (λ b. HasAt code (choice_place i start + 1 + length (body_code i start)) (jump_if (not b) start)) is
        (has_back code (choice_place i start + 1) (body_code i start) jump turn.1)).0)
        (λ is k x known. (turn_holds f.static first body i (each_kinds f.static (head i) first e.forms.1.0)
        (each_kinds f.static (inside i) body e.forms.1.1) is k).kind x known)
        (record {
          has = next.placed;
          emitted = next.emitted;
          around = around_more (terms_end rest) (terms_end body || terms_end rest) (λ r. or_later (terms_end body) (terms_end rest) r) next.around;
        })

-- The machine with other noted tests.

-- the innermost frame goes on at a place with these slots and noted tests, in a world
abbrev pub machine_testing : machine.Configuration → ℕ → Slots → List (Option ℕ) → World → machine.Configuration
machine_testing m place slots tests w =
    record { top = record m.top { at = place; slots = slots; tests = tests }; below = m.below; world = w }

-- The end of a branch.

-- what ends with a branch changes permissions alone
end_alike : (ends : Ends) (h : Here) (k : ℕ) → shape ((end_branch ends h).slots k) ≡ shape (h.slots k)
end_alike plain_end h k = refl
end_alike (test_end p) h k = (permission_alike p shared h).slots k
end_alike (lock_end p n) h k = (permission_alike p shared h).slots k
end_alike (loop_end first a body end) h k = refl

-- and takes a lock off as the end of the noted test does
end_world : (ends : Ends) (t : Option ℕ) (h : Here) (v : World) → IsNotedAs ends t → SameWorld h.world v
    → SameWorld (end_branch ends h).world (without_lock t v)
end_world plain_end t h v noted s = rw noted s
end_world (test_end p) t h v noted s = rw (noted, permission_world p shared h) s
end_world (lock_end p n) t h v noted s = rw (noted, permission_world p shared h) (same_unlock n s)
end_world (loop_end first a body end) t h v noted s = absurd noted

module _ (program : SilicaProgram) (c : Configuration) (m : machine.Configuration) (frame : SameFrame c.frame m.top)
    (has : HasBody program c.frame.contract c.frame.tx)
    (below : AllWaitFor program (kind_given_by program c.frame) c.stack m.top.into m.below) where
  abbrev f : EmissionFrame
  f = frame_in program c.frame.contract c.frame.tx has

  abbrev count : ℕ
  count = slots_in program c.frame.contract c.frame.tx has

  abbrev code : List Instruction
  code = code_in program c.frame.contract c.frame.tx has

  -- the instruction at a place of the code is next there
  instruction_on : (place : ℕ) (i : Instruction) → slice_get code place ≡ Some i
      → instruction_at (code_of program) m.top.contract m.top.tx place ≡ Some i
  instruction_on place i e =
      ap (λ id. instruction_at (code_of program) id m.top.tx place) frame.contract
      ∙ ap (λ tx. instruction_at (code_of program) c.frame.contract tx place) frame.tx
      ∙ instruction_found program c.frame.contract c.frame.tx has place i e

  -- control goes from one place to another
  lead_reaches : {at to : ℕ} (slots : Slots) (tests : List (Option ℕ)) (w : World) → LeadsTo code at to
      → Reaches program (machine_testing m at slots tests w) (machine_testing m to slots tests w)
  lead_reaches {at} slots tests w leads_here = reaches_here program (machine_testing m at slots tests w)
  lead_reaches {at} {to} slots tests w (leads_by e) =
      reaches_by program (machine_testing m at slots tests w) (machine_testing m to slots tests w) (instruction.Jump to)
      (instruction_on at (instruction.Jump to) e) refl

  -- the frame goes on with terms that stand where the machine is
  pub runs_on : (t : Here) (terms : SilicaTerms) (outer : List Rest) (place : ℕ) (slots : Slots) (tests : List (Option ℕ))
      (w : World) (h : Holdings)
      → ((k : ℕ) → shape (t.slots k) ≡ shape (c.frame.slots k)) → SameSlots has.body.slots count c.frame.slots slots
      → KindsHold h c.frame.slots → SameWorld t.world w
      → Stands f count code place h terms outer tests → Reaches program m (machine_testing m place slots tests w)
      → Does program m (goes_to c t (runs terms outer))
  runs_on t terms outer place slots tests w h alike s kinds same stands r = does_reached r (record {
    by = (
      0,
      machine_testing m place slots tests w,
      refl,
      as_running (record {
        terms = terms;
        outer = outer;
        control = refl;
        goes_on = record {
          frame = record {
            this = frame.this ∙ sym (self_alike c.frame.slots t.slots alike);
            contract = frame.contract;
            tx = frame.tx;
            entered = frame.entered;
            share_entered = frame.share_entered;
          };
          has = has;
          slots = same_alike alike s;
          holdings = h;
          stands = stands;
        };
        kinds = kinds_alike h c.frame.slots t.slots alike kinds;
        below = below;
        world = same;
      }),
    );
  })

  -- the kinds that are known behind the end of a branch hold
  kinds_behind : (h i : Holdings) → KindsToo h i → KindsHold h c.frame.slots → KindsHold i c.frame.slots
  kinds_behind h i to kinds = λ k x d e g. kinds k x d (to k x e) g

  -- where no loop ends, the terms around go on
  goes_around : (ends : Ends) (t : Option ℕ) (terms : SilicaTerms) (outer : List Rest) → IsNotedAs ends t
      → Does program m (goes_to c (end_branch ends (here c)) (runs terms outer)) → Does program m (end_step program ends terms outer c)
  goes_around plain_end t terms outer noted d = d
  goes_around (test_end p) t terms outer noted d = d
  goes_around (lock_end p n) t terms outer noted d = d
  goes_around (loop_end first a body end) t terms outer noted d = absurd noted

  -- the machine where the list is at its end
  abbrev machine_now : ℕ → Slots → List (Option ℕ) → machine.Configuration
  machine_now place slots tests = machine_testing m place slots tests m.world

  abbrev framed_now : (place : ℕ) (slots : Slots) (tests : List (Option ℕ)) → Framed program c (machine_now place slots tests)
  framed_now place slots tests = record {
    frame = record {
      this = frame.this;
      contract = frame.contract;
      tx = frame.tx;
      entered = frame.entered;
      share_entered = frame.share_entered;
    };
    has = has;
  }

  -- where the first part of a loop is at its end, a turn begins, or the loop is left
  turns : (first : SilicaTerms) (o : Operand) (body : SilicaTerms) (end : Span) (rest : SilicaTerms) (start : ℕ) (i : Holdings)
      (outer : List Rest) (tests : List (Option ℕ)) (slots : Slots) → LoopAt f count code first o body end rest start i outer tests
      → SameSlots has.body.slots count c.frame.slots slots
      → KindsHold (after_terms f.static first (at_head f.static first body i)) c.frame.slots → SameWorld c.world m.world
      → Reaches program m (machine_now (start + length (terms_code f (at_head f.static first body i) first start)) slots tests)
      → Does program m (end_step program (loop_end first o body end) rest outer c)
  turns first o body end rest start i outer tests slots l s kinds same r =
      does_there program m (read program.table (here c) (located o)) _ (λ y e. by y e y.value refl)
    where
      F : List Instruction
      F = terms_code f (at_head f.static first body i) first start

      place : ℕ
      place = after_load f o (start + length F)

      inside : Holdings
      inside = after_terms f.static first (at_head f.static first body i)

      exit : ℕ
      exit = after_branch (place + 1) (terms_code f inside body (place + 1)) (not (terms_end body))

      a : ℕ
      a = slot_read f.scratch 0 o.place

      loaded : (y : Cell) → read program.table (here c) (located o) ≡ Some y
          → LoadedFrom (framed_now (start + length F) slots tests) (start + length F) slots m.world 0 (o ∷ []) (y.value ∷ [])
      loaded y e =
          loads_from (framed_now (start + length F) slots tests) (start + length F) slots m.world 0 (o ∷ []) (y.value ∷ [])
          (has_front code (start + length F) (loads f.scratch 0 (o ∷ [])) _ (behind_placed f count code first o body end rest l))
          (operand_scratch f count code first o body end rest l) s same
          (ap (λ r. option_and_then (λ v. option_map (λ vs. v ∷ vs) (Some [])) (value_in r)) e)

      -- the step of the choice
      chooses : (y : Cell) (e : read program.table (here c) (located o) ≡ Some y) (b : Bool) → y.value ≡ bool_value b
          → Reaches program m (machine_now (if b then place + 1 else exit) (loaded y e).into tests)
      chooses y e b is =
          let l' = loaded y e in
          let M = machine_now place l'.into tests in
          let value = (are_in l'.into (a ∷ []) (y.value ∷ []) l'.values).0 in
          reaches_then r (reaches_then l'.reaches
          (steps_framed (framed_now (start + length F) slots tests) place l'.into m.world
          (machine_now (if b then place + 1 else exit) l'.into tests) (instruction.Unless a exit)
          (turn_placed f count code first o body end rest l).0
          (ap (λ r. (r >>= truth_of) >>= λ b. if b then next_place M else jumped exit M) (value ∙ ap Some is) ∙ led M b)))
        where
          led : (M : machine.Configuration) (b : Bool)
              → (if b then next_place M else jumped exit M)
              ≡ Some (machine.goes (record M { top = record M.top { at = if b then M.top.at + 1 else exit } }))
          led M true = refl
          led M false = refl

      by : (y : Cell) → read program.table (here c) (located o) ≡ Some y → (v : Value) → y.value ≡ v → Does program m (with_truth v
          (goes_to c (here c) (runs body (record { terms = and_term (loop_form first o body end) end rest; ends = plain_end } ∷ outer)))
          (goes_to c (here c) (runs rest outer)))
      by y e (int_value z) is = record { by = tt }
      by y e (text_value bytes) is = record { by = tt }
      by y e (reference n) is = record { by = tt }
      by y e (bool_value true) is =
          runs_on (here c) body (record { terms = and_term (loop_form first o body end) end rest; ends = plain_end } ∷ outer) (place + 1)
          (loaded y e).into tests m.world inside (λ k. refl) (loaded y e).same kinds same
          (body_stands f count code first o body end rest l) (chooses y e true is)
      by y e (bool_value false) is =
          runs_on (here c) rest outer exit (loaded y e).into tests m.world inside (λ k. refl) (loaded y e).same kinds same
          (rest_stands f count code first o body end rest l) (chooses y e false is)

  pops : {at : ℕ} {ended : Bool} {h : Holdings} {all : List Rest} {tests : List (Option ℕ)} (slots : Slots)
      → Around f count code at ended h all tests → ended ≡ false
      → SameSlots has.body.slots count c.frame.slots slots → KindsHold h c.frame.slots → SameWorld c.world m.world
      → Reaches program m (machine_testing m at slots tests m.world)
      → Does program m (pop_step program all c)
  pops slots outermost e s kinds same r = record { by = tt }
  pops {h = h} slots (plain {r = rest} {outer = outer} {tests = tests} to i is goes code_at emitted around) e s kinds same r =
      goes_around rest.ends None rest.terms outer (subst (λ ends. IsNotedAs ends None) (sym is) refl)
      (runs_on (end_branch rest.ends (here c)) rest.terms outer to slots tests m.world i (end_alike rest.ends (here c)) s
      (kinds_behind h i (goes.kinds e) kinds)
      (subst (λ ends. SameWorld (end_branch ends (here c)).world m.world) (sym is) same)
      (record { placed = code_at; emitted = emitted; around = around_as refl (ap (λ b. b || terms_end rest.terms) e) around })
      (reaches_then r (lead_reaches slots tests m.world (goes.leads e))))
  pops slots (turning {r = rest} {outer = outer} {tests = tests} first o body end start i is place holds has_code emitted around) e s kinds same r =
      subst (λ ends. Does program m (end_step program ends rest.terms outer c)) (sym is)
      (turns first o body end rest.terms start i outer tests slots (record { placed = has_code; emitted = emitted; around = around }) s
      (subst (λ h. KindsHold h c.frame.slots) holds kinds) same
      (subst (λ n. Reaches program m (machine_testing m n slots tests m.world)) place r))
  pops {at} {h = h} slots (tested {r = rest} {outer = outer} {tests = tests} to i t noted goes code_at emitted around) e s kinds same r =
      goes_around rest.ends t rest.terms outer noted
      (runs_on (end_branch rest.ends (here c)) rest.terms outer to slots tests (without_lock t m.world) i
      (end_alike rest.ends (here c)) s (kinds_behind h i (goes.kinds e) kinds)
      (end_world rest.ends t (here c) m.world noted same)
      (record { placed = code_at; emitted = emitted; around = around_as refl (ap (λ b. b || terms_end rest.terms) e) around })
      (reaches_then r (reaches_then
      (reaches_by program (machine_testing m at slots (t ∷ tests) m.world)
      (machine_testing m (at + 1) slots tests (without_lock t m.world)) instruction.EndTest
      (instruction_on at instruction.EndTest (goes.ends e)) refl)
      (lead_reaches slots tests (without_lock t m.world) (goes.leads e)))))

-- where the current list is at its end, the one around it goes on
pub pop_does : (program : SilicaProgram) (c : Configuration) (m : machine.Configuration) (outer : List Rest)
    (g : GoesOnWith program c.frame no_terms outer m.top) → KindsHold g.holdings c.frame.slots
    → AllWaitFor program (kind_given_by program c.frame) c.stack m.top.into m.below → SameWorld c.world m.world
    → Does program m (pop_step program outer c)
pop_does program c m outer g kinds below same =
    let e : m.top.at + 0 ≡ m.top.at = omega arith in
    pops program c m g.frame g.has below m.top.slots (around_as e refl g.stands.around) refl g.slots kinds same
    (reaches_here program m)

-- A choice by a `bool`.

module _ {program : SilicaProgram} {o : Operand} {branch other : SilicaTerms} {join span : Span} {rest : SilicaTerms}
    {outer : List Rest} {c : Configuration} {m : machine.Configuration}
    (x : FormStep program (if_form o branch other join) span rest outer c m) where
  abbrev if_place : ℕ
  if_place = behind_loads x (o ∷ [])

  abbrev if_first : List Instruction
  if_first = terms_code (around_forms x) x.goes_on.holdings branch (if_place + 1)

  abbrev if_target : ℕ
  if_target = after_branch (if_place + 1) if_first (jumps_over branch other)

  abbrev if_second : List Instruction
  if_second = terms_code (around_forms x) x.goes_on.holdings other if_target

  abbrev if_chooses : ℕ → Instruction
  if_chooses target = instruction.Unless (slot_read (scratch x) 0 o.place) target

  abbrev IfParts : Type 0
  IfParts = ChoiceParts (code_here x) if_place if_chooses (jumps_over branch other) if_first if_second

  if_behind : IfParts → m.top.at + length (own_code x) ≡ if_target + length if_second
  if_behind parts =
      place_after m.top.at (loads (scratch x) 0 (o ∷ []))
      (choice_code if_place if_chooses (jumps_over branch other) if_first if_second) ∙ parts.size

  first_emitted : AreEmitted (around_forms x) (slot_count x) x.goes_on.holdings branch
  first_emitted =
      let e =
      x.goes_on.stands.emitted in record
      { forms = e.forms.1.0; slots = omega (arith, e.slots); scratch = omega (arith, e.scratch); follows = e.follows.1.0 }

  second_emitted : AreEmitted (around_forms x) (slot_count x) x.goes_on.holdings other
  second_emitted =
      let e =
      x.goes_on.stands.emitted in record
      { forms = e.forms.1.1; slots = omega (arith, e.slots); scratch = omega (arith, e.scratch); follows = e.follows.1.1 }

  if_first_stands : IfParts
      → Stands (around_forms x) (slot_count x) (code_here x) (if_place + 1) x.goes_on.holdings branch
      (record { terms = rest; ends = plain_end } ∷ outer) m.top.tests
  if_first_stands parts = plain_branch x.goes_on.holdings branch (if_place + 1) parts.branch_at first_emitted
      (λ e. subst (LeadsTo (code_here x) (if_place + 1 + length if_first)) (sym (if_behind parts))
      (leads_over (code_here x) (around_forms x) x.goes_on.holdings branch other if_place if_chooses if_first e parts))
      (λ e. kinds_of_first (terms_end branch) (terms_end other) (after_terms (around_forms x).static branch x.goes_on.holdings)
      (after_terms (around_forms x).static other x.goes_on.holdings) e)
      (behind_form (around_forms x) (slot_count x) (code_here x) m.top.at x.goes_on.holdings
      (if_form o branch other join) span rest outer m.top.tests (terms_end branch)
      (first_reached (terms_end branch) (terms_end other) (terms_end rest)) x.goes_on.stands)

  if_second_stands : IfParts
      → Stands (around_forms x) (slot_count x) (code_here x) if_target x.goes_on.holdings other
      (record { terms = rest; ends = plain_end } ∷ outer) m.top.tests
  if_second_stands parts = plain_branch x.goes_on.holdings other if_target parts.other_at second_emitted
      (λ e. subst (LeadsTo (code_here x) (if_target + length if_second)) (sym (if_behind parts)) leads_here)
      (λ e. kinds_of_second (terms_end branch) (terms_end other) (after_terms (around_forms x).static branch x.goes_on.holdings)
      (after_terms (around_forms x).static other x.goes_on.holdings) e)
      (behind_form (around_forms x) (slot_count x) (code_here x) m.top.at x.goes_on.holdings
      (if_form o branch other join) span rest outer m.top.tests (terms_end other)
      (second_reached (terms_end branch) (terms_end other) (terms_end rest)) x.goes_on.stands)

  if_by : (y : Cell) → read program.table (here c) (located o) ≡ Some y → (v : Value) → y.value ≡ v → Does program m (with_truth v
      (goes_to c (here c) (runs branch (record { terms = rest; ends = plain_end } ∷ outer)))
      (goes_to c (here c) (runs other (record { terms = rest; ends = plain_end } ∷ outer))))
  if_by y e (int_value z) is = record { by = tt }
  if_by y e (text_value bytes) is = record { by = tt }
  if_by y e (reference n) is = record { by = tt }
  if_by y e (bool_value true) is =
      let le = form_scratch x in
      let l =
      one_loaded x o y (choice_code if_place if_chooses (jumps_over branch other) if_first if_second) (form_placed x)
      (omega (arith, le)) e in
      let parts = choice_parts (code_here x) if_place if_chooses (jumps_over branch other) if_first if_second l.code in
      let M = machine_at m if_place l.into m.world in
      runs_on program c m x.goes_on.frame x.goes_on.has x.below (here c) branch
      (record { terms = rest; ends = plain_end } ∷ outer) (if_place + 1) l.into m.top.tests m.world x.goes_on.holdings
      (λ k. refl) l.same x.kinds x.world
      (if_first_stands parts)
      (reaches_then l.reaches
      (steps_here x if_place l.into m.world (machine_at m (if_place + 1) l.into m.world) (if_chooses if_target) parts.first
      (ap (λ r. (r >>= truth_of) >>= λ b. if b then next_place M else jumped if_target M) (l.value ∙ ap Some is))))
  if_by y e (bool_value false) is =
      let le = form_scratch x in
      let l =
      one_loaded x o y (choice_code if_place if_chooses (jumps_over branch other) if_first if_second) (form_placed x)
      (omega (arith, le)) e in
      let parts = choice_parts (code_here x) if_place if_chooses (jumps_over branch other) if_first if_second l.code in
      let M = machine_at m if_place l.into m.world in
      runs_on program c m x.goes_on.frame x.goes_on.has x.below (here c) other
      (record { terms = rest; ends = plain_end } ∷ outer) if_target l.into m.top.tests m.world x.goes_on.holdings
      (λ k. refl) l.same x.kinds x.world
      (if_second_stands parts)
      (reaches_then l.reaches
      (steps_here x if_place l.into m.world (machine_at m if_target l.into m.world) (if_chooses if_target) parts.first
      (ap (λ r. (r >>= truth_of) >>= λ b. if b then next_place M else jumped if_target M) (l.value ∙ ap Some is))))

  pub if_does : Does program m (act program (if_form o branch other join) rest outer c)
  if_does = does_there program m (read program.table (here c) (located o)) _ (λ y e. if_by y e y.value refl)

-- A loop.

-- its first part runs, from what slots hold at the head
pub loop_does : {program : SilicaProgram} {first body rest : SilicaTerms} {o : Operand} {end span : Span} {outer : List Rest}
    {c : Configuration} {m : machine.Configuration}
    → FormStep program (loop_form first o body end) span rest outer c m
    → Does program m (act program (loop_form first o body end) rest outer c)
loop_does {program} {first} {body} {rest} {o} {end} {span} {outer} {c} {m} x =
    let f = around_forms x in
    let i = x.goes_on.holdings in
    let s = x.goes_on.stands in
    let l : LoopAt f (slot_count x) (code_here x) first o body end rest m.top.at i outer m.top.tests = record {
      placed = s.placed;
      emitted = record { forms = s.emitted.forms; slots = s.emitted.slots; scratch = s.emitted.scratch; follows = s.emitted.follows };
      around = s.around;
    } in
    runs_on program c m x.goes_on.frame x.goes_on.has x.below (here c) first
    (record { terms = rest; ends = loop_end first o body end } ∷ outer) m.top.at m.top.slots m.top.tests m.world
    (at_head f.static first body i) (λ k. refl) x.goes_on.slots
    (λ k y d e g. x.kinds k y d (kinds_of_first false (terms_end body) i (after_terms f.static body (after_terms f.static first i)) refl k y e) g)
    x.world
    (first_stands f (slot_count x) (code_here x) first o body end rest l) (reaches_here program m)

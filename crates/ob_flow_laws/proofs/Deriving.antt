-- What holds where a form derives, and what is left after it.
use Rattle.std.proofs.Common.{◌≡◌, List, [], Option, Some, None, Ok, Err, IsOk, refl, sym, subst, ◌∙◌}
use Rattle.std.specs.Option.{option_map_or}
use Rattle.ob_base.specs.declared.fault.Span.{Span}
use Rattle.ob_base.specs.declared.id.StateId.{StateId}
use Rattle.ob_perm.specs.Permissions.{unowned}
use Rattle.ob_table.specs.Tables.{ClassTable, signature_at, signature_of}
use Rattle.ob_table.specs.declared.contract.Signature.{Signature}
use Rattle.ob_silica.specs.Terms.{SilicaForm, unit_form, const_form, op_form, copy_form, move_form, new_form, call_form, call_this_form, change_form, test_form, if_form, loop_form, assert_form, disown_form, drop_form, return_form, revert_form, bad_row_form, SilicaTerms, no_terms, and_term, then_terms, SilicaBody}
use Rattle.ob_silica.specs.declared.place.Operand.{Operand}
use Rattle.ob_silica_places.specs.Known.{kind_of_constant, kind_of_operator}
use Rattle.ob_silica_places.specs.Places.{slot, located, location_of}
use Rattle.ob_flow_spec.specs.Premises.{Premise, checked, ◌>>=◌}
use Rattle.ob_flow_spec.specs.Contexts.{BodyFrame, Context, put, now, counted, TestedPlaces, beginning}
use Rattle.ob_flow_spec.specs.Uses.{uses_place}
use Rattle.ob_flow_spec.specs.Binding.{read_of}
use Rattle.ob_flow_spec.specs.Straight.{put_value, operates_on, copies_place, after_copy, moves_place, after_move, asserts_permission, disowns_place, drops_slot}
use Rattle.ob_flow_spec.specs.Calling.{makes_object, after_new, calls_object, after_call, calls_this, after_call_on_this}
use Rattle.ob_flow_spec.specs.Changing.{changes_state, after_change}
use Rattle.ob_flow_spec.specs.Returning.{returns_result}
use Rattle.ob_flow_spec.specs.Testing.{tests_state, in_tested_state, in_other_state, tested_with, first_branch_ended, this_left}
use Rattle.ob_flow_spec.specs.Looping.{head_context, frame_is_as_at_head_if}
use Rattle.ob_flow_spec.specs.Deriving.{Derived, constructor, if_reached, derive, derive_all, derive_in, body_frame, Derives}
use Rattle.ob_flow_laws.specs.Premises.{Hold}
use Rattle.ob_flow_laws.specs.Deriving.{PassesSigned, PassesTest, PassesIf, PassesTurnIf, PassesLoop, Passes, RestDerives, PassesAll}
use Rattle.ob_flow_laws.specs.Calling.{CanMake, CanCall, CanCallThis}
use Rattle.ob_flow_laws.proofs.Premises.{checked_holds, checked_then, bind_ok, ok_same}
use Rattle.ob_flow_laws.proofs.Outcomes.{in_turn}
use Rattle.ob_flow_laws.proofs.Uses.{can_use}
use Rattle.ob_flow_laws.proofs.Straight.{can_operate, can_copy, can_move, is_asserted, can_disown, can_drop}
use Rattle.ob_flow_laws.proofs.Calling.{can_make, can_call, can_call_this}
use Rattle.ob_flow_laws.proofs.Changing.{can_change}
use Rattle.ob_flow_laws.proofs.Testing.{can_test, branch_ended}
use Rattle.ob_flow_laws.proofs.Joining.{both_left}
use Rattle.ob_flow_laws.proofs.Looping.{turn_ends_if}
use Rattle.ob_flow_laws.proofs.Returning.{can_return}

-- checked premises hold, and what stands beside them is left
checked_leaves : (ps : List Premise) (after left : Option Context) → checked ps after ≡ Ok left
    → Hold ps × (left ≡ after)
checked_leaves ps after left e = let r = checked_holds ps after left e in (r.0, sym r.1)

passes_signed : (signature : Option Signature) (says : Signature → List Premise) (Can : Signature → Type 0)
    (after : Signature → Context) (g : Context) (left : Option Context) → ((s : Signature) → Hold (says s) → Can s)
    → option_map_or (λ s. checked (says s) (Some (after s))) signature (Ok (Some g)) ≡ Ok left
    → PassesSigned signature Can after g left
passes_signed signature says Can after g left so e = record {
  signed = λ s i.
      let r = checked_leaves (says s) (Some (after s)) left
      (subst (λ o. option_map_or (λ s. checked (says s) (Some (after s))) o (Ok (Some g)) ≡ Ok left) i e) in
      (so s r.0, r.1);
  unsigned = λ i.
      sym (ok_same (Some g) left (subst (λ o. option_map_or (λ s. checked (says s) (Some (after s))) o (Ok (Some g))
      ≡ Ok left) i e));
}

passes_test : (b : BodyFrame) (ts : TestedPlaces) (o : Operand) (state : StateId) (branch other : SilicaTerms)
    (join at : Span) (g : Context) (left : Option Context)
    → derive b ts (test_form o state branch other join) at g ≡ Ok left → PassesTest b ts o state branch other g left
passes_test b ts o state branch other join at g left e =
    let w = counted g (located o) in
    let a = checked_then (tests_state b ts g o) g _ left e in
    let c = bind_ok (derive_all b (tested_with w (located o) ts) branch (in_tested_state w state (located o) g)) _
    left a.1 in
    let d = bind_ok (first_branch_ended w o c.0) _ left c.2 in
    let f = bind_ok (derive_all b ts other (in_other_state w state (located o) g)) _ left d.2 in
    record {
      can = can_test b ts g o a.0;
      first = c.0;
      ended = d.0;
      second = f.0;
      branch_derives = c.1;
      branch_ends = branch_ended w o c.0 d.0 d.1;
      other_derives = f.1;
      joins = both_left b (this_left c.0) d.0 f.0 join left f.2;
    }

passes_if : (b : BodyFrame) (ts : TestedPlaces) (a : Operand) (branch other : SilicaTerms) (join at : Span)
    (g : Context) (left : Option Context) → derive b ts (if_form a branch other join) at g ≡ Ok left
    → PassesIf b ts a branch other g left
passes_if b ts a branch other join at g left e =
    let u = checked_then (uses_place b g (read_of a)) g _ left e in
    let c = bind_ok (derive_all b ts branch g) _ left u.1 in
    let d = bind_ok (derive_all b ts other g) _ left c.2 in
    record {
      can = can_use b g (read_of a) u.0;
      first = c.0;
      second = d.0;
      branch_derives = c.1;
      other_derives = d.1;
      joins = both_left b (this_left c.0) c.0 d.0 join left d.2;
    }

passes_turn : (b : BodyFrame) (ts : TestedPlaces) (a : Operand) (body : SilicaTerms) (end : Span) (head : Context) (after left : Option Context)
    → if_reached after (λ h. checked (uses_place b h (read_of a)) h >>= (λ h. derive_all b ts body h
    >>= (λ turned. checked (frame_is_as_at_head_if b head turned end) (Some h)))) ≡ Ok left
    → PassesTurnIf b ts a body head after left
passes_turn b ts a body end head None left e = sym (ok_same None left e)
passes_turn b ts a body end head (Some h) left e =
    let u = checked_then (uses_place b h (read_of a)) h _ left e in
    let c = bind_ok (derive_all b ts body h) _ left u.1 in
    let d = checked_leaves (frame_is_as_at_head_if b head c.0 end) (Some h) left c.2 in
    record {
      can = can_use b h (read_of a) u.0;
      turned = c.0;
      body_derives = c.1;
      turns = turn_ends_if b head c.0 end d.0;
      leaves = d.1;
    }

passes_loop : (b : BodyFrame) (ts : TestedPlaces) (first : SilicaTerms) (a : Operand) (body : SilicaTerms) (end at : Span)
    (g : Context) (left : Option Context) → derive b ts (loop_form first a body end) at g ≡ Ok left
    → PassesLoop b ts first a body g left
passes_loop b ts first a body end at g left e =
    let c = bind_ok (derive_all b ts first (head_context b first body g)) _ left e in
    record { after = c.0; first_derives = c.1; turn = passes_turn b ts a body end (head_context b first body g) c.0 left c.2 }

-- a form that derives is passed
pub passes : (b : BodyFrame) (ts : TestedPlaces) (form : SilicaForm) (at : Span) (g : Context) (left : Option Context)
    → derive b ts form at g ≡ Ok left → Passes b ts form at g left
passes b ts unit_form at g left e = sym (ok_same (Some g) left e)
passes b ts (const_form k value) at g left e = sym (ok_same (Some (put_value g k (kind_of_constant value))) left e)
passes b ts (op_form k operator x y line) at g left e =
    let r = checked_leaves (operates_on b g x y) (Some (put_value g k (kind_of_operator operator))) left e in
    (can_operate b g x y r.0, r.1)
passes b ts (copy_form to from) at g left e =
    let r = checked_leaves (copies_place b g at (location_of to) from) (Some (after_copy b g (location_of to) from))
    left e in
    (can_copy b g at (location_of to) from r.0, r.1)
passes b ts (move_form to from contract) at g left e =
    let r = checked_leaves (moves_place b ts g at (location_of to) from)
    (Some (after_move b g (location_of to) from contract)) left e in
    (can_move b ts g at (location_of to) from r.0, r.1)
passes b ts (new_form k contract args) at g left e =
    passes_signed (signature_of b.table contract constructor) (λ s. makes_object b ts g s args)
    (λ s. CanMake b ts g s args) (λ s. after_new b g k contract s args) g left (λ s h. can_make b ts g s args h) e
passes b ts (call_form k receiver contract tx args) at g left e =
    passes_signed (signature_of b.table contract tx) (λ s. calls_object b ts g receiver contract s args)
    (λ s. CanCall b ts g receiver contract s args) (λ s. after_call b g k receiver contract s args) g left
    (λ s h. can_call b ts g receiver contract s args h) e
passes b ts (call_this_form k tx args) at g left e =
    passes_signed (signature_at b.own tx) (λ s. calls_this b ts g at s args) (λ s. CanCallThis b ts g at s args)
    (λ s. after_call_on_this b g at k s args) g left (λ s h. can_call_this b ts g at s args h) e
passes b ts (change_form state given) at g left e =
    let r = checked_leaves (changes_state b ts g at state given) (Some (after_change b g state given)) left e in
    (can_change b ts g at state given r.0, r.1)
passes b ts (test_form o state branch other join) at g left e = passes_test b ts o state branch other join at g left e
passes b ts (if_form a branch other join) at g left e = passes_if b ts a branch other join at g left e
passes b ts (loop_form first a body end) at g left e = passes_loop b ts first a body end at g left e
passes b ts (assert_form o perm) at g left e =
    let r = checked_leaves (asserts_permission b g o perm) (Some g) left e in
    (is_asserted b g o perm r.0, r.1)
passes b ts (disown_form o) at g left e =
    let r = checked_leaves (disowns_place b ts g o) (Some (now g (located o) unowned)) left e in
    (can_disown b ts g o r.0, r.1)
passes b ts (drop_form k) at g left e =
    let r = checked_leaves (drops_slot b ts g at k) (Some (put g (slot k) None)) left e in
    (can_drop b ts g at k r.0, r.1)
passes b ts (return_form value) at g left e =
    let r = checked_leaves (returns_result b ts g at value) None left e in
    (can_return b ts g at value r.0, r.1)
passes b ts (revert_form text) at g left e =
    let r = checked_leaves (uses_place b g (read_of text)) None left e in
    (can_use b g (read_of text) r.0, r.1)
passes b ts bad_row_form at g left e = absurd (cc)

rest_derives_so : (b : BodyFrame) (ts : TestedPlaces) (rest : SilicaTerms) (mid left : Option Context)
    → if_reached mid (λ h. derive_all b ts rest h) ≡ Ok left → RestDerives b ts rest mid left
rest_derives_so b ts rest None left e = sym (ok_same None left e)
rest_derives_so b ts rest (Some h) left e = e

-- terms that derive are passed, one after another
pub passes_all : (b : BodyFrame) (ts : TestedPlaces) (terms : SilicaTerms) (g : Context) (left : Option Context)
    → derive_all b ts terms g ≡ Ok left → PassesAll b ts terms g left
passes_all b ts no_terms g left e = sym (ok_same (Some g) left e)
passes_all b ts (and_term form at rest) g left e =
    let r = bind_ok (derive b ts form at g) _ left e in
    record { mid = r.0; derives = r.1; rest_derives = rest_derives_so b ts rest r.0 left r.2 }

-- what a form leaves, and the rest from there
pub passes_then : (b : BodyFrame) (ts : TestedPlaces) (form : SilicaForm) (at : Span) (rest : SilicaTerms) (g : Context)
    (left : Option Context) → derive_all b ts (and_term form at rest) g ≡ Ok left
    → (mid : Option Context) × Passes b ts form at g mid × RestDerives b ts rest mid left
passes_then b ts form at rest g left e =
    let r = passes_all b ts (and_term form at rest) g left e in
    (r.mid, passes b ts form at g r.mid r.derives, r.rest_derives)

-- where this is left, the rest derives from it
pub rest_from : (b : BodyFrame) (ts : TestedPlaces) (rest : SilicaTerms) (mid left : Option Context) (h : Context)
    → mid ≡ Some h → RestDerives b ts rest mid left → derive_all b ts rest h ≡ Ok left
rest_from b ts rest mid left h e r = subst (λ m. RestDerives b ts rest m left) e r

-- where nothing is left, the rest leaves nothing
pub rest_unreached : (b : BodyFrame) (ts : TestedPlaces) (rest : SilicaTerms) (mid left : Option Context) → mid ≡ None
    → RestDerives b ts rest mid left → left ≡ None
rest_unreached b ts rest mid left e r = subst (λ m. RestDerives b ts rest m left) e r

-- a form with these premises, after which this is known, holds them, and the rest derives from there
pub goes_on : (b : BodyFrame) (ts : TestedPlaces) (form : SilicaForm) (at : Span) (rest : SilicaTerms) (g h : Context)
    (ps : List Premise) (left : Option Context) → derive b ts form at g ≡ checked ps (Some h)
    → derive_all b ts (and_term form at rest) g ≡ Ok left → Hold ps × (derive_all b ts rest h ≡ Ok left)
goes_on b ts form at rest g h ps left d e =
    let follows : Option Context → Derived = λ mid. if_reached mid (λ j. derive_all b ts rest j) in
    checked_then ps (Some h) follows left (subst (λ r. (r >>= follows) ≡ Ok left) d e)

-- a front part of terms derives, and the rest from what it left
pub passes_in_turn : (b : BodyFrame) (ts : TestedPlaces) (front rest : SilicaTerms) (g : Context)
    (left : Option Context)
    → derive_all b ts (then_terms front rest) g ≡ Ok left
    → (mid : Option Context) × (derive_all b ts front g ≡ Ok mid) × RestDerives b ts rest mid left
passes_in_turn b ts front rest g left e =
    let r = bind_ok (derive_all b ts front g) (λ mid. if_reached mid (λ h. derive_all b ts rest h)) left
    (sym (in_turn b ts front rest g) ∙ e) in
    (r.0, r.1, rest_derives_so b ts rest r.0 left r.2)

ok_left : (r : Derived) → IsOk r → (left : Option Context) × (r ≡ Ok left)
ok_left (Ok left) ok = (left, refl)
ok_left (Err fault) ok = absurd (cc)

-- the terms of a body that derives do so from its beginning
pub body_passes : (table : ClassTable) (body : SilicaBody) (b : BodyFrame) → body_frame table body ≡ Some b
    → Derives table body → (left : Option Context) × (derive_all b [] body.terms (beginning b) ≡ Ok left)
body_passes table body b e d =
    ok_left (derive_in b body.terms) (subst (λ o. IsOk (option_map_or (λ c. derive_in c body.terms) o (Ok None))) e d)

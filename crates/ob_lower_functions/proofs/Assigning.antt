-- What statements without blocks and without staged ones come to.
use Rattle.std.proofs.Common.{◌≡◌, ℕ, ◌+◌, ◌≤◌, List, [], Some, Ok, refl, ap, ◌∙◌, subst}
use Rattle.ob_base.specs.Limits.{most_slots}
use Rattle.ob_base.specs.declared.fault.Span.{Span}
use Rattle.ob_base.specs.declared.permission.Perm.{Perm}
use Rattle.ob_table.specs.Expressions.{Expression}
use Rattle.ob_table.specs.Statements.{Statements, resolved_assign, resolved_disown, resolved_assert}
use Rattle.ob_table.specs.declared.seen.Kind.{Kind}
use Rattle.ob_table.specs.declared.seen.Kind.TheVariants.{Int, Bool as BoolKind, Text, Reference}
use Rattle.ob_table.specs.declared.seen.SeenAt.{SeenAt}
use Rattle.ob_table_spec.specs.WellFormed.{StaticFrame, kind_of_seen}
use Rattle.ob_silica.specs.Terms.{SilicaForm, unit_form, assert_form, disown_form, SilicaTerms, one_term, then_terms}
use Rattle.ob_silica.specs.Slots.{slots_of_form, slots_of_operand, slots_of_place}
use Rattle.ob_silica.specs.declared.place.Operand.{Operand}
use Rattle.ob_silica.specs.declared.place.Place.{Place}
use Rattle.ob_silica.specs.declared.place.Place.TheVariants.{This, Slot, Field}
use Rattle.ob_lower_spec.specs.Forms.{locals_of, place_seen, operand, set_slot, set_place}
use Rattle.ob_lower_spec.specs.Points.{StagedRow}
use Rattle.ob_lower_spec.specs.GivenTerms.{with_unit}
use Rattle.ob_lower_spec.specs.StatementTerms.{ended_by}
use Rattle.ob_lower_spec.specs.SlotNeeds.{needs, Staged}
use Rattle.ob_lower_functions.specs.Progress.{◌>>=◌, found, slots_from, Progress, with_term, ended}
use Rattle.ob_lower_functions.specs.ExpressionCode.{value_code}
use Rattle.ob_lower_functions.specs.StatementCode.{BlockPosition, around_at, begun, assign_code, named_code, past_statement}
use Rattle.ob_lower_functions.proofs.Places.{AllBelow, place_below}
use Rattle.ob_lower_functions.proofs.Terms.{max_most, then_on, slots_one}
use Rattle.ob_lower_functions.proofs.Outcomes.{Comes, comes_then, comes_found}
use Rattle.ob_lower_functions.proofs.Valuing.{Valued, one_slot}
use Rattle.ob_lower_functions.proofs.Expressions.{value_comes}
use Rattle.ob_lower_functions.proofs.Settling.{Stands, point, Done, Straight, straight_done, comes_straight, begun_ready, begun_is, term_is, ended_is, unit_few, ended_few}

pub set_slot_few : (kind : Kind) (k : ℕ) (o : Operand) → k + 1 ≤ most_slots → slots_of_operand o ≤ most_slots → slots_of_form (set_slot kind k o) ≤ most_slots
set_slot_few Int k o lk lo = max_most (k + 1) (slots_of_operand o) most_slots lk lo
set_slot_few BoolKind k o lk lo = max_most (k + 1) (slots_of_operand o) most_slots lk lo
set_slot_few Text k o lk lo = max_most (k + 1) (slots_of_operand o) most_slots lk lo
set_slot_few (Reference c) k o lk lo = max_most (k + 1) (slots_of_operand o) most_slots lk lo

pub set_place_few : (kind : Kind) (place : Place) (o : Operand) → slots_of_place place ≤ most_slots → slots_of_operand o ≤ most_slots → slots_of_form (set_place kind place o) ≤ most_slots
set_place_few kind (Slot k) o lk lo = set_slot_few kind k o lk lo
set_place_few (Reference c) (Field g) o lk lo = max_most 0 (slots_of_operand o) most_slots lk lo
set_place_few Int (Field g) o lk lo = max_most 0 (slots_of_operand o) most_slots lk lo
set_place_few BoolKind (Field g) o lk lo = max_most 0 (slots_of_operand o) most_slots lk lo
set_place_few Text (Field g) o lk lo = max_most 0 (slots_of_operand o) most_slots lk lo
set_place_few (Reference c) This o lk lo = max_most 1 (slots_of_operand o) most_slots lk lo
set_place_few Int This o lk lo = max_most 1 (slots_of_operand o) most_slots lk lo
set_place_few BoolKind This o lk lo = max_most 1 (slots_of_operand o) most_slots lk lo
set_place_few Text This o lk lo = max_most 1 (slots_of_operand o) most_slots lk lo

-- a name that is visible
pub record Seen (vs : BlockPosition) (seen : SeenAt) (o : Operand) : Type 0 where
  pub place : Place
  pub found : place_seen vs.variables seen.of ≡ Some place
  pub is : o ≡ operand place seen.span
  pub few : slots_of_operand o ≤ most_slots

pub named_comes : (q : BlockPosition) (seen : SeenAt) → AllBelow most_slots q.variables → Comes [] (Seen q seen) (named_code q seen)
named_comes q seen all =
    comes_then [] (λ place. place_seen q.variables seen.of ≡ Some place) (Seen q seen) (found (place_seen q.variables seen.of)) (λ place. Ok (operand place seen.span))
    (comes_found (λ place. place_seen q.variables seen.of ≡ Some place) (place_seen q.variables seen.of) (λ place e. e))
    (λ place ep. (refl, record { place = place; found = ep; is = refl; few = place_below most_slots q.variables seen.of place one_slot all ep }))

module _ (f : StaticFrame) (start : ℕ) (q : BlockPosition) (used own : List ℕ) (row : StagedRow) (staged : Staged) (rest : Statements) (out : SilicaTerms)
    (st : Stands start q used own row staged) where
  pub one_is : (form : SilicaForm) (span : Span) → with_term (with_term out unit_form span) form span ≡ then_terms out (with_unit span (one_term form span))
  one_is form span = then_on out (one_term unit_form span) (one_term form span)

  pub disown_comes : (seen : SeenAt) (span : Span)
      → Comes [] (Done f start q used own row staged (resolved_disown seen span) rest out)
      (named_code q seen >>= (λ o. past_statement q (with_term (with_term out unit_form span) (disown_form o) span)))
  disown_comes seen span =
      comes_then [] (Seen q seen) (Done f start q used own row staged (resolved_disown seen span) rest out) (named_code q seen) _ (named_comes q seen st.below)
      (λ o n. (
        refl,
        straight_done f start q used own row staged (resolved_disown seen span) rest out (with_term (with_term out unit_form span) (disown_form o) span) st refl refl refl (record {
          ts = with_unit span (one_term (disown_form o) span);
          lowers = (o, (n.place, n.found, n.is), refl, refl);
          is = one_is (disown_form o) span;
          few = unit_few span (one_term (disown_form o) span) (slots_one (disown_form o) span most_slots n.few);
        }),
      ))

  pub assert_comes : (seen : SeenAt) (perm : Perm) (span : Span)
      → Comes [] (Done f start q used own row staged (resolved_assert seen perm span) rest out)
      (named_code q seen >>= (λ o. past_statement q (with_term (with_term out unit_form span) (assert_form o perm) span)))
  assert_comes seen perm span =
      comes_then [] (Seen q seen) (Done f start q used own row staged (resolved_assert seen perm span) rest out) (named_code q seen) _ (named_comes q seen st.below)
      (λ o n. (
        refl,
        straight_done f start q used own row staged (resolved_assert seen perm span) rest out (with_term (with_term out unit_form span) (assert_form o perm) span) st refl refl refl (record {
          ts = with_unit span (one_term (assert_form o perm) span);
          lowers = (o, (n.place, n.found, n.is), refl, refl);
          is = one_is (assert_form o perm) span;
          few = unit_few span (one_term (assert_form o perm) span) (slots_one (assert_form o perm) span most_slots n.few);
        }),
      ))

  -- what an expression of a statement comes to
  abbrev pub Value : Expression → Span → Progress × Operand → Type 0
  Value e span = Valued (around_at f q span) used e (begun (slots_from q.slots) span out)

  pub value_at : (e : Expression) (span : Span) → Comes (needs f (locals_of q.variables) q.slots e) (Value e span)
      (value_code (around_at f q span) e (begun (slots_from q.slots) span out))
  value_at e span = value_comes (around_at f q span) st.below e used (begun (slots_from q.slots) span out) (begun_ready start q used own row staged span out st)

  pub value_is : (e : Expression) (span : Span) (x : Progress × Operand) (v : Value e span x) → x.0.terms ≡ then_terms out (with_unit span v.l.terms)
  value_is e span x v = begun_is (slots_from q.slots) span out v.l.terms v.l.made _ used x.0 v.grown

  -- an expression, and then one term that reads its value
  pub value_then : (e : Expression) (span : Span) (x : Progress × Operand) (v : Value e span x) (form : Operand → SilicaForm)
      → with_term x.0.terms (form x.1) span ≡ then_terms out (with_unit span (then_terms v.l.terms (one_term (form v.l.operand) span)))
  value_then e span x v form =
      ap (λ o. with_term x.0.terms (form o) span) v.is ∙ term_is out (with_unit span v.l.terms) x.0.terms (form v.l.operand) span (value_is e span x v)

  pub value_few : (e : Expression) (span : Span) (x : Progress × Operand) (v : Value e span x) → slots_of_operand v.l.operand ≤ most_slots
  value_few e span x v = subst (λ o. slots_of_operand o ≤ most_slots) v.is v.small

  -- what an assignment comes to
  abbrev Assigned : SeenAt → Expression → Span → SilicaTerms → Type 0
  Assigned target e span = Straight f (point q used own row) (resolved_assign target e span) rest out

  pub assign_comes : (target : SeenAt) (e : Expression) (span : Span)
      → Comes (needs f (locals_of q.variables) q.slots e) (Done f start q used own row staged (resolved_assign target e span) rest out)
      (assign_code f target e span q out >>= past_statement q)
  assign_comes target e span =
      comes_straight f start q used own row staged (resolved_assign target e span) rest out (needs f (locals_of q.variables) q.slots e) (assign_code f target e span q out) st refl refl refl
      (comes_then (needs f (locals_of q.variables) q.slots e) (Value e span) (Assigned target e span) (value_code (around_at f q span) e (begun (slots_from q.slots) span out)) _ (value_at e span)
      (λ x v. comes_then [] (λ kind. kind_of_seen f (locals_of q.variables) target.of ≡ Some kind) (Assigned target e span) (found (kind_of_seen f (locals_of q.variables) target.of)) _
      (comes_found (λ kind. kind_of_seen f (locals_of q.variables) target.of ≡ Some kind) (kind_of_seen f (locals_of q.variables) target.of) (λ kind h. h))
      (λ kind ek. comes_then [] (λ place. place_seen q.variables target.of ≡ Some place) (Assigned target e span) (found (place_seen q.variables target.of)) _
      (comes_found (λ place. place_seen q.variables target.of ≡ Some place) (place_seen q.variables target.of) (λ place h. h))
      (λ place ep. (
        refl,
        record {
          ts = with_unit span (ended_by span v.l.terms (set_place kind place v.l.operand) v.l.made);
          lowers = (v.l, v.lowers, kind, ek, place, ep, refl, refl);
          is = ap (λ o. ended span (set_place kind place o) x.0) v.is
              ∙ ended_is out (with_unit span v.l.terms) v.l.made (set_place kind place v.l.operand) span x.0 (value_is e span x v) v.grown.listed;
          few = ended_few span v.l.terms (set_place kind place v.l.operand) v.l.made v.grown.few
              (set_place_few kind place v.l.operand (place_below most_slots q.variables target.of place one_slot st.below ep) (value_few e span x v)) v.grown.dropped;
        },
      )))))

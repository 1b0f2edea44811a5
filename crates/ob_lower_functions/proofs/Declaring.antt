-- What declarations, returns, reverts and discarded calls come to.
use Rattle.std.proofs.Common.{◌≡◌, ℕ, suc, ◌+◌, ◌≤◌, List, [], ◌∷◌, ◌++◌, Option, Some, None, Result, Ok, refl, sym, ap, ◌∙◌, subst, arith}
use Rattle.ob_base.specs.Limits.{most_slots}
use Rattle.ob_base.specs.declared.fault.Span.{Span}
use Rattle.ob_table.specs.Expressions.{Expression}
use Rattle.ob_table.specs.Statements.{Statements, resolved_declare, resolved_discard, resolved_return, resolved_revert}
use Rattle.ob_table.specs.declared.seen.Kind.{Kind}
use Rattle.ob_table_spec.specs.WellFormed.{StaticFrame}
use Rattle.ob_silica.specs.Terms.{unit_form, const_form, return_form, revert_form, SilicaTerms, and_term, one_term, then_terms}
use Rattle.ob_silica.specs.Slots.{slots_of_terms, slots_of_operand}
use Rattle.ob_silica.specs.declared.place.Constant.TheVariants.{Text as TextConstant}
use Rattle.ob_silica.specs.declared.place.Operand.{Operand}
use Rattle.ob_lower_spec.specs.Forms.{locals_of, drops, slot_operand, set_slot}
use Rattle.ob_lower_spec.specs.Points.{StagedRow, no_row, drops_of, references}
use Rattle.ob_lower_spec.specs.ExpressionTerms.{LowersDiscarded}
use Rattle.ob_lower_spec.specs.GivenTerms.{with_unit}
use Rattle.ob_lower_spec.specs.StatementTerms.{ended_by}
use Rattle.ob_lower_spec.specs.SlotNeeds.{one_more, needs, needs_of_value, needs_of_revert, Staged, none_staged}
use Rattle.ob_lower_functions.specs.Progress.{Stop, ◌>>=◌, Slots, slots_from, next_slot, Progress, with_term, ended}
use Rattle.ob_lower_functions.specs.ExpressionCode.{expression_code, value_code}
use Rattle.ob_lower_functions.specs.StatementCode.{BlockPosition, declared, around_at, begun, slots_between, declare_code, discard_code, return_code, revert_code, past_statement}
use Rattle.ob_lower_functions.proofs.Places.{above_free, above_taken}
use Rattle.ob_lower_functions.proofs.Terms.{max_most, then_on, slots_then, slots_one, slots_drops, between_more}
use Rattle.ob_lower_functions.proofs.Outcomes.{Comes, comes_bind, comes_then, Next, comes_next}
use Rattle.ob_lower_functions.proofs.Valuing.{Valued, Reached}
use Rattle.ob_lower_functions.proofs.Expressions.{expression_comes, value_comes}
use Rattle.ob_lower_functions.proofs.Settling.{Stands, waits_none, point, Done, Straight, comes_straight, begun_ready, begun_is, drops_is, ended_is, unit_few, ended_few}
use Rattle.ob_lower_functions.proofs.Assigning.{set_slot_few, Value, value_at, value_then, value_few}

module _ (f : StaticFrame) (start : ℕ) (q : BlockPosition) (used own : List ℕ) (row : StagedRow) (staged : Staged) (rest : Statements) (out : SilicaTerms)
    (st : Stands start q used own row staged) where
  -- the code of a declaration after the slot of its variable
  abbrev code_after : ℕ → Kind → Expression → Span → Slots × ℕ → Result (BlockPosition × SilicaTerms) Stop
  code_after local of e span s =
      value_code (around_at f q span) e (begun s.0 span out)
      >>= (λ x. Ok (declared q (record { local = local; kind = of; slot = s.1 }), ended span (set_slot of s.1 x.1) x.0))

  -- what a declaration comes to
  abbrev Declares : ℕ → Span → Kind → Expression → Span → BlockPosition × SilicaTerms → Type 0
  Declares local name of e span = Done f start q used own row staged (resolved_declare local name of e span) rest out

  declared_stands : (local : ℕ) (of : Kind) → q.slots + 1 ≤ most_slots
      → Stands start (declared q (record { local = local; kind = of; slot = q.slots })) (q.slots ∷ used) (q.slots ∷ own) no_row none_staged
  declared_stands local of le = record {
    below = (le, st.below);
    above = above_taken q.slots used st.above;
    top = le;
    low = more start q.slots st.low;
    declares = ap (λ l. q.slots ∷ l) st.declares ∙ sym (between_more start q.slots st.low) ∙ ap (slots_between start) (next q.slots);
    waits = waits_none;
  }
    where
      more : (a b : ℕ) → a ≤ b → a ≤ b + 1
      more a b h = omega (arith, h)

      next : (n : ℕ) → suc n ≡ n + 1
      next n = omega arith

  after_slot : (local : ℕ) (name : Span) (of : Kind) (e : Expression) (span : Span) → q.slots + 1 ≤ most_slots
      → Comes (needs f (locals_of q.variables) (q.slots + 1) e) (Declares local name of e span) (code_after local of e span (slots_from (q.slots + 1), q.slots))
  after_slot local name of e span le =
      comes_then (needs f (locals_of q.variables) (q.slots + 1) e) (Valued (around_at f q span) (q.slots ∷ used) e (begun (slots_from (q.slots + 1)) span out)) (Declares local name of e span)
      (value_code (around_at f q span) e (begun (slots_from (q.slots + 1)) span out)) _
      (value_comes (around_at f q span) st.below e (q.slots ∷ used) (begun (slots_from (q.slots + 1)) span out) (record { above = above_taken q.slots used st.above; top = le }))
      (λ x v. (
        refl,
        record {
          ts = with_unit span (ended_by span v.l.terms (set_slot of q.slots v.l.operand) v.l.made);
          used = q.slots ∷ used;
          own = q.slots ∷ own;
          row = no_row;
          lowers = (q.slots, above_free q.slots used st.above, v.l, v.lowers, refl, refl);
          is = ap (λ o. ended span (set_slot of q.slots o) x.0) v.is
              ∙ ended_is out (with_unit span v.l.terms) v.l.made (set_slot of q.slots v.l.operand) span x.0
              (begun_is (slots_from (q.slots + 1)) span out v.l.terms v.l.made _ (q.slots ∷ used) x.0 v.grown) v.grown.listed;
          few = ended_few span v.l.terms (set_slot of q.slots v.l.operand) v.l.made v.grown.few
              (set_slot_few of q.slots v.l.operand le (subst (λ o. slots_of_operand o ≤ most_slots) v.is v.small)) v.grown.dropped;
          names = refl;
          count = refl;
          stands = declared_stands local of le;
        },
      ))

  pub declare_comes : (local : ℕ) (name : Span) (of : Kind) (e : Expression) (span : Span)
      → Comes (one_more q.slots name ++ needs f (locals_of q.variables) (q.slots + 1) e) (Declares local name of e span)
      (declare_code f local name of e span q out)
  declare_comes local name of e span =
      comes_bind (one_more q.slots name) (needs f (locals_of q.variables) (q.slots + 1) e) (Next (slots_from q.slots)) (Declares local name of e span)
      (next_slot name (slots_from q.slots)) (code_after local of e span) (comes_next name (slots_from q.slots))
      (λ s next. subst (λ s. Comes (needs f (locals_of q.variables) (q.slots + 1) e) (Declares local name of e span) (code_after local of e span s)) (sym next.is)
      (after_slot local name of e span next.few))

  -- what a discarded call comes to
  abbrev Discards : Expression → Span → SilicaTerms → Type 0
  Discards e span = Straight f (point q used own row) (resolved_discard e span) rest out

  discard_at : (e : Expression) (span : Span) (x : Progress × Option Operand) → Reached (around_at f q span) used e (begun (slots_from q.slots) span out) x
      → Discards e span (then_terms x.0.terms (drops x.0.slots.references span))
  discard_at e span (r, Some o) (v, (kind, ek)) = record {
    ts = with_unit span (then_terms v.l.terms (drops_of v.l.made span));
    lowers = (
      record { terms = v.l.terms; made = v.l.made },
      subst (λ k. LowersDiscarded (around_at f q span) used k e (record { terms = v.l.terms; made = v.l.made })) (sym ek) (v.l, v.lowers, refl),
      refl,
      refl,
    );
    is = drops_is out (with_unit span v.l.terms) r.terms r.slots.references v.l.made span
        (begun_is (slots_from q.slots) span out v.l.terms v.l.made _ used r v.grown) v.grown.listed;
    few = unit_few span (then_terms v.l.terms (drops_of v.l.made span)) (slots_then v.l.terms (drops_of v.l.made span) most_slots v.grown.few
        (slots_drops (references v.l.made) span most_slots v.grown.dropped));
  }
  discard_at e span (r, None) v = record {
    ts = with_unit span (then_terms v.l.terms (drops_of v.l.made span));
    lowers = (v.l, subst (λ k. LowersDiscarded (around_at f q span) used k e v.l) (sym v.kind) v.lowers, refl, refl);
    is = drops_is out (with_unit span v.l.terms) r.terms r.slots.references v.l.made span
        (begun_is (slots_from q.slots) span out v.l.terms v.l.made _ used r v.grown) v.grown.listed;
    few = unit_few span (then_terms v.l.terms (drops_of v.l.made span)) (slots_then v.l.terms (drops_of v.l.made span) most_slots v.grown.few
        (slots_drops (references v.l.made) span most_slots v.grown.dropped));
  }

  pub discard_comes : (e : Expression) (span : Span)
      → Comes (needs f (locals_of q.variables) q.slots e) (Done f start q used own row staged (resolved_discard e span) rest out) (discard_code f e span q out >>= past_statement q)
  discard_comes e span =
      comes_straight f start q used own row staged (resolved_discard e span) rest out (needs f (locals_of q.variables) q.slots e) (discard_code f e span q out) st refl refl refl
      (comes_then (needs f (locals_of q.variables) q.slots e) (Reached (around_at f q span) used e (begun (slots_from q.slots) span out)) (Discards e span)
      (expression_code (around_at f q span) e (begun (slots_from q.slots) span out)) _
      (expression_comes (around_at f q span) st.below e used (begun (slots_from q.slots) span out) (begun_ready start q used own row staged span out st))
      (λ x r. (refl, discard_at e span x r)))

  -- what a `return` comes to
  abbrev Returns : Option Expression → Span → SilicaTerms → Type 0
  Returns e span = Straight f (point q used own row) (resolved_return e span) rest out

  returned : (e : Option Expression) (span : Span) → Comes (needs_of_value f (locals_of q.variables) q.slots e) (Returns e span) (return_code f e span q out)
  returned None span = (
    refl,
    record {
      ts = with_unit span (one_term (return_form None) span);
      lowers = (one_term (return_form None) span, refl, refl, refl);
      is = then_on out (one_term unit_form span) (one_term (return_form None) span);
      few = unit_few span (one_term (return_form None) span) (slots_one (return_form None) span most_slots (omega arith));
    },
  )
  returned (Some e) span =
      comes_then (needs f (locals_of q.variables) q.slots e) (Value f start q used own row staged rest out st e span) (Returns (Some e) span) (value_code (around_at f q span) e (begun (slots_from q.slots) span out)) _
      (value_at f start q used own row staged rest out st e span)
      (λ x v. (
        refl,
        record {
          ts = with_unit span (then_terms v.l.terms (one_term (return_form (Some v.l.operand)) span));
          lowers = (then_terms v.l.terms (one_term (return_form (Some v.l.operand)) span), (v.l, v.lowers, refl), refl, refl);
          is = value_then f start q used own row staged rest out st e span x v (λ o. return_form (Some o));
          few = unit_few span (then_terms v.l.terms (one_term (return_form (Some v.l.operand)) span)) (slots_then v.l.terms (one_term (return_form (Some v.l.operand)) span) most_slots v.grown.few
              (slots_one (return_form (Some v.l.operand)) span most_slots (value_few f start q used own row staged rest out st e span x v)));
        },
      ))

  pub return_comes : (e : Option Expression) (span : Span)
      → Comes (needs_of_value f (locals_of q.variables) q.slots e) (Done f start q used own row staged (resolved_return e span) rest out) (return_code f e span q out >>= past_statement q)
  return_comes e span =
      comes_straight f start q used own row staged (resolved_return e span) rest out (needs_of_value f (locals_of q.variables) q.slots e) (return_code f e span q out) st refl refl refl (returned e span)

  -- what a `revert` comes to
  abbrev Reverts : Option Expression → Span → SilicaTerms → Type 0
  Reverts e span = Straight f (point q used own row) (resolved_revert e span) rest out

  -- the terms of a `revert` without a text
  abbrev empty_reverted : Span → Slots × ℕ → SilicaTerms
  empty_reverted span s = with_term (with_term (with_term out unit_form span) (const_form s.1 (TextConstant [])) span) (revert_form (slot_operand s.1 span)) span

  empty_reverts : (span : Span) → q.slots + 1 ≤ most_slots → Reverts None span (empty_reverted span (slots_from (q.slots + 1), q.slots))
  empty_reverts span le =
      let last = one_term (revert_form (slot_operand q.slots span)) span in
      let text = and_term (const_form q.slots (TextConstant [])) span last in
      record {
        ts = with_unit span text;
        lowers = (text, (q.slots, above_free q.slots used st.above, refl), refl, refl);
        is = then_on (then_terms out (one_term unit_form span)) (one_term (const_form q.slots (TextConstant [])) span) last ∙ then_on out (one_term unit_form span) text;
        few = unit_few span text (max_most (q.slots + 1) (slots_of_terms last) most_slots le (slots_one (revert_form (slot_operand q.slots span)) span most_slots le));
      }

  reverted : (e : Option Expression) (span : Span) → Comes (needs_of_revert f (locals_of q.variables) q.slots e span) (Reverts e span) (revert_code f e span q out)
  reverted None span =
      comes_then (one_more q.slots span) (Next (slots_from q.slots)) (Reverts None span) (next_slot span (slots_from q.slots)) _ (comes_next span (slots_from q.slots))
      (λ s next. (refl, subst (λ s. Reverts None span (empty_reverted span s)) (sym next.is) (empty_reverts span next.few)))
  reverted (Some e) span =
      comes_then (needs f (locals_of q.variables) q.slots e) (Value f start q used own row staged rest out st e span) (Reverts (Some e) span) (value_code (around_at f q span) e (begun (slots_from q.slots) span out)) _
      (value_at f start q used own row staged rest out st e span)
      (λ x v. (
        refl,
        record {
          ts = with_unit span (then_terms v.l.terms (one_term (revert_form v.l.operand) span));
          lowers = (then_terms v.l.terms (one_term (revert_form v.l.operand) span), (v.l, v.lowers, refl), refl, refl);
          is = value_then f start q used own row staged rest out st e span x v (λ o. revert_form o);
          few = unit_few span (then_terms v.l.terms (one_term (revert_form v.l.operand) span)) (slots_then v.l.terms (one_term (revert_form v.l.operand) span) most_slots v.grown.few
              (slots_one (revert_form v.l.operand) span most_slots (value_few f start q used own row staged rest out st e span x v)));
        },
      ))

  pub revert_comes : (e : Option Expression) (span : Span)
      → Comes (needs_of_revert f (locals_of q.variables) q.slots e span) (Done f start q used own row staged (resolved_revert e span) rest out) (revert_code f e span q out >>= past_statement q)
  revert_comes e span =
      comes_straight f start q used own row staged (resolved_revert e span) rest out (needs_of_revert f (locals_of q.variables) q.slots e span) (revert_code f e span q out) st refl refl refl (reverted e span)

-- What calls, `new` and arguments come to, once it is known what their parts come to.
use Rattle.std.proofs.Common.{◌≡◌, ℕ, ◌+◌, ◌≤◌, max, true, List, [], ◌∷◌, ◌++◌, Option, Some, None, is_some, Result, Ok, refl, sym, ap, ◌∙◌, subst, arith, append_assoc, append-nil}
use Rattle.std.specs.Prelude.{if◌then◌else◌}
use Rattle.ob_base.specs.Limits.{most_slots}
use Rattle.ob_base.specs.declared.fault.Span.{Span}
use Rattle.ob_base.specs.declared.id.ContractId.{ContractId}
use Rattle.ob_base.specs.declared.id.TxId.{TxId}
use Rattle.ob_table.specs.Expressions.{Expression, resolved_call, resolved_new, Arguments, no_arguments, and_argument}
use Rattle.ob_table.specs.declared.seen.Kind.{Kind}
use Rattle.ob_table.specs.declared.seen.SeenAt.{SeenAt}
use Rattle.ob_table_spec.specs.WellFormed.{is_reference}
use Rattle.ob_silica.specs.Terms.{new_form, no_terms, one_term, then_terms}
use Rattle.ob_silica.specs.Slots.{slots_of_form, slots_of_operand, slots_of_operands, slots_of_place, slots_of_result}
use Rattle.ob_silica.specs.declared.place.Operand.{Operand}
use Rattle.ob_lower_spec.specs.Forms.{AroundExpression, locals_of, place_seen, operand}
use Rattle.ob_lower_spec.specs.Points.{in_use}
use Rattle.ob_lower_spec.specs.ExpressionTerms.{kind_around, into, IsCall, calls_this, calls_other}
use Rattle.ob_lower_spec.specs.SlotNeeds.{one_more, temporaries, temporaries_of_all, needs, needs_of_all}
use Rattle.ob_lower_functions.specs.Progress.{Stop, ◌>>=◌, found, Progress, with_term, into_slot}
use Rattle.ob_lower_functions.specs.ExpressionCode.{value, receiver_code, form_of_call, kind_of_result, call_code}
use Rattle.ob_lower_functions.proofs.Places.{AllBelow, place_below}
use Rattle.ob_lower_functions.proofs.Terms.{max_most, slots_one}
use Rattle.ob_lower_functions.proofs.Outcomes.{Comes, comes_bind, comes_then, comes_found, comes_same, comes_also}
use Rattle.ob_lower_functions.proofs.Growing.{Grown, Ready, grown_none, grown_ready, grown_on}
use Rattle.ob_lower_functions.proofs.Valuing.{Valued, Reached, Passed, comes_reached, comes_slot, one_slot}

module _ (a : AroundExpression) where
  -- Receivers.

  -- the receiver of a call gives its forms
  pub record Received (receiver : Option SeenAt) (r : Option Operand) : Type 0 where
    pub call : (k : Option ℕ) (contract : ContractId) (tx : TxId) (args : List Operand) → IsCall a k receiver contract tx args (form_of_call k r contract tx args)
    pub few : (k : Option ℕ) (contract : ContractId) (tx : TxId) (args : List Operand) → slots_of_result k ≤ most_slots → slots_of_operands args ≤ most_slots
        → slots_of_form (form_of_call k r contract tx args) ≤ most_slots

  pub receiver_comes : (receiver : Option SeenAt) → AllBelow most_slots a.variables → Comes [] (Received receiver) (receiver_code a receiver)
  receiver_comes None all = (
    refl,
    record {
      call = λ k contract tx args. calls_this;
      few = λ k contract tx args lk la. max_most (slots_of_result k) (slots_of_operands args) most_slots lk la;
    },
  )
  receiver_comes (Some seen) all =
      comes_then [] (λ place. place_seen a.variables seen.of ≡ Some place) (Received (Some seen)) (found (place_seen a.variables seen.of))
      (λ place. Ok (Some (operand place seen.span)))
      (comes_found (λ place. place_seen a.variables seen.of ≡ Some place) (place_seen a.variables seen.of) (λ place e. e))
      (λ place ep. (
        refl,
        record {
          call = λ k contract tx args. calls_other ep;
          few = λ k contract tx args lk la. max_most (slots_of_result k) (max (slots_of_place place) (slots_of_operands args)) most_slots lk
              (max_most (slots_of_place place) (slots_of_operands args) most_slots (place_below most_slots a.variables seen.of place one_slot all ep) la);
        },
      ))

  -- Arguments.

  pub none_passed : (used : List ℕ) (before : List Operand) (p : Progress) → Ready used p → Passed a used no_arguments before p (p, before)
  none_passed used before p r = record {
    l = record { terms = no_terms; operands = []; made = [] };
    lowers = refl;
    is = sym (append-nil before);
    small = omega arith;
    grown = grown_none used p r;
  }

  pub both_passed : (used : List ℕ) (e : Expression) (es : Arguments) (before : List Operand) (p : Progress) (x : Progress × Operand)
      (y : Progress × List Operand) (v : Valued a used e p x) → Passed a (in_use v.l.made used) es (before ++ x.1 ∷ []) x.0 y
      → Passed a used (and_argument e es) before p y
  both_passed used e es before p x y v w = record {
    l = record { terms = then_terms v.l.terms w.l.terms; operands = v.l.operand ∷ w.l.operands; made = v.l.made ++ w.l.made };
    lowers = (v.l, v.lowers, w.l, w.lowers, refl);
    is = w.is ∙ append_assoc before (x.1 ∷ []) w.l.operands ∙ ap (λ o. before ++ o ∷ w.l.operands) v.is;
    small = max_most (slots_of_operand v.l.operand) (slots_of_operands w.l.operands) most_slots (subst (λ o. slots_of_operand o ≤ most_slots) v.is v.small) w.small;
    grown = grown_on p x.0 y.0 v.l.terms w.l.terms v.l.made w.l.made (temporaries a.frame (locals_of a.variables) e)
        (temporaries_of_all a.frame (locals_of a.variables) es) used v.grown w.grown;
  }

  pub arguments_come : (used : List ℕ) (e : Expression) (es : Arguments) (before : List Operand) (p : Progress)
      (rl : Result (Progress × Operand) Stop) (rr : List Operand → Progress → Result (Progress × List Operand) Stop)
      → Comes (needs a.frame (locals_of a.variables) p.slots.top e) (Valued a used e p) rl
      → ((given : List Operand) (q : Progress) (now : List ℕ) → Ready now q
      → Comes (needs_of_all a.frame (locals_of a.variables) q.slots.top es) (Passed a now es given q) (rr given q))
      → Comes (needs_of_all a.frame (locals_of a.variables) p.slots.top (and_argument e es)) (Passed a used (and_argument e es) before p)
      (rl >>= (λ x. rr (before ++ x.1 ∷ []) x.0))
  arguments_come used e es before p rl rr cl cr =
      let te = temporaries a.frame (locals_of a.variables) e in
      let after = needs_of_all a.frame (locals_of a.variables) (p.slots.top + te) es in
      comes_bind (needs a.frame (locals_of a.variables) p.slots.top e) after (Valued a used e p) (Passed a used (and_argument e es) before p) rl _ cl
      (λ x v. comes_also after (Passed a (in_use v.l.made used) es (before ++ x.1 ∷ []) x.0) (Passed a used (and_argument e es) before p) (rr (before ++ x.1 ∷ []) x.0)
      (comes_same (needs_of_all a.frame (locals_of a.variables) x.0.slots.top es) after (Passed a (in_use v.l.made used) es (before ++ x.1 ∷ []) x.0) (rr (before ++ x.1 ∷ []) x.0)
      (ap (λ t. needs_of_all a.frame (locals_of a.variables) t es) v.grown.count)
      (cr (before ++ x.1 ∷ []) x.0 (in_use v.l.made used) (grown_ready p v.l.terms v.l.made te used x.0 v.grown)))
      (λ y w. both_passed used e es before p x y v w))

  -- `new` and calls.

  pub new_comes : (used : List ℕ) (p : Progress) (contract : ContractId) (args : Arguments) (span : Span) (r : Result (Progress × List Operand) Stop)
      → Comes (needs_of_all a.frame (locals_of a.variables) p.slots.top args) (Passed a used args [] p) r
      → Comes (needs a.frame (locals_of a.variables) p.slots.top (resolved_new contract args span)) (Reached a used (resolved_new contract args span) p)
      (r >>= (λ x. into_slot a true span (λ k. new_form k contract x.1) x.0) >>= value)
  new_comes used p contract args span r c =
      let whole = resolved_new contract args span in
      let ta = temporaries_of_all a.frame (locals_of a.variables) args in
      comes_reached a (needs a.frame (locals_of a.variables) p.slots.top whole) used whole p _ (r >>= (λ x. into_slot a true span (λ k. new_form k contract x.1) x.0)) refl
      (comes_bind (needs_of_all a.frame (locals_of a.variables) p.slots.top args) (one_more (p.slots.top + ta) span) (Passed a used args [] p) (Valued a used whole p) r
      (λ x. into_slot a true span (λ k. new_form k contract x.1) x.0) c
      (λ x v. comes_slot a used whole p x.0 v.l.terms v.l.made ta (p.slots.top + ta) true span (λ k. new_form k contract x.1) v.grown v.grown.count
      (λ le. max_most (x.0.slots.top + 1) (slots_of_operands x.1) most_slots le (subst (λ o. slots_of_operands o ≤ most_slots) (sym v.is) v.small))
      (λ k free. (v.l, v.lowers, k, free, ap (λ o. into a v.l.terms v.l.made (new_form k contract o) k true span) v.is))
      refl))

  -- after its receiver and its arguments a call comes to what its kind says
  called_comes : (used : List ℕ) (p : Progress) (receiver : Option SeenAt) (contract : ContractId) (tx : TxId) (name : Span) (args : Arguments) (span : Span)
      (kind : Option Kind) (r : Option Operand) (x : Progress × List Operand)
      → kind_around a (resolved_call receiver contract tx name args span) ≡ kind → Received receiver r → Passed a used args [] p x
      → Comes (if is_some kind then one_more (p.slots.top + temporaries_of_all a.frame (locals_of a.variables) args) span else [])
      (Reached a used (resolved_call receiver contract tx name args span) p) (call_code a r contract tx span kind x)
  called_comes used p receiver contract tx name args span None r x ek rec v =
      let ta = temporaries_of_all a.frame (locals_of a.variables) args in (
        refl,
        record {
          l = record { terms = then_terms v.l.terms (one_term (form_of_call None r contract tx x.1) a.span); made = v.l.made };
          kind = ek;
          lowers = (v.l, v.lowers, form_of_call None r contract tx x.1, subst (λ o. IsCall a None receiver contract tx o (form_of_call None r contract tx x.1)) v.is (rec.call None contract tx x.1), refl);
          grown = subst (λ n. Grown p (then_terms v.l.terms (one_term (form_of_call None r contract tx x.1) a.span)) v.l.made n used
              (record { terms = with_term x.0.terms (form_of_call None r contract tx x.1) a.span; slots = x.0.slots }))
              (ap (λ o. ta + (if is_some o then 1 else 0)) (sym ek))
              (subst (λ m. Grown p (then_terms v.l.terms (one_term (form_of_call None r contract tx x.1) a.span)) m (ta + 0) used
              (record { terms = with_term x.0.terms (form_of_call None r contract tx x.1) a.span; slots = x.0.slots })) (append-nil v.l.made)
              (grown_on p x.0 (record { terms = with_term x.0.terms (form_of_call None r contract tx x.1) a.span; slots = x.0.slots }) v.l.terms
              (one_term (form_of_call None r contract tx x.1) a.span) v.l.made [] ta 0 used v.grown
              (record {
                terms = refl;
                listed = sym (append-nil x.0.slots.references);
                count = omega arith;
                above = v.grown.above;
                top = v.grown.top;
                few = slots_one (form_of_call None r contract tx x.1) a.span most_slots
                    (rec.few None contract tx x.1 (omega arith) (subst (λ o. slots_of_operands o ≤ most_slots) (sym v.is) v.small));
                dropped = tt;
              })));
        },
      )
  called_comes used p receiver contract tx name args span (Some kind) r x ek rec v =
      let whole = resolved_call receiver contract tx name args span in
      let ta = temporaries_of_all a.frame (locals_of a.variables) args in
      comes_reached a (one_more (p.slots.top + ta) span) used whole p kind (into_slot a (is_reference kind) span (λ k. form_of_call (Some k) r contract tx x.1) x.0) ek
      (comes_slot a used whole p x.0 v.l.terms v.l.made ta (p.slots.top + ta) (is_reference kind) span (λ k. form_of_call (Some k) r contract tx x.1) v.grown v.grown.count
      (λ le. rec.few (Some x.0.slots.top) contract tx x.1 le (subst (λ o. slots_of_operands o ≤ most_slots) (sym v.is) v.small))
      (λ k free. (
        v.l,
        v.lowers,
        kind,
        ek,
        k,
        free,
        form_of_call (Some k) r contract tx x.1,
        subst (λ o. IsCall a (Some k) receiver contract tx o (form_of_call (Some k) r contract tx x.1)) v.is (rec.call (Some k) contract tx x.1),
        refl,
      ))
      (ap (λ o. ta + (if is_some o then 1 else 0)) (sym ek)))

  pub call_comes : (used : List ℕ) (p : Progress) (receiver : Option SeenAt) (contract : ContractId) (tx : TxId) (name : Span) (args : Arguments) (span : Span)
      (rs : Result (Progress × List Operand) Stop) → AllBelow most_slots a.variables
      → Comes (needs_of_all a.frame (locals_of a.variables) p.slots.top args) (Passed a used args [] p) rs
      → Comes (needs a.frame (locals_of a.variables) p.slots.top (resolved_call receiver contract tx name args span))
      (Reached a used (resolved_call receiver contract tx name args span) p)
      (receiver_code a receiver >>= (λ r. rs >>= call_code a r contract tx span (kind_of_result a contract tx)))
  call_comes used p receiver contract tx name args span rs all c =
      let whole = resolved_call receiver contract tx name args span in
      let ta = temporaries_of_all a.frame (locals_of a.variables) args in
      let after = if is_some (kind_around a whole) then one_more (p.slots.top + ta) span else [] in
      comes_bind [] (needs a.frame (locals_of a.variables) p.slots.top whole) (Received receiver) (Reached a used whole p) (receiver_code a receiver) _
      (receiver_comes receiver all)
      (λ r rec. comes_bind (needs_of_all a.frame (locals_of a.variables) p.slots.top args) after (Passed a used args [] p) (Reached a used whole p) rs
      (call_code a r contract tx span (kind_of_result a contract tx)) c
      (λ x v. called_comes used p receiver contract tx name args span (kind_around a whole) r x refl rec v))

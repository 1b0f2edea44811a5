-- What operators come to, once it is known what their operands come to.
use Rattle.std.proofs.Common.{◌≡◌, ℕ, ◌+◌, ◌≤◌, false, List, ◌++◌, Some, Result, refl, sym, ap, ◌∙◌, subst, arith, append_assoc}
use Rattle.ob_base.specs.Limits.{most_slots}
use Rattle.ob_base.specs.declared.fault.Span.{Span}
use Rattle.ob_table.specs.Expressions.{Expression, resolved_unary, resolved_logical}
use Rattle.ob_table.specs.declared.operator.UnaryOperator.{UnaryOperator}
use Rattle.ob_table.specs.declared.operator.LogicalOperator.{LogicalOperator}
use Rattle.ob_table.specs.declared.operator.LogicalOperator.TheVariants.{And, Or}
use Rattle.ob_table.specs.declared.seen.Kind.{Kind}
use Rattle.ob_silica.specs.Terms.{SilicaForm, op_form, copy_form, SilicaTerms, one_term, then_terms}
use Rattle.ob_silica.specs.Slots.{slots_of_form, slots_of_terms, slots_of_operand}
use Rattle.ob_silica.specs.declared.term.SilicaOperator.{SilicaOperator}
use Rattle.ob_silica.specs.declared.term.SilicaOperator.TheVariants.{Unary}
use Rattle.ob_silica.specs.declared.place.Operand.{Operand}
use Rattle.ob_lower_spec.specs.Forms.{AroundExpression, locals_of, operand, logical_form}
use Rattle.ob_lower_spec.specs.Points.{IsFree, Temporary, in_use}
use Rattle.ob_lower_spec.specs.ExpressionTerms.{Lowered, kind_around, into, copied_into, logical_into, LowersExpression}
use Rattle.ob_lower_spec.specs.SlotNeeds.{one_more, temporaries, needs}
use Rattle.ob_lower_functions.specs.Progress.{Stop, ◌>>=◌, Progress, with_term, into_slot}
use Rattle.ob_lower_functions.specs.ExpressionCode.{value, branching, copied_code, logical_code}
use Rattle.ob_lower_functions.proofs.Terms.{max_most, three_most, slots_then, slots_one}
use Rattle.ob_lower_functions.proofs.Outcomes.{Comes, comes_bind, comes_then, comes_same}
use Rattle.ob_lower_functions.proofs.Growing.{Grown, Ready, grown_ready, grown_on}
use Rattle.ob_lower_functions.proofs.Valuing.{Valued, Reached, comes_reached, comes_slot}

-- from before a branch on, the terms of the branch stand in one term
branched : (q r : Progress) (us : SilicaTerms) (ys : List Temporary) (m : ℕ) (used : List ℕ) (form code : SilicaForm) (place : Span)
    → Grown (branching q) us ys m used r → code ≡ form → slots_of_form form ≤ most_slots
    → Grown q (one_term form place) ys m used (record { terms = with_term q.terms code place; slots = r.slots })
branched q r us ys m used form code place g e few = record {
  terms = ap (λ c. then_terms q.terms (one_term c place)) e;
  listed = g.listed;
  count = g.count;
  above = g.above;
  top = g.top;
  few = slots_one form place most_slots few;
  dropped = g.dropped;
}

module _ (a : AroundExpression) where
  pub unary_comes : (used : List ℕ) (p : Progress) (o : UnaryOperator) (sign : Span) (e : Expression) (span : Span) (r : Result (Progress × Operand) Stop)
      → Comes (needs a.frame (locals_of a.variables) p.slots.top e) (Valued a used e p) r
      → Comes (needs a.frame (locals_of a.variables) p.slots.top (resolved_unary o sign e span)) (Reached a used (resolved_unary o sign e span) p)
      (r >>= (λ x. into_slot a false span (λ k. op_form k (Unary o) x.1 x.1 sign.line) x.0) >>= value)
  unary_comes used p o sign e span r c =
      comes_reached a (needs a.frame (locals_of a.variables) p.slots.top (resolved_unary o sign e span)) used (resolved_unary o sign e span) p _
      (r >>= (λ x. into_slot a false span (λ k. op_form k (Unary o) x.1 x.1 sign.line) x.0)) refl
      (comes_bind (needs a.frame (locals_of a.variables) p.slots.top e) (one_more (p.slots.top + temporaries a.frame (locals_of a.variables) e) span)
      (Valued a used e p) (Valued a used (resolved_unary o sign e span) p) r (λ x. into_slot a false span (λ k. op_form k (Unary o) x.1 x.1 sign.line) x.0) c
      (λ x v. comes_slot a used (resolved_unary o sign e span) p x.0 v.l.terms v.l.made (temporaries a.frame (locals_of a.variables) e)
      (p.slots.top + temporaries a.frame (locals_of a.variables) e) false span (λ k. op_form k (Unary o) x.1 x.1 sign.line)
      v.grown v.grown.count
      (λ le. three_most (x.0.slots.top + 1) (slots_of_operand x.1) (slots_of_operand x.1) most_slots le v.small v.small)
      (λ k free. (v.l, v.lowers, k, free, ap (λ w. into a v.l.terms v.l.made (op_form k (Unary o) w w sign.line) k false span) v.is))
      refl))

  -- an operator that sets a slot
  pub binary_comes : (used : List ℕ) (p : Progress) (o : SilicaOperator) (sign : Span) (left right : Expression) (span : Span) (kind : Kind)
      (rl : Result (Progress × Operand) Stop) (rr : Progress → Result (Progress × Operand) Stop) (whole : Expression)
      → ((x y : Lowered) (k : ℕ) → LowersExpression a used left x → LowersExpression a (in_use x.made used) right y → IsFree k (in_use (x.made ++ y.made) used)
      → LowersExpression a used whole (into a (then_terms x.terms y.terms) (x.made ++ y.made) (op_form k o x.operand y.operand sign.line) k false span))
      → temporaries a.frame (locals_of a.variables) left + temporaries a.frame (locals_of a.variables) right + 1 ≡ temporaries a.frame (locals_of a.variables) whole
      → kind_around a whole ≡ Some kind
      → Comes (needs a.frame (locals_of a.variables) p.slots.top left) (Valued a used left p) rl
      → ((q : Progress) (now : List ℕ) → Ready now q → Comes (needs a.frame (locals_of a.variables) q.slots.top right) (Valued a now right q) (rr q))
      → Comes (needs a.frame (locals_of a.variables) p.slots.top left
      ++ needs a.frame (locals_of a.variables) (p.slots.top + temporaries a.frame (locals_of a.variables) left) right
      ++ one_more (p.slots.top + (temporaries a.frame (locals_of a.variables) left + temporaries a.frame (locals_of a.variables) right)) span)
      (Reached a used whole p)
      (rl >>= (λ x. rr x.0 >>= (λ y. into_slot a false span (λ k. op_form k o x.1 y.1 sign.line) y.0 >>= value)))
  binary_comes used p o sign left right span kind rl rr whole low count ek cl cr =
      let tl = temporaries a.frame (locals_of a.variables) left in
      let tr = temporaries a.frame (locals_of a.variables) right in
      let last = one_more (p.slots.top + (tl + tr)) span in
      let after = needs a.frame (locals_of a.variables) (p.slots.top + tl) right in
      let first = needs a.frame (locals_of a.variables) p.slots.top left in
      comes_same (first ++ (after ++ last)) (first ++ after ++ last) (Reached a used whole p)
      (rl >>= (λ x. rr x.0 >>= (λ y. into_slot a false span (λ k. op_form k o x.1 y.1 sign.line) y.0 >>= value)))
      (sym (append_assoc first after last))
      (comes_bind first (after ++ last) (Valued a used left p) (Reached a used whole p) rl _ cl
      (λ x v. comes_bind after last (Valued a (in_use v.l.made used) right x.0) (Reached a used whole p) (rr x.0) _
      (comes_same (needs a.frame (locals_of a.variables) x.0.slots.top right) after (Valued a (in_use v.l.made used) right x.0) (rr x.0)
      (ap (λ t. needs a.frame (locals_of a.variables) t right) v.grown.count)
      (cr x.0 (in_use v.l.made used) (grown_ready p v.l.terms v.l.made tl used x.0 v.grown)))
      (λ y w. let g = grown_on p x.0 y.0 v.l.terms w.l.terms v.l.made w.l.made tl tr used v.grown w.grown in
      comes_reached a last used whole p kind (into_slot a false span (λ k. op_form k o x.1 y.1 sign.line) y.0) ek
      (comes_slot a used whole p y.0 (then_terms v.l.terms w.l.terms) (v.l.made ++ w.l.made) (tl + tr) (p.slots.top + (tl + tr)) false span
      (λ k. op_form k o x.1 y.1 sign.line) g g.count
      (λ le. three_most (y.0.slots.top + 1) (slots_of_operand x.1) (slots_of_operand y.1) most_slots le v.small w.small)
      (λ k free. subst (λ u. LowersExpression a used whole (into a (then_terms v.l.terms w.l.terms) (v.l.made ++ w.l.made) (op_form k o u y.1 sign.line) k false span)) (sym v.is)
      (subst (λ u. LowersExpression a used whole (into a (then_terms v.l.terms w.l.terms) (v.l.made ++ w.l.made) (op_form k o v.l.operand u sign.line) k false span)) (sym w.is)
      (low v.l w.l k v.lowers w.lowers free)))
      count))))

  -- the branch of `&&` or `||` in which the right side is copied
  copied_is : (x y : Lowered) (u : Operand) (v : Progress × Operand) → u ≡ x.operand → v.1 ≡ y.operand → v.0.terms ≡ y.terms
      → copied_code a u v ≡ copied_into a x y
  copied_is x y u v eu ev et =
      ap (λ o. then_terms v.0.terms (one_term (copy_form o.place v.1) a.span)) eu
      ∙ ap (λ o. then_terms v.0.terms (one_term (copy_form x.operand.place o) a.span)) ev
      ∙ ap (λ t. then_terms t (one_term (copy_form x.operand.place y.operand) a.span)) et

  copied_few : (x y : Lowered) → slots_of_operand x.operand ≤ most_slots → slots_of_operand y.operand ≤ most_slots → slots_of_terms y.terms ≤ most_slots
      → slots_of_terms (copied_into a x y) ≤ most_slots
  copied_few x y lx ly lt =
      slots_then y.terms (one_term (copy_form x.operand.place y.operand) a.span) most_slots lt
      (slots_one (copy_form x.operand.place y.operand) a.span most_slots (max_most (slots_of_operand x.operand) (slots_of_operand y.operand) most_slots lx ly))

  logical_few : (o : LogicalOperator) (left : Operand) (right : SilicaTerms) (sign : Span) → slots_of_operand left ≤ most_slots → slots_of_terms right ≤ most_slots
      → slots_of_form (logical_form o left right sign) ≤ most_slots
  logical_few And left right sign few fits = three_most (slots_of_operand left) (slots_of_terms right) 0 most_slots few fits (omega arith)
  logical_few Or left right sign few fits = three_most (slots_of_operand left) 0 (slots_of_terms right) most_slots few (omega arith) fits

  pub logical_comes : (used : List ℕ) (p : Progress) (o : LogicalOperator) (sign : Span) (left right : Expression) (span : Span)
      (rl : Result (Progress × Operand) Stop) (rr : Progress → Result (Progress × Operand) Stop)
      → Comes (needs a.frame (locals_of a.variables) p.slots.top left) (Valued a used left p) rl
      → ((q : Progress) (now : List ℕ) → Ready now q → Comes (needs a.frame (locals_of a.variables) q.slots.top right) (Valued a now right q) (rr q))
      → Comes (needs a.frame (locals_of a.variables) p.slots.top (resolved_logical o sign left right span)) (Reached a used (resolved_logical o sign left right span) p)
      (rl >>= (λ x. rr (branching x.0) >>= (λ y. value (logical_code a o sign span x y))))
  logical_comes used p o sign left right span rl rr cl cr =
      let tl = temporaries a.frame (locals_of a.variables) left in
      let tr = temporaries a.frame (locals_of a.variables) right in
      let whole = resolved_logical o sign left right span in
      let after = needs a.frame (locals_of a.variables) (p.slots.top + tl) right in
      comes_bind (needs a.frame (locals_of a.variables) p.slots.top left) after (Valued a used left p) (Reached a used whole p) rl _ cl
      (λ x v. comes_then after (Valued a (in_use v.l.made used) right (branching x.0)) (Reached a used whole p) (rr (branching x.0)) _
      (comes_same (needs a.frame (locals_of a.variables) x.0.slots.top right) after (Valued a (in_use v.l.made used) right (branching x.0)) (rr (branching x.0))
      (ap (λ t. needs a.frame (locals_of a.variables) t right) v.grown.count)
      (cr (branching x.0) (in_use v.l.made used) (record { above = v.grown.above; top = v.grown.top })))
      (λ y w. let form = logical_form o v.l.operand (copied_into a v.l w.l) sign in (
        refl,
        (
          record {
            l = logical_into a o v.l w.l sign span;
            lowers = (v.l, v.lowers, w.l, w.lowers, refl);
            is = ap (λ o. operand o.place span) v.is;
            small = v.small;
            grown = grown_on p x.0 (logical_code a o sign span x y).0 v.l.terms (one_term form a.span) v.l.made w.l.made tl tr used v.grown
                (branched x.0 y.0 w.l.terms w.l.made tr (in_use v.l.made used) form (logical_form o x.1 (copied_code a x.1 y) sign) a.span w.grown
                (ap (λ u. logical_form o u (copied_code a x.1 y) sign) v.is ∙ ap (λ t. logical_form o v.l.operand t sign) (copied_is v.l w.l x.1 y v.is w.is w.grown.terms))
                (logical_few o v.l.operand (copied_into a v.l w.l) sign (subst (λ o. slots_of_operand o ≤ most_slots) v.is v.small)
                (copied_few v.l w.l (subst (λ o. slots_of_operand o ≤ most_slots) v.is v.small) (subst (λ o. slots_of_operand o ≤ most_slots) w.is w.small) w.grown.few)));
          },
          (_, refl),
        ),
      )))

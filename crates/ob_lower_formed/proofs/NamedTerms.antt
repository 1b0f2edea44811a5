-- The terms of expressions name no states.
use Rattle.std.proofs.Common.{ℕ, List, [], ◌∷◌, Option, Some, None, Bool, true, false, sym, subst}
use Rattle.ob_base.specs.declared.fault.Span.{Span}
use Rattle.ob_base.specs.declared.id.ContractId.{ContractId}
use Rattle.ob_base.specs.declared.id.TxId.{TxId}
use Rattle.ob_table.specs.declared.operator.LogicalOperator.TheVariants.{And, Or}
use Rattle.ob_table.specs.Expressions.{Expression, resolved_number, resolved_text, resolved_bool, resolved_seen, resolved_unary, resolved_binary, resolved_logical, resolved_call, resolved_new, Arguments, no_arguments, and_argument}
use Rattle.ob_table.specs.Statements.{GivenField}
use Rattle.ob_table.specs.declared.seen.Kind.{Kind}
use Rattle.ob_table.specs.declared.seen.SeenAt.{SeenAt}
use Rattle.ob_silica.specs.Terms.{SilicaForm, SilicaTerms, no_terms, and_term, one_term, then_terms}
use Rattle.ob_silica.specs.declared.place.Operand.{Operand}
use Rattle.ob_flow_spec.specs.Numbered.{NamesStates, AllNameStates}
use Rattle.ob_lower_spec.specs.Forms.{AroundExpression, drops}
use Rattle.ob_lower_spec.specs.Points.{in_use}
use Rattle.ob_lower_spec.specs.ExpressionTerms.{Lowered, LoweredArguments, LoweredCall, LowersName, IsCall, calls_this, calls_other, LowersExpression, LowersArguments, LowersDiscarded}
use Rattle.ob_lower_spec.specs.GivenTerms.{LoweredGiven, LowersGiven}

pub both : (xs ys : SilicaTerms) → AllNameStates xs → AllNameStates ys → AllNameStates (then_terms xs ys)
both no_terms ys a b = b
both (and_term form span rest) ys a b = (a.0, both rest ys a.1 b)

pub dropped : (ks : List ℕ) (span : Span) → AllNameStates (drops ks span)
dropped [] span = tt
dropped (k ∷ ks) span = (tt, dropped ks span)

call_form_is : (a : AroundExpression) (k : Option ℕ) (receiver : Option SeenAt) (contract : ContractId) (tx : TxId) (args : List Operand) (form : SilicaForm) → IsCall a k receiver contract tx args form → NamesStates form
call_form_is a k receiver contract tx args form calls_this = tt
call_form_is a k receiver contract tx args form (calls_other e) = tt

of_two : (xs ys : SilicaTerms) → AllNameStates xs → AllNameStates ys → (form : SilicaForm) (span : Span) → NamesStates form → AllNameStates (then_terms (then_terms xs ys) (one_term form span))
of_two xs ys a b form span c = both (then_terms xs ys) _ (both xs ys a b) (c, tt)

by_name : (a : AroundExpression) (used : List ℕ) (is_ref : Bool) (o : Operand) (l : Lowered) → LowersName a used is_ref o l → AllNameStates l.terms
by_name a used true o l e = subst (λ (x : Lowered). AllNameStates x.terms) (sym e) tt
by_name a used false o l is = subst (λ (x : Lowered). AllNameStates x.terms) (sym is.2) (tt, tt)

mutual
  pub of_expression : (a : AroundExpression) (used : List ℕ) (e : Expression) (l : Lowered) → LowersExpression a used e l → AllNameStates l.terms
  of_expression a used (resolved_number value span) l is = subst (λ (x : Lowered). AllNameStates x.terms) (sym is.2) (tt, tt)
  of_expression a used (resolved_text value span) l is = subst (λ (x : Lowered). AllNameStates x.terms) (sym is.2) (tt, tt)
  of_expression a used (resolved_bool value span) l is = subst (λ (x : Lowered). AllNameStates x.terms) (sym is.2) (tt, tt)
  of_expression a used (resolved_seen seen span) l is = by_name a used _ _ l is.4
  of_expression a used (resolved_unary operator sign e span) l is =
      subst (λ (x : Lowered). AllNameStates x.terms) (sym is.4) (both is.0.terms _ (of_expression a used e is.0 is.1) (tt, tt))
  of_expression a used (resolved_logical And sign left right span) l is =
      subst (λ (x : Lowered). AllNameStates x.terms) (sym is.4)
      (both is.0.terms _ (of_expression a used left is.0 is.1) ((both is.2.terms _ (of_expression a _ right is.2 is.3) (tt, tt), tt), tt))
  of_expression a used (resolved_logical Or sign left right span) l is =
      subst (λ (x : Lowered). AllNameStates x.terms) (sym is.4)
      (both is.0.terms _ (of_expression a used left is.0 is.1) ((tt, both is.2.terms _ (of_expression a _ right is.2 is.3) (tt, tt)), tt))
  of_expression a used (resolved_binary operator sign left right span) l is = subst (λ (x : Lowered). AllNameStates x.terms) (sym is.6) (of_two is.0.terms is.2.terms (of_expression a used left is.0 is.1) (of_expression a _ right is.2 is.3) _ _ tt)
  of_expression a used (resolved_call receiver contract tx name args span) l is =
      subst (λ (x : Lowered). AllNameStates x.terms) (sym is.8)
      (both is.0.terms _ (of_arguments a used args is.0 is.1) (call_form_is a _ receiver contract tx _ is.6 is.7, tt))
  of_expression a used (resolved_new contract args span) l is =
      subst (λ (x : Lowered). AllNameStates x.terms) (sym is.4) (both is.0.terms _ (of_arguments a used args is.0 is.1) (tt, tt))

  pub of_arguments : (a : AroundExpression) (used : List ℕ) (es : Arguments) (l : LoweredArguments) → LowersArguments a used es l → AllNameStates l.terms
  of_arguments a used no_arguments l e = subst (λ (x : LoweredArguments). AllNameStates x.terms) (sym e) tt
  of_arguments a used (and_argument e es) l is =
      subst (λ (x : LoweredArguments). AllNameStates x.terms) (sym is.4)
      (both is.0.terms is.2.terms (of_expression a used e is.0 is.1) (of_arguments a _ es is.2 is.3))

pub of_discarded : (a : AroundExpression) (used : List ℕ) (kind : Option Kind) (e : Expression) (l : LoweredCall) → LowersDiscarded a used kind e l → AllNameStates l.terms
of_discarded a used (Some kind) e l is = subst (λ (x : LoweredCall). AllNameStates x.terms) (sym is.2) (of_expression a used e is.0 is.1)
of_discarded a used None (resolved_call receiver contract tx name args span) l is =
    subst (λ (x : LoweredCall). AllNameStates x.terms) (sym is.4)
    (both is.0.terms _ (of_arguments a used args is.0 is.1) (call_form_is a None receiver contract tx is.0.operands is.2 is.3, tt))
of_discarded a used None (resolved_number value span) l is = absurd is
of_discarded a used None (resolved_text value span) l is = absurd is
of_discarded a used None (resolved_bool value span) l is = absurd is
of_discarded a used None (resolved_seen seen span) l is = absurd is
of_discarded a used None (resolved_unary operator sign e span) l is = absurd is
of_discarded a used None (resolved_binary operator sign left right span) l is = absurd is
of_discarded a used None (resolved_logical operator sign left right span) l is = absurd is
of_discarded a used None (resolved_new contract args span) l is = absurd is

pub of_given : (a : AroundExpression) (used : List ℕ) (gs : List GivenField) (l : LoweredGiven) → LowersGiven a used gs l → AllNameStates l.terms
of_given a used [] l e = subst (λ (x : LoweredGiven). AllNameStates x.terms) (sym e) tt
of_given a used (g ∷ gs) l is =
    subst (λ (x : LoweredGiven). AllNameStates x.terms) (sym is.4)
    (both is.0.terms is.2.terms (of_expression a used g.value is.0 is.1) (of_given a (in_use is.0.made used) gs is.2 is.3))

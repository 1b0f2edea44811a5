-- Lowering goes on at well-formed expressions.
use Rattle.std.proofs.Common.{◌≡◌, Bool, true, false, List, [], ◌∷◌, ◌++◌, Option, Some, None, IsSome, IsSomeAnd, refl, sym, subst}
use Rattle.std.specs.Prelude.{⊤}
use Rattle.ob_base.specs.declared.fault.Span.{Span}
use Rattle.ob_base.specs.declared.id.ContractId.{ContractId}
use Rattle.ob_base.specs.declared.id.TxId.{TxId}
use Rattle.ob_table.specs.declared.operator.BinaryOperator.{BinaryOperator}
use Rattle.ob_table.specs.declared.operator.BinaryOperator.TheVariants.{Equal, NotEqual}
use Rattle.ob_table.specs.Expressions.{Expression, resolved_number, resolved_text, resolved_bool, resolved_seen, resolved_unary, resolved_binary, resolved_logical, resolved_call, resolved_new, Arguments, no_arguments, and_argument}
use Rattle.ob_table.specs.Tables.{signature_of}
use Rattle.ob_table.specs.declared.contract.Param.{Param}
use Rattle.ob_table.specs.declared.contract.Signature.{Signature}
use Rattle.ob_table.specs.declared.seen.Kind.{Kind}
use Rattle.ob_table.specs.declared.seen.Seen.{Seen}
use Rattle.ob_table.specs.declared.seen.SeenAt.{SeenAt}
use Rattle.ob_table_spec.specs.WellFormed.{StaticFrame, LocalKinds, kind_of_seen, kind_of_expression, is_reference, ServesAs, HasOperands, PassTo, IsCalled, constructor_at, IsWellFormedExpression, AreWellFormedArguments}
use Rattle.ob_silica.specs.Terms.{op_form, copy_form, new_form}
use Rattle.ob_silica.specs.declared.term.SilicaOperator.TheVariants.{Unary, Binary}
use Rattle.ob_silica.specs.declared.place.Operand.{Operand}
use Rattle.ob_silica.specs.declared.place.Place.TheVariants.{Slot}
use Rattle.ob_lower_spec.specs.Forms.{AroundExpression, locals_of, place_seen, operand}
use Rattle.ob_lower_functions.specs.Progress.{◌>>=◌, found, Progress, into_slot}
use Rattle.ob_lower_functions.specs.ExpressionCode.{valued, value, name_code, seen_code, branching, receiver_code, form_of_call, kind_of_result, call_code, expression_code, arguments_code, value_code}
use Rattle.ob_lower_functions.proofs.Naming.{Keeps, keeps_bind, keeps_into, HasOne, keeps_valued, keeps_some, some_and, Names, keeps_place, keeps_kind}

equal_kinded : (f : StaticFrame) (ls : LocalKinds) (o : Option Kind) (right : Expression) → IsSomeAnd o (λ kind. (is_reference kind ≡ false) × ServesAs f ls kind right)
    → IsSome (kind_of_expression f ls right)
equal_kinded f ls None right h = absurd h
equal_kinded f ls (Some kind) right h = some_and (kind_of_expression f ls right) _ h.1

-- the operands of an operator have kinds
operands_kinded : (f : StaticFrame) (ls : LocalKinds) (o : BinaryOperator) (left right : Expression) → HasOperands f ls o left right
    → IsSome (kind_of_expression f ls left) × IsSome (kind_of_expression f ls right)
operands_kinded f ls Equal left right h = (some_and (kind_of_expression f ls left) _ h, equal_kinded f ls (kind_of_expression f ls left) right h)
operands_kinded f ls NotEqual left right h = (some_and (kind_of_expression f ls left) _ h, equal_kinded f ls (kind_of_expression f ls left) right h)
operands_kinded f ls o left right h = (some_and (kind_of_expression f ls left) _ h.0, some_and (kind_of_expression f ls right) _ h.1)

module _ (a : AroundExpression) (ls : LocalKinds) (names : Names ls a.variables) where
  name_keeps : (b : Bool) (o : Operand) (p : Progress) → Keeps (λ x. ⊤) (name_code a b o p)
  name_keeps true o p = tt
  name_keeps false o p = keeps_into a false o.span (λ k. copy_form (Slot k) o) p

  seen_keeps : (seen : Seen) (span : Span) (p : Progress) → IsSome (kind_of_seen a.frame ls seen) → Keeps (λ x. ⊤) (seen_code a seen span p)
  seen_keeps seen span p is =
      keeps_bind (λ x. ⊤) (λ x. ⊤) (found (kind_of_seen a.frame (locals_of a.variables) seen)) _ (keeps_kind a.frame ls a.variables seen names is)
      (λ kind t. keeps_bind (λ x. ⊤) (λ x. ⊤) (found (place_seen a.variables seen)) _ (keeps_place a.frame ls a.variables seen names is)
      (λ place t. name_keeps (is_reference kind) (operand place span) p))

  receiver_keeps : (receiver : Option SeenAt) (contract : ContractId) (s : Signature) → IsCalled a.frame ls receiver contract s → Keeps (λ x. ⊤) (receiver_code a receiver)
  receiver_keeps None contract s is = tt
  receiver_keeps (Some seen) contract s is =
      keeps_bind (λ x. ⊤) (λ x. ⊤) (found (place_seen a.variables seen.of)) _
      (keeps_place a.frame ls a.variables seen.of names (subst IsSome (sym is.0) refl)) (λ place t. tt)

  called_keeps : (r : Option Operand) (contract : ContractId) (tx : TxId) (span : Span) (kind : Option Kind) (x : Progress × List Operand)
      → Keeps (λ y. IsSome kind → IsSome y.1) (call_code a r contract tx span kind x)
  called_keeps r contract tx span None x = λ is. is
  called_keeps r contract tx span (Some kind) x =
      keeps_bind (λ x. ⊤) (λ y. IsSome (Some kind) → IsSome y.1) (into_slot a (is_reference kind) span (λ k. form_of_call (Some k) r contract tx x.1) x.0) value
      (keeps_into a (is_reference kind) span (λ k. form_of_call (Some k) r contract tx x.1) x.0) (λ y t u. refl)

  passed : (o : Option Signature) (P : Signature → Type 0) (e : Arguments) → IsSomeAnd o (λ s. P s × PassTo a.frame ls s.params e) → (s : Signature) × P s × PassTo a.frame ls s.params e
  passed None P e h = absurd h
  passed (Some s) P e h = (s, h.0, h.1)

  built : (o : Option Signature) (e : Arguments) → IsSomeAnd o (λ s. PassTo a.frame ls s.params e) → (s : Signature) × PassTo a.frame ls s.params e
  built None e h = absurd h
  built (Some s) e h = (s, h)

  mutual
    pub expression_keeps : (e : Expression) (p : Progress) → IsWellFormedExpression a.frame ls e → Keeps (HasOne a.frame ls e) (expression_code a e p)
    expression_keeps (resolved_number z span) p made = keeps_some a.frame ls (resolved_number z span) _ (keeps_into a false span _ p)
    expression_keeps (resolved_text z span) p made = keeps_some a.frame ls (resolved_text z span) _ (keeps_into a false span _ p)
    expression_keeps (resolved_bool z span) p made = keeps_some a.frame ls (resolved_bool z span) _ (keeps_into a false span _ p)
    expression_keeps (resolved_seen seen span) p made = keeps_some a.frame ls (resolved_seen seen span) (seen_code a seen.of span p) (seen_keeps seen.of span p made)
    expression_keeps (resolved_unary o sign e span) p made =
        keeps_some a.frame ls (resolved_unary o sign e span) _
        (keeps_bind (λ x. ⊤) (λ x. ⊤) (expression_code a e p >>= valued) _
        (keeps_valued a.frame ls e (expression_code a e p) (some_and (kind_of_expression a.frame ls e) _ made.1) (expression_keeps e p made.0))
        (λ x t. keeps_into a false span (λ k. op_form k (Unary o) x.1 x.1 sign.line) x.0))
    expression_keeps (resolved_binary o sign left right span) p made =
        let kinds = operands_kinded a.frame ls o left right made.2 in
        keeps_bind (λ x. ⊤) (HasOne a.frame ls (resolved_binary o sign left right span)) (expression_code a left p >>= valued) _
        (keeps_valued a.frame ls left (expression_code a left p) kinds.0 (expression_keeps left p made.0))
        (λ x t. keeps_bind (λ x. ⊤) (HasOne a.frame ls (resolved_binary o sign left right span)) (expression_code a right x.0 >>= valued) _
        (keeps_valued a.frame ls right (expression_code a right x.0) kinds.1 (expression_keeps right x.0 made.1))
        (λ y t. keeps_some a.frame ls (resolved_binary o sign left right span) _ (keeps_into a false span (λ k. op_form k (Binary o) x.1 y.1 sign.line) y.0)))
    expression_keeps (resolved_logical o sign left right span) p made =
        keeps_bind (λ x. ⊤) (HasOne a.frame ls (resolved_logical o sign left right span)) (expression_code a left p >>= valued) _
        (keeps_valued a.frame ls left (expression_code a left p) (some_and (kind_of_expression a.frame ls left) _ made.2) (expression_keeps left p made.0))
        (λ x t. keeps_bind (λ x. ⊤) (HasOne a.frame ls (resolved_logical o sign left right span)) (expression_code a right (branching x.0) >>= valued) _
        (keeps_valued a.frame ls right (expression_code a right (branching x.0)) (some_and (kind_of_expression a.frame ls right) _ made.3) (expression_keeps right (branching x.0) made.1))
        (λ y t is. refl))
    expression_keeps (resolved_call receiver contract tx name args span) p made =
        let s = passed (signature_of a.frame.table contract tx) (λ s. IsCalled a.frame ls receiver contract s) args made.2 in
        keeps_bind (λ r. ⊤) (HasOne a.frame ls (resolved_call receiver contract tx name args span)) (receiver_code a receiver) _ (receiver_keeps receiver contract s.0 s.1)
        (λ r t. keeps_bind (λ x. ⊤) (HasOne a.frame ls (resolved_call receiver contract tx name args span)) (arguments_code a args [] p) _
        (arguments_keep args s.0.params [] p made.0 s.2)
        (λ x t. called_keeps r contract tx span (kind_of_result a contract tx) x))
    expression_keeps (resolved_new contract args span) p made =
        let s = built (constructor_at a.frame.table contract) args made.1 in
        keeps_some a.frame ls (resolved_new contract args span) _
        (keeps_bind (λ x. ⊤) (λ x. ⊤) (arguments_code a args [] p) _ (arguments_keep args s.0.params [] p made.0 s.1)
        (λ x t. keeps_into a true span (λ k. new_form k contract x.1) x.0))

    arguments_keep : (es : Arguments) (ps : List Param) (before : List Operand) (p : Progress) → AreWellFormedArguments a.frame ls es → PassTo a.frame ls ps es
        → Keeps (λ x. ⊤) (arguments_code a es before p)
    arguments_keep no_arguments ps before p made pass = tt
    arguments_keep (and_argument e es) [] before p made pass = absurd pass
    arguments_keep (and_argument e es) (q ∷ ps) before p made pass =
        keeps_bind (λ x. ⊤) (λ x. ⊤) (expression_code a e p >>= valued) _
        (keeps_valued a.frame ls e (expression_code a e p) (some_and (kind_of_expression a.frame ls e) _ pass.0) (expression_keeps e p made.0))
        (λ x t. arguments_keep es ps (before ++ x.1 ∷ []) x.0 made.1 pass.1)

  -- an expression that has a value
  pub value_keeps : (e : Expression) (p : Progress) → IsWellFormedExpression a.frame ls e → IsSome (kind_of_expression a.frame ls e) → Keeps (λ x. ⊤) (value_code a e p)
  value_keeps e p made is = keeps_valued a.frame ls e (expression_code a e p) is (expression_keeps e p made)

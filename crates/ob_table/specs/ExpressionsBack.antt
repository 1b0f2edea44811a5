-- The expressions of a body that plain data represents.
use Rattle.std.specs.Prelude.{◌≡◌, List, [], ◌∷◌}
use Rattle.std.proofs.Common.{ap, ◌∙◌, refl}
use Rattle.ob_table.specs.Expressions.{Expression, resolved_number, resolved_text, resolved_bool, resolved_seen, resolved_unary, resolved_binary, resolved_logical, resolved_call, resolved_new, Arguments, no_arguments, and_argument}
use Rattle.ob_table.specs.ExpressionsView.{expression_of, arguments_of, expression_of-Number, expression_of-Text, expression_of-Bool, expression_of-Seen, expression_of-Unary, expression_of-Binary, expression_of-Logical, expression_of-Call, expression_of-New, called-fields}
use Rattle.ob_table.specs.declared.expr.ResolvedCall.{ResolvedCall}
use Rattle.ob_table.specs.declared.expr.ResolvedExpr.{ResolvedExpr, Number, Text, Bool, Seen, Unary, Binary, Logical, Call, New}

abbrev mutual
  -- an expression
  pub expression_back : Expression → ResolvedExpr
  expression_back (resolved_number value span) = Number value span
  expression_back (resolved_text value span) = Text value span
  expression_back (resolved_bool value span) = Bool value span
  expression_back (resolved_seen seen span) = Seen seen span
  expression_back (resolved_unary operator sign operand span) = Unary operator sign (expression_back operand) span
  expression_back (resolved_binary operator sign left right span) = Binary operator sign (expression_back left) (expression_back right) span
  expression_back (resolved_logical operator sign left right span) = Logical operator sign (expression_back left) (expression_back right) span
  expression_back (resolved_call receiver contract tx name args span) = Call (record { receiver = receiver; contract = contract; tx = tx; name = name; args = arguments_back args }) span
  expression_back (resolved_new contract args span) = New contract (arguments_back args) span

  -- arguments in their order
  pub arguments_back : Arguments → List ResolvedExpr
  arguments_back no_arguments = []
  arguments_back (and_argument e es) = expression_back e ∷ arguments_back es

-- there and back
mutual
  pub expression_of-back : (e : Expression) → expression_of (expression_back e) ≡ e
  expression_of-back (resolved_number value span) = expression_of-Number value span
  expression_of-back (resolved_text value span) = expression_of-Text value span
  expression_of-back (resolved_bool value span) = expression_of-Bool value span
  expression_of-back (resolved_seen seen span) = expression_of-Seen seen span
  expression_of-back (resolved_unary operator sign operand span) =
      expression_of-Unary operator sign (expression_back operand) span ∙ ap (λ e. resolved_unary operator sign e span) (expression_of-back operand)
  expression_of-back (resolved_binary operator sign left right span) =
      expression_of-Binary operator sign (expression_back left) (expression_back right) span
      ∙ ap (λ e. resolved_binary operator sign e (expression_of (expression_back right)) span) (expression_of-back left)
      ∙ ap (λ e. resolved_binary operator sign left e span) (expression_of-back right)
  expression_of-back (resolved_logical operator sign left right span) =
      expression_of-Logical operator sign (expression_back left) (expression_back right) span
      ∙ ap (λ e. resolved_logical operator sign e (expression_of (expression_back right)) span) (expression_of-back left)
      ∙ ap (λ e. resolved_logical operator sign left e span) (expression_of-back right)
  expression_of-back (resolved_call receiver contract tx name args span) =
      let call : ResolvedCall = record { receiver = receiver; contract = contract; tx = tx; name = name; args = arguments_back args } in
      expression_of-Call call span ∙ called-fields call span ∙ ap (λ es. resolved_call receiver contract tx name es span) (arguments_of-back args)
  expression_of-back (resolved_new contract args span) =
      expression_of-New contract (arguments_back args) span ∙ ap (λ es. resolved_new contract es span) (arguments_of-back args)

  pub arguments_of-back : (es : Arguments) → arguments_of (arguments_back es) ≡ es
  arguments_of-back no_arguments = refl
  arguments_of-back (and_argument e es) =
      ap (λ x. and_argument x (arguments_of (arguments_back es))) (expression_of-back e) ∙ ap (λ xs. and_argument e xs) (arguments_of-back es)

-- The sites of expressions (the Obsidian language documentation, "Expressions").
use Rattle.std.specs.Prelude.{ℕ, ◌+◌, List, [], ◌∷◌, ◌++◌, length, Option, Some, None, option_map}
use Rattle.std.specs.Option.{option_map_or}
use Rattle.ob_base.specs.declared.fault.Span.{Span}
use Rattle.ob_base.specs.declared.operator.Operator.{Operator}
use Rattle.ob_base.specs.declared.operator.Operator.TheVariants.{Equal, NotEqual, And, Or}
use Rattle.ob_tree.specs.Exprs.{Expr, number_expr, text_expr, bool_expr, name_expr, this_expr, unary_expr, binary_expr, call_expr, new_expr, Call, call_with, Exprs, no_exprs, and_expr, span_of_expr}
use Rattle.ob_tree.specs.Members.{Formal}
use Rattle.ob_tree.specs.declared.name.NamePart.{NamePart}
use Rattle.ob_tree.specs.declared.name.Subject.{Subject}
use Rattle.ob_tree.specs.declared.name.Subject.TheVariants.{This, Name as NameSubject}
use Rattle.ob_resolve_spec.specs.Declarations.{part_of_named, params_of}
use Rattle.ob_resolve_spec.specs.declared.kind.InferredKind.{InferredKind}
use Rattle.ob_resolve_spec.specs.declared.kind.InferredKind.TheVariants.{Int as an_int, Bool as a_bool}
use Rattle.ob_resolve_spec.specs.Kinds.{contract_of_kind, kinds_of_params}
use Rattle.ob_resolve_spec.specs.Visible.{a_variable, a_transaction, a_public_transaction, an_object, visible_after_dot}
use Rattle.ob_resolve_spec.specs.Scopes.{AroundBody, Scope, visible_at, kind_of_variable, called_transaction, constructed, kind_of_unary, kind_of}
use Rattle.ob_resolve_spec.specs.Sites.{Site, names_thing, has_kind, needs_reference, needs_plain_value, passes_arguments}

-- a value of this kind is needed of an expression
abbrev pub needs : AroundBody → Scope → InferredKind → Expr → Site
needs a s wanted e = has_kind a.program wanted (kind_of a s e) (span_of_expr e)

-- what is asked of the operands: `==` and `!=` compare two values of one kind, an int, a bool or a string
abbrev pub operand_sites : AroundBody → Scope → Operator → Expr → Expr → List Site
operand_sites a s And left right = needs a s a_bool left ∷ needs a s a_bool right ∷ []
operand_sites a s Or left right = needs a s a_bool left ∷ needs a s a_bool right ∷ []
operand_sites a s Equal left right =
    needs_plain_value (kind_of a s left) (span_of_expr left)
    ∷ needs_plain_value (kind_of a s right) (span_of_expr right) ∷ needs a s (kind_of a s left) right ∷ []
operand_sites a s NotEqual left right =
    needs_plain_value (kind_of a s left) (span_of_expr left)
    ∷ needs_plain_value (kind_of a s right) (span_of_expr right) ∷ needs a s (kind_of a s left) right ∷ []
operand_sites a s operator left right = needs a s an_int left ∷ needs a s an_int right ∷ []

-- a name that is used as a reference
abbrev pub reference_sites : AroundBody → Scope → NamePart → Span → List Site
reference_sites a s name span =
    names_thing a_variable (visible_at a s) name ∷ needs_reference (kind_of_variable a s name.name) span ∷ []

-- a receiver, and the transaction that is called
abbrev pub callee_sites : AroundBody → Scope → Option Subject → NamePart → List Site
callee_sites a s None name = names_thing a_transaction (visible_at a s) name ∷ []
callee_sites a s (Some (This span)) name = names_thing a_transaction (visible_at a s) name ∷ []
callee_sites a s (Some (NameSubject receiver)) name =
    reference_sites a s receiver receiver.span
    ++ option_map_or (λ c. names_thing a_public_transaction (visible_after_dot c) name ∷ [])
    (contract_of_kind a.program (kind_of_variable a s receiver.name)) []

-- how many arguments there are
abbrev pub count_args : Exprs → ℕ
count_args no_exprs = 0
count_args (and_expr e es) = count_args es + 1

-- the arguments at so many parameters of these kinds
abbrev pub needed_args : AroundBody → Scope → List InferredKind → Exprs → List Site
needed_args a s (kind ∷ kinds) (and_expr e es) = needs a s kind e ∷ needed_args a s kinds es
needed_args a s [] es = []
needed_args a s kinds no_exprs = []

-- the arguments at the parameters of what is called, which stands at this place; of an unknown one nothing is asked
abbrev pub passing_sites : AroundBody → Scope → Span → Option (List Formal) → Exprs → List Site
passing_sites a s span None args = []
passing_sites a s span (Some params) args =
    passes_arguments (count_args args) (length (params_of params)) span ∷ needed_args a s (kinds_of_params a.program params) args

abbrev mutual
  -- what is asked of an expression
  pub expr_sites : AroundBody → Scope → Expr → List Site
  expr_sites a s (number_expr value span) = []
  expr_sites a s (text_expr value span) = []
  expr_sites a s (bool_expr value span) = []
  expr_sites a s (name_expr name span) = names_thing a_variable (visible_at a s) name ∷ []
  expr_sites a s (this_expr token span) = []
  expr_sites a s (unary_expr operator sign operand span) =
      needs a s (kind_of_unary operator) operand ∷ expr_sites a s operand
  expr_sites a s (binary_expr operator sign left right span) =
      operand_sites a s operator left right ++ expr_sites a s left ++ expr_sites a s right
  expr_sites a s (call_expr call span) = call_sites a s call
  expr_sites a s (new_expr of args span) =
      names_thing an_object (visible_at a s) (part_of_named of)
      ∷ passing_sites a s (part_of_named of).span (option_map (λ m. m.params) (constructed a.program of)) args
      ++ args_sites a s args

  -- what is asked of a call
  pub call_sites : AroundBody → Scope → Call → List Site
  call_sites a s (call_with receiver name args) =
      callee_sites a s receiver name
      ++ passing_sites a s name.span (option_map (λ t. t.params) (called_transaction a s receiver name.name)) args
      ++ args_sites a s args

  -- what is asked of arguments, each by itself
  pub args_sites : AroundBody → Scope → Exprs → List Site
  args_sites a s no_exprs = []
  args_sites a s (and_expr e es) = expr_sites a s e ++ args_sites a s es

-- an expression where a value of this kind is needed
abbrev pub value_sites : AroundBody → Scope → InferredKind → Expr → List Site
value_sites a s wanted e = needs a s wanted e ∷ expr_sites a s e

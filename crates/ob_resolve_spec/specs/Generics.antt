-- Where a tree has type parameters and type arguments (the Obsidian language documentation, "Generics"). The definitions
-- here look at neither: they are for programs that have none.
use Rattle.std.specs.Prelude.{◌≡◌, List, [], ◌∷◌, ◌++◌, flat_map, None, All}
use Rattle.std.specs.Option.{option_map_or}
use Rattle.ob_tree.specs.Names.{Named, bare_name, name_with, Ref, ref_with, TypeExpr, int_type, bool_type, text_type, ref_type}
use Rattle.ob_tree.specs.Exprs.{Expr, number_expr, text_expr, bool_expr, name_expr, this_expr, unary_expr, binary_expr, call_expr, new_expr, Call, call_with, Exprs, no_exprs, and_expr}
use Rattle.ob_tree.specs.Stmts.{Local, int_local, bool_local, text_local, named_local, Stmt, declare_stmt, assign_stmt, stage_stmt, change_stmt, call_stmt, test_stmt, if_stmt, while_stmt, return_stmt, revert_stmt, disown_stmt, assert_stmt, Block, block_with, Else, no_else, else_with, Stmts, no_stmts, and_stmt}
use Rattle.ob_tree.specs.Members.{Member, state_member, field_member, constructor_member, transaction_member, Contract}
use Rattle.ob_resolve_spec.specs.Declarations.{Program}

-- the argument after a name
abbrev pub argument_of : Named → List Ref
argument_of (bare_name name span) = []
argument_of (name_with name argument span) = argument ∷ []

-- the argument in a reference's type
abbrev pub argument_in_ref : Ref → List Ref
argument_in_ref (ref_with of perm) = argument_of of

-- the argument in a type
abbrev pub argument_in_type : TypeExpr → List Ref
argument_in_type (int_type span) = []
argument_in_type (bool_type span) = []
argument_in_type (text_type span) = []
argument_in_type (ref_type of) = argument_in_ref of

-- the argument in a local variable's type
abbrev pub argument_in_local : Local → List Ref
argument_in_local (int_local span) = []
argument_in_local (bool_local span) = []
argument_in_local (text_local span) = []
argument_in_local (named_local of) = argument_of of

abbrev mutual
  -- the type arguments in an expression
  pub arguments_in_expr : Expr → List Ref
  arguments_in_expr (number_expr value span) = []
  arguments_in_expr (text_expr value span) = []
  arguments_in_expr (bool_expr value span) = []
  arguments_in_expr (name_expr name span) = []
  arguments_in_expr (this_expr token span) = []
  arguments_in_expr (unary_expr operator sign operand span) = arguments_in_expr operand
  arguments_in_expr (binary_expr operator sign left right span) = arguments_in_expr left ++ arguments_in_expr right
  arguments_in_expr (call_expr call span) = arguments_in_call call
  arguments_in_expr (new_expr of args span) = argument_of of ++ arguments_in_exprs args

  -- the type arguments in a call
  pub arguments_in_call : Call → List Ref
  arguments_in_call (call_with receiver name args) = arguments_in_exprs args

  -- the type arguments in expressions one after another
  pub arguments_in_exprs : Exprs → List Ref
  arguments_in_exprs no_exprs = []
  arguments_in_exprs (and_expr e es) = arguments_in_expr e ++ arguments_in_exprs es

abbrev mutual
  -- the type arguments in a statement
  pub arguments_in_stmt : Stmt → List Ref
  arguments_in_stmt (declare_stmt of name value span) = argument_in_local of ++ arguments_in_expr value
  arguments_in_stmt (assign_stmt name value span) = arguments_in_expr value
  arguments_in_stmt (stage_stmt state field value span) = arguments_in_expr value
  arguments_in_stmt (change_stmt state given span) = flat_map (λ g. arguments_in_expr g.value) given
  arguments_in_stmt (call_stmt value span) = arguments_in_expr value
  arguments_in_stmt (test_stmt subject state branch otherwise span) =
      arguments_in_block branch ++ arguments_in_else otherwise
  arguments_in_stmt (if_stmt condition branch otherwise span) =
      arguments_in_expr condition ++ arguments_in_block branch ++ arguments_in_else otherwise
  arguments_in_stmt (while_stmt condition body span) = arguments_in_expr condition ++ arguments_in_block body
  arguments_in_stmt (return_stmt value span) = option_map_or arguments_in_expr value []
  arguments_in_stmt (revert_stmt text span) = option_map_or arguments_in_expr text []
  arguments_in_stmt (disown_stmt name span) = []
  arguments_in_stmt (assert_stmt subject perm span) = []

  -- the type arguments in a block
  pub arguments_in_block : Block → List Ref
  arguments_in_block (block_with statements end) = arguments_in_stmts statements

  -- the type arguments in what is after `else`
  pub arguments_in_else : Else → List Ref
  arguments_in_else no_else = []
  arguments_in_else (else_with block) = arguments_in_block block

  -- the type arguments in statements one after another
  pub arguments_in_stmts : Stmts → List Ref
  arguments_in_stmts no_stmts = []
  arguments_in_stmts (and_stmt x xs) = arguments_in_stmt x ++ arguments_in_stmts xs

-- the arguments in a member
abbrev pub arguments_in_member : Member → List Ref
arguments_in_member (state_member name fields span) = flat_map (λ f. argument_in_type f.of) fields
arguments_in_member (field_member field) = argument_in_type field.of
arguments_in_member (constructor_member of perm params body span) =
    argument_of of ++ flat_map (λ p. argument_in_type p.of) params ++ arguments_in_block body
arguments_in_member (transaction_member private listed name params result body span) =
    flat_map (λ l. argument_in_ref l.of) listed ++ flat_map (λ p. argument_in_type p.of) params
    ++ option_map_or argument_in_type result [] ++ option_map_or arguments_in_block body []

-- the arguments in a contract
abbrev pub arguments_in_contract : Contract → List Ref
arguments_in_contract c = option_map_or argument_of c.implements [] ++ flat_map arguments_in_member c.members

-- no contract has a type parameter, and no type an argument
pub record HasNoGenerics (program : Program) : Type 0 where
  pub no_parameter : All (λ c. c.param ≡ None) program
  pub no_argument : flat_map arguments_in_contract program ≡ []

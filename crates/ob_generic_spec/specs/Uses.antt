-- The types of a contract with the places where they stand, in the order of the text (this project's own).
use Rattle.std.specs.Prelude.{List, [], ◌∷◌, ◌++◌, flat_map}
use Rattle.std.specs.Option.{option_map_or}
use Rattle.ob_tree.specs.Names.{Named, bare_name, name_with, Ref, ref_with, TypeExpr, int_type, bool_type, text_type, ref_type}
use Rattle.ob_tree.specs.Exprs.{Expr, number_expr, text_expr, bool_expr, name_expr, this_expr, unary_expr, binary_expr, call_expr, new_expr, Call, call_with, Exprs, no_exprs, and_expr}
use Rattle.ob_tree.specs.Stmts.{Local, int_local, bool_local, text_local, named_local, GivenExpr, Stmt, declare_stmt, assign_stmt, stage_stmt, change_stmt, call_stmt, test_stmt, if_stmt, while_stmt, return_stmt, revert_stmt, disown_stmt, assert_stmt, Block, block_with, Else, no_else, else_with, Stmts, no_stmts, and_stmt}
use Rattle.ob_tree.specs.Members.{Field, Formal, Listed, Member, state_member, field_member, constructor_member, transaction_member, Contract}
use Rattle.ob_tree.specs.declared.name.Subject.{Subject}
use Rattle.ob_tree.specs.declared.name.Subject.TheVariants.{This, Name as NameSubject}
use Rattle.ob_generic_spec.specs.declared.role.Role.{Role}
use Rattle.ob_generic_spec.specs.declared.role.Role.TheVariants.{Anywhere, OfOwn, InArgument}

-- a type, and where it stands
pub data Use : Type 0 where
  used : Role → Named → Use

-- Types.

-- the type of a reference
abbrev pub types_in_ref : Role → Ref → List Use
types_in_ref role (ref_with of perm) = used role of ∷ []

-- a type
abbrev pub types_in_type : Role → TypeExpr → List Use
types_in_type role (int_type span) = []
types_in_type role (bool_type span) = []
types_in_type role (text_type span) = []
types_in_type role (ref_type of) = types_in_ref role of

-- the type of a local variable
abbrev pub types_in_local : Local → List Use
types_in_local (int_local span) = []
types_in_local (bool_local span) = []
types_in_local (text_local span) = []
types_in_local (named_local of) = used Anywhere of ∷ []

-- Expressions and statements.

abbrev mutual
  -- the types in an expression
  pub types_in_expr : Expr → List Use
  types_in_expr (number_expr value span) = []
  types_in_expr (text_expr value span) = []
  types_in_expr (bool_expr value span) = []
  types_in_expr (name_expr name span) = []
  types_in_expr (this_expr token span) = []
  types_in_expr (unary_expr operator sign operand span) = types_in_expr operand
  types_in_expr (binary_expr operator sign left right span) = types_in_expr left ++ types_in_expr right
  types_in_expr (call_expr call span) = types_in_call call
  types_in_expr (new_expr of args span) = used Anywhere of ∷ types_in_exprs args

  -- the types in a call
  pub types_in_call : Call → List Use
  types_in_call (call_with receiver name args) = types_in_exprs args

  -- the types in expressions one after another
  pub types_in_exprs : Exprs → List Use
  types_in_exprs no_exprs = []
  types_in_exprs (and_expr e es) = types_in_expr e ++ types_in_exprs es

-- the types in the value of a given field
abbrev pub types_in_given : GivenExpr → List Use
types_in_given given = types_in_expr given.value

abbrev mutual
  -- the types in a statement
  pub types_in_stmt : Stmt → List Use
  types_in_stmt (declare_stmt of name value span) = types_in_local of ++ types_in_expr value
  types_in_stmt (assign_stmt name value span) = types_in_expr value
  types_in_stmt (stage_stmt state field value span) = types_in_expr value
  types_in_stmt (change_stmt state given span) = flat_map types_in_given given
  types_in_stmt (call_stmt value span) = types_in_expr value
  types_in_stmt (test_stmt subject state branch otherwise span) = types_in_block branch ++ types_in_else otherwise
  types_in_stmt (if_stmt condition branch otherwise span) =
      types_in_expr condition ++ types_in_block branch ++ types_in_else otherwise
  types_in_stmt (while_stmt condition body span) = types_in_expr condition ++ types_in_block body
  types_in_stmt (return_stmt value span) = option_map_or types_in_expr value []
  types_in_stmt (revert_stmt text span) = option_map_or types_in_expr text []
  types_in_stmt (disown_stmt name span) = []
  types_in_stmt (assert_stmt subject perm span) = []

  -- the types in a block
  pub types_in_block : Block → List Use
  types_in_block (block_with statements end) = types_in_stmts statements

  -- the types in what is after `else`
  pub types_in_else : Else → List Use
  types_in_else no_else = []
  types_in_else (else_with block) = types_in_block block

  -- the types in statements one after another
  pub types_in_stmts : Stmts → List Use
  types_in_stmts no_stmts = []
  types_in_stmts (and_stmt x xs) = types_in_stmt x ++ types_in_stmts xs

-- Members.

-- the type of a field
abbrev pub types_in_field : Field → List Use
types_in_field field = types_in_type Anywhere field.of

-- where the type of a parameter stands
abbrev pub role_of_param : Subject → Role
role_of_param (This span) = OfOwn
role_of_param (NameSubject name) = Anywhere

-- the type of a parameter
abbrev pub types_in_formal : Formal → List Use
types_in_formal formal = types_in_type (role_of_param formal.name) formal.of

-- the type of a listed field
abbrev pub types_in_listed : Listed → List Use
types_in_listed listed = types_in_ref Anywhere listed.of

-- the types in a member
abbrev pub types_in_member : Member → List Use
types_in_member (state_member name fields span) = flat_map types_in_field fields
types_in_member (field_member field) = types_in_field field
types_in_member (constructor_member of perm params body span) =
    used OfOwn of ∷ flat_map types_in_formal params ++ types_in_block body
types_in_member (transaction_member private listed name params result body span) =
    flat_map types_in_listed listed ++ flat_map types_in_formal params
    ++ option_map_or (types_in_type Anywhere) result [] ++ option_map_or types_in_block body []

-- the types in a contract or an interface
abbrev pub types_in_contract : Contract → List Use
types_in_contract c = option_map_or (λ of. used Anywhere of ∷ []) c.implements [] ++ flat_map types_in_member c.members

-- Arguments.

abbrev mutual
  -- a type at such a place, and then those in its argument
  pub uses_in_named : Role → Named → List Use
  uses_in_named role (bare_name name span) = used role (bare_name name span) ∷ []
  uses_in_named role (name_with name argument span) =
      used role (name_with name argument span) ∷ uses_in_argument argument

  -- the types in an argument
  pub uses_in_argument : Ref → List Use
  uses_in_argument (ref_with of perm) = uses_in_named InArgument of

-- a type, and then those in its argument
abbrev pub uses_of : Use → List Use
uses_of (used role of) = uses_in_named role of

-- the types in a contract or an interface, and those in their arguments: a type comes before its argument
abbrev pub uses_in_contract : Contract → List Use
uses_in_contract c = flat_map uses_of (types_in_contract c)

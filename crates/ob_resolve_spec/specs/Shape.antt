-- What each tree of a text, or of its instances, is like, and its plain data doesn't say: names are names, but a contract's, which
-- may be printed, is a text; a number is one of 64 bits and a
-- string is a text of at most 1,024 bytes, an operator has as many operands as it needs, and an interface has states
-- and heads alone (the Obsidian language documentation, "Interfaces").
use Rattle.std.specs.Prelude.{◌≡◌, Bool, true, false, List, [], ◌∷◌, Option, Some, None, IsTrue, IsSome, IfSome, All, ⊤}
use Rattle.ob_base.specs.Names.{is_name, is_text}
use Rattle.ob_base.specs.Numbers.{is_int}
use Rattle.ob_tree.specs.Members.{Listed, Member, state_member, field_member, constructor_member, transaction_member, Contract}
use Rattle.ob_tree.specs.Exprs.{Expr, number_expr, text_expr, bool_expr, name_expr, this_expr, unary_expr, binary_expr, call_expr, new_expr, Call, call_with, Exprs, no_exprs, and_expr}
use Rattle.ob_tree.specs.Stmts.{GivenExpr, Stmt, declare_stmt, assign_stmt, stage_stmt, change_stmt, call_stmt, test_stmt, if_stmt, while_stmt, return_stmt, revert_stmt, disown_stmt, assert_stmt, Block, block_with, Else, no_else, else_with, Stmts, no_stmts, and_stmt}
use Rattle.ob_tree.specs.declared.name.NamePart.{NamePart}
use Rattle.ob_resolve_spec.specs.Declarations.{Program}
use Rattle.ob_resolve_spec.specs.Operators.{has_one_operand}

-- Expressions and statements.

abbrev mutual
  -- the numbers and strings of an expression are in range, and each operator has as many operands as it needs
  pub HasExprShape : Expr → Type 0
  HasExprShape (number_expr value span) = IsTrue (is_int value)
  HasExprShape (text_expr value span) = IsTrue (is_text value)
  HasExprShape (bool_expr value span) = ⊤
  HasExprShape (name_expr name span) = ⊤
  HasExprShape (this_expr token span) = ⊤
  HasExprShape (unary_expr operator sign operand span) = HasExprShape operand × (has_one_operand operator ≡ true)
  HasExprShape (binary_expr operator sign left right span) =
      HasExprShape left × HasExprShape right × (has_one_operand operator ≡ false)
  HasExprShape (call_expr call span) = HasCallShape call
  HasExprShape (new_expr of args span) = HaveExprShapes args

  -- the same of a call
  pub HasCallShape : Call → Type 0
  HasCallShape (call_with receiver name args) = HaveExprShapes args

  -- the same of arguments
  pub HaveExprShapes : Exprs → Type 0
  HaveExprShapes no_exprs = ⊤
  HaveExprShapes (and_expr e es) = HasExprShape e × HaveExprShapes es

-- the same of given fields
abbrev pub HaveGivenShapes : List GivenExpr → Type 0
HaveGivenShapes [] = ⊤
HaveGivenShapes (g ∷ gs) = HasExprShape g.value × HaveGivenShapes gs

-- the same of an expression, if there is one
abbrev pub HasShapeIf : Option Expr → Type 0
HasShapeIf None = ⊤
HasShapeIf (Some e) = HasExprShape e

abbrev mutual
  -- the same of a statement
  pub HasStmtShape : Stmt → Type 0
  HasStmtShape (declare_stmt of name value span) = HasExprShape value
  HasStmtShape (assign_stmt name value span) = HasExprShape value
  HasStmtShape (stage_stmt state field value span) = HasExprShape value
  HasStmtShape (change_stmt state given span) = HaveGivenShapes given
  HasStmtShape (call_stmt value span) = HasExprShape value
  HasStmtShape (test_stmt subject state branch otherwise span) = HasBlockShape branch × HasElseShape otherwise
  HasStmtShape (if_stmt condition branch otherwise span) =
      HasExprShape condition × HasBlockShape branch × HasElseShape otherwise
  HasStmtShape (while_stmt condition body span) = HasExprShape condition × HasBlockShape body
  HasStmtShape (return_stmt value span) = HasShapeIf value
  HasStmtShape (revert_stmt text span) = HasShapeIf text
  HasStmtShape (disown_stmt name span) = ⊤
  HasStmtShape (assert_stmt subject perm span) = ⊤

  -- the same of a block
  pub HasBlockShape : Block → Type 0
  HasBlockShape (block_with statements end) = HaveStmtShapes statements

  -- the same of the block after `else`
  pub HasElseShape : Else → Type 0
  HasElseShape no_else = ⊤
  HasElseShape (else_with block) = HasBlockShape block

  -- the same of statements
  pub HaveStmtShapes : Stmts → Type 0
  HaveStmtShapes no_stmts = ⊤
  HaveStmtShapes (and_stmt x xs) = HasStmtShape x × HaveStmtShapes xs

-- Members.

-- of a contract or an interface: a transaction lists fields only if it is private, which an interface's isn't, and an
-- interface's alone has no body
pub record HasTransactionShape (interface private : Bool) (listed : List Listed) (name : NamePart) (body : Option Block)
    : Type 0 where
  pub name_form : IsTrue (is_name name.name)
  pub lists : private ≡ false → listed ≡ []
  pub head : interface ≡ true → (private ≡ false) × (body ≡ None)
  pub whole : interface ≡ false → IsSome body
  pub operators : IfSome body HasBlockShape

-- a member of a contract or an interface: an interface has no constructor and no field
abbrev pub HasMemberShape : Bool → Member → Type 0
HasMemberShape interface (state_member name fields span) =
    IsTrue (is_name name.name) × All (λ f. IsTrue (is_name f.name.name)) fields × (interface ≡ true → fields ≡ [])
HasMemberShape interface (field_member field) = IsTrue (is_name field.name.name) × (interface ≡ false)
HasMemberShape interface (constructor_member of perm params body span) = (interface ≡ false) × HasBlockShape body
HasMemberShape interface (transaction_member private listed name params result body span) =
    HasTransactionShape interface private listed name body

-- a contract or an interface: an interface isn't main and implements none
pub record HasContractShape (c : Contract) : Type 0 where
  pub name_form : IsTrue (is_text c.name)
  pub members : All (HasMemberShape c.interface) c.members
  pub interface : c.interface ≡ true → (c.main ≡ false) × (c.implements ≡ None)

-- each contract and interface of a program
abbrev pub HasShape : Program → Type 0
HasShape program = All HasContractShape program

-- Statements as plain data, with each part and place of the tree, in its order (the Obsidian language documentation,
-- "Statements").
use Rattle.std.specs.Prelude.{Option, List, [], ◌∷◌}
use Rattle.ob_base.specs.declared.fault.Span.{Span}
use Rattle.ob_tree.specs.Names.{Named}
use Rattle.ob_tree.specs.Exprs.{Expr}
use Rattle.ob_tree.specs.declared.name.NamePart.{NamePart}
use Rattle.ob_tree.specs.declared.name.PermNode.{PermNode}
use Rattle.ob_tree.specs.declared.name.Subject.{Subject}

-- the type of a local variable
pub data Local : Type 0 where
  int_local : Span → Local
  bool_local : Span → Local
  text_local : Span → Local
  named_local : Named → Local

-- a field and the value that it is given
pub record GivenExpr : Type 0 where
  pub field : NamePart
  pub value : Expr

mutual
  -- a statement; the last place is that of the whole
  pub data Stmt : Type 0 where
    declare_stmt : Local → NamePart → Expr → Span → Stmt
    assign_stmt : NamePart → Expr → Span → Stmt
    stage_stmt : NamePart → NamePart → Expr → Span → Stmt
    change_stmt : NamePart → List GivenExpr → Span → Stmt
    call_stmt : Expr → Span → Stmt
    test_stmt : Subject → NamePart → Block → Else → Span → Stmt
    if_stmt : Expr → Block → Else → Span → Stmt
    while_stmt : Expr → Block → Span → Stmt
    return_stmt : Option Expr → Span → Stmt
    revert_stmt : Option Expr → Span → Stmt
    disown_stmt : NamePart → Span → Stmt
    assert_stmt : Subject → PermNode → Span → Stmt

  -- statements, and the place of the closing brace
  pub data Block : Type 0 where
    block_with : Stmts → Span → Block

  -- the block after `else`, if there is one
  pub data Else : Type 0 where
    no_else : Else
    else_with : Block → Else

  -- statements in their order
  pub data Stmts : Type 0 where
    no_stmts : Stmts
    and_stmt : Stmt → Stmts → Stmts

-- the statements of a list
abbrev pub stmts : List Stmt → Stmts
stmts [] = no_stmts
stmts (s ∷ ss) = and_stmt s (stmts ss)

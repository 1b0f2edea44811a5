-- Whether the end of a block is reached (Coblenz et al., TOPLAS 42(3), 2020; the rule is this project's own).
use Rattle.std.specs.Prelude.{Bool, true, false, ◌&&◌, ◌||◌}
use Rattle.ob_tree.specs.Stmts.{Stmt, declare_stmt, assign_stmt, stage_stmt, change_stmt, call_stmt, test_stmt, if_stmt, while_stmt, return_stmt, revert_stmt, disown_stmt, assert_stmt, Block, block_with, Else, no_else, else_with, Stmts, no_stmts, and_stmt}

abbrev mutual
  -- whether nothing is reached after a statement: a return, a revert, or an `if` whose two branches end so; what follows a
  -- `while` is reached, whatever its condition and its block
  pub ends : Stmt → Bool
  ends (return_stmt value span) = true
  ends (revert_stmt text span) = true
  ends (test_stmt subject state branch otherwise span) = block_ends branch && else_ends otherwise
  ends (if_stmt condition branch otherwise span) = block_ends branch && else_ends otherwise
  ends (while_stmt condition body span) = false
  ends (declare_stmt of name value span) = false
  ends (assign_stmt name value span) = false
  ends (stage_stmt state field value span) = false
  ends (change_stmt state given span) = false
  ends (call_stmt value span) = false
  ends (disown_stmt name span) = false
  ends (assert_stmt subject perm span) = false

  -- whether the end of a block isn't reached
  pub block_ends : Block → Bool
  block_ends (block_with statements end) = one_ends statements

  -- without `else` the end is reached
  pub else_ends : Else → Bool
  else_ends no_else = false
  else_ends (else_with block) = block_ends block

  -- whether one of the statements ends so
  pub one_ends : Stmts → Bool
  one_ends no_stmts = false
  one_ends (and_stmt x xs) = ends x || one_ends xs

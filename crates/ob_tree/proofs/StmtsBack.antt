-- From plain data back to the statements of a tree.
use Rattle.std.proofs.Common.{◌≡◌, List, [], ◌∷◌, Option, Some, None, map, option_map, ap, sym, ◌∙◌, refl, subst}
use Rattle.ob_tree.specs.Stmts.{Local, int_local, bool_local, text_local, named_local, GivenExpr, Stmt, declare_stmt, assign_stmt, stage_stmt, change_stmt, call_stmt, test_stmt, if_stmt, while_stmt, return_stmt, revert_stmt, disown_stmt, assert_stmt, Block, block_with, Else, no_else, else_with, Stmts, no_stmts, and_stmt}
use Rattle.ob_tree.specs.StmtsView.{local_of, given_of, stmt_of, block_of, stmts_of, stmt_of-Declare, stmt_of-Assign, stmt_of-Stage, stmt_of-Change, stmt_of-Call, stmt_of-Test, stmt_of-If, stmt_of-While, stmt_of-Return, stmt_of-Revert, stmt_of-Disown, stmt_of-Assert, block_of-fields}
use Rattle.ob_tree.specs.ExprsView.{expr_of}
use Rattle.ob_tree.proofs.BackLemmas.{map_back, option_back}
use Rattle.ob_tree.proofs.NamesBack.{named_back, named_back-of}
use Rattle.ob_tree.proofs.ExprsBack.{expr_back, expr_back-of}
use Rattle.ob_tree.specs.declared.stmt.GivenNode.{GivenNode}
use Rattle.ob_tree.specs.declared.stmt.LocalType.{LocalType}
use Rattle.ob_tree.specs.declared.stmt.LocalType.TheVariants as local
use Rattle.ob_tree.specs.declared.stmt.Block.{Block as BlockNode, Block-F, map-Block, roll-Block}
use Rattle.ob_tree.specs.declared.stmt.Stmt as made
use Rattle.ob_tree.specs.declared.stmt.Stmt.TheOpen as open'
use Rattle.ob_tree.specs.declared.stmt.Stmt.TheVariants.{rolls-Declare, rolls-Assign, rolls-Stage, rolls-Change, rolls-Call, rolls-Test, rolls-If, rolls-While, rolls-Return, rolls-Revert, rolls-Disown, rolls-Assert}

abbrev pub local_back : Local → LocalType
local_back (int_local span) = local.Int span
local_back (bool_local span) = local.Bool span
local_back (text_local span) = local.Text span
local_back (named_local of) = local.Named (named_back of)

pub local_back-of : (node : LocalType) → local_back (local_of node) ≡ node
local_back-of (local.Int span) = refl
local_back-of (local.Bool span) = refl
local_back-of (local.Text span) = refl
local_back-of (local.Named of) = ap local.Named (named_back-of of)

abbrev pub given_back : GivenExpr → GivenNode
given_back given = record { field = given.field; value = expr_back given.value }

given_back-of : (node : GivenNode) → given_back (given_of node) ≡ node
given_back-of node = ap (λ value. record { field = node.field; value = value }) (expr_back-of node.value)

abbrev mutual
  pub stmt_back : Stmt → made.Stmt
  stmt_back (declare_stmt of name value span) = made.Declare (local_back of) name (expr_back value) span
  stmt_back (assign_stmt name value span) = made.Assign name (expr_back value) span
  stmt_back (stage_stmt state field value span) = made.Stage state field (expr_back value) span
  stmt_back (change_stmt state given span) = made.Change state (map given_back given) span
  stmt_back (call_stmt value span) = made.Call (expr_back value) span
  stmt_back (test_stmt subject state then otherwise span) = made.Test subject state (block_back then) (else_back otherwise) span
  stmt_back (if_stmt condition then otherwise span) = made.If (expr_back condition) (block_back then) (else_back otherwise) span
  stmt_back (while_stmt condition body span) = made.While (expr_back condition) (block_back body) span
  stmt_back (return_stmt value span) = made.Return (option_map expr_back value) span
  stmt_back (revert_stmt text span) = made.Revert (option_map expr_back text) span
  stmt_back (disown_stmt name span) = made.Disown name span
  stmt_back (assert_stmt subject perm span) = made.Assert subject perm span

  pub block_back : Block → BlockNode
  block_back (block_with statements end) = record { statements = stmts_back statements; end = end }

  pub else_back : Else → Option BlockNode
  else_back no_else = None
  else_back (else_with block) = Some (block_back block)

  pub stmts_back : Stmts → List made.Stmt
  stmts_back no_stmts = []
  stmts_back (and_stmt s ss) = stmt_back s ∷ stmts_back ss

abbrev IsStmtBack : made.Stmt → Type 0
IsStmtBack node = stmt_back (stmt_of node) ≡ node

abbrev IsBlockBack : BlockNode → Type 0
IsBlockBack node = block_back (block_of node) ≡ node

all_back : {A : Type 0} (f : A → made.Stmt) → ((a : A) → IsStmtBack (f a)) → (nodes : List A) → stmts_back (stmts_of (map f nodes)) ≡ map f nodes
all_back f back [] = refl
all_back f back (a ∷ nodes) = ap (λ s. s ∷ stmts_back (stmts_of (map f nodes))) (back a) ∙ ap (λ ss. f a ∷ ss) (all_back f back nodes)

stmt_step : {A B : Type 0} (node : made.Stmt-F A B) (f : A → made.Stmt) (g : B → BlockNode) → ((b : B) → IsBlockBack (g b)) → IsStmtBack (made.roll-Stmt (made.map-Stmt A B made.Stmt BlockNode f g node))
stmt_step (open'.Declare of name value span) f g blocks =
    subst IsStmtBack (sym (rolls-Declare of name value span))
    (ap stmt_back (stmt_of-Declare of name value span) ∙ ap (λ o. made.Declare o name (expr_back (expr_of value)) span) (local_back-of of) ∙ ap (λ e. made.Declare of name e span) (expr_back-of value))
stmt_step (open'.Assign name value span) f g blocks =
    subst IsStmtBack (sym (rolls-Assign name value span)) (ap stmt_back (stmt_of-Assign name value span) ∙ ap (λ e. made.Assign name e span) (expr_back-of value))
stmt_step (open'.Stage state field value span) f g blocks =
    subst IsStmtBack (sym (rolls-Stage state field value span)) (ap stmt_back (stmt_of-Stage state field value span) ∙ ap (λ e. made.Stage state field e span) (expr_back-of value))
stmt_step (open'.Change state given span) f g blocks =
    subst IsStmtBack (sym (rolls-Change state given span)) (ap stmt_back (stmt_of-Change state given span) ∙ ap (λ es. made.Change state es span) (map_back given_of given_back given_back-of given))
stmt_step (open'.Call value span) f g blocks =
    subst IsStmtBack (sym (rolls-Call value span)) (ap stmt_back (stmt_of-Call value span) ∙ ap (λ e. made.Call e span) (expr_back-of value))
stmt_step (open'.Test subject state then None span) f g blocks =
    subst IsStmtBack (sym (rolls-Test subject state (g then) None span))
    (ap stmt_back (stmt_of-Test subject state (g then) None span) ∙ ap (λ b. made.Test subject state b None span) (blocks then))
stmt_step (open'.Test subject state then (Some block) span) f g blocks =
    subst IsStmtBack (sym (rolls-Test subject state (g then) (Some (g block)) span))
    (ap stmt_back (stmt_of-Test subject state (g then) (Some (g block)) span) ∙ ap (λ b. made.Test subject state b (Some (block_back (block_of (g block)))) span) (blocks then) ∙ ap (λ b. made.Test subject state (g then) (Some b) span) (blocks block))
stmt_step (open'.If condition then None span) f g blocks =
    subst IsStmtBack (sym (rolls-If condition (g then) None span))
    (ap stmt_back (stmt_of-If condition (g then) None span) ∙ ap (λ e. made.If e (block_back (block_of (g then))) None span) (expr_back-of condition) ∙ ap (λ b. made.If condition b None span) (blocks then))
stmt_step (open'.If condition then (Some block) span) f g blocks =
    subst IsStmtBack (sym (rolls-If condition (g then) (Some (g block)) span))
    (ap stmt_back (stmt_of-If condition (g then) (Some (g block)) span) ∙ ap (λ e. made.If e (block_back (block_of (g then))) (Some (block_back (block_of (g block)))) span) (expr_back-of condition) ∙ ap (λ b. made.If condition b (Some (block_back (block_of (g block)))) span) (blocks then) ∙ ap (λ b. made.If condition (g then) (Some b) span) (blocks block))
stmt_step (open'.While condition body span) f g blocks =
    subst IsStmtBack (sym (rolls-While condition (g body) span))
    (ap stmt_back (stmt_of-While condition (g body) span) ∙ ap (λ e. made.While e (block_back (block_of (g body))) span) (expr_back-of condition) ∙ ap (λ b. made.While condition b span) (blocks body))
stmt_step (open'.Return value span) f g blocks =
    subst IsStmtBack (sym (rolls-Return value span)) (ap stmt_back (stmt_of-Return value span) ∙ ap (λ e. made.Return e span) (option_back expr_of expr_back expr_back-of value))
stmt_step (open'.Revert text span) f g blocks =
    subst IsStmtBack (sym (rolls-Revert text span)) (ap stmt_back (stmt_of-Revert text span) ∙ ap (λ e. made.Revert e span) (option_back expr_of expr_back expr_back-of text))
stmt_step (open'.Disown name span) f g blocks = subst IsStmtBack (sym (rolls-Disown name span)) (ap stmt_back (stmt_of-Disown name span))
stmt_step (open'.Assert subject perm span) f g blocks = subst IsStmtBack (sym (rolls-Assert subject perm span)) (ap stmt_back (stmt_of-Assert subject perm span))

block_step : {A B : Type 0} (node : Block-F A B) (f : A → made.Stmt) (g : B → BlockNode) → ((a : A) → IsStmtBack (f a)) → IsBlockBack (roll-Block (map-Block A B made.Stmt BlockNode f g node))
block_step node f g back =
    ap block_back (block_of-fields (record { statements = map f node.statements; end = node.end }))
    ∙ ap (λ statements. record { statements = statements; end = node.end }) (all_back f back node.statements)

pub stmt_back-of : (node : made.Stmt) → IsStmtBack node
stmt_back-of = made.ind-Stmt IsStmtBack IsBlockBack
    (λ x y is. subst (λ z. IsStmtBack (made.roll-Stmt z)) is (stmt_step y (λ e. e.0) (λ e. e.0) (λ e. e.1)))
    (λ x y is. subst (λ z. IsBlockBack (roll-Block z)) is (block_step y (λ e. e.0) (λ e. e.0) (λ e. e.1)))

pub stmts_back-of : (nodes : List made.Stmt) → stmts_back (stmts_of nodes) ≡ nodes
stmts_back-of [] = refl
stmts_back-of (s ∷ ss) = ap (λ x. x ∷ stmts_back (stmts_of ss)) (stmt_back-of s) ∙ ap (λ xs. s ∷ xs) (stmts_back-of ss)

pub block_back-of : (node : BlockNode) → IsBlockBack node
block_back-of node = ap block_back (block_of-fields node) ∙ ap (λ statements. record { statements = statements; end = node.end }) (stmts_back-of node.statements)

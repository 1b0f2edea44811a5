-- The statements of a tree, as plain data.
use Rattle.std.specs.Prelude.{◌≡◌, List, map, Option, Some, None, option_map}
use Rattle.std.proofs.Common.{ap, sym, ◌∙◌}
use Rattle.ob_base.specs.declared.fault.Span.{Span}
use Rattle.ob_tree.specs.Stmts.{Local, int_local, bool_local, text_local, named_local, GivenExpr, Stmt, declare_stmt, assign_stmt, stage_stmt, change_stmt, call_stmt, test_stmt, if_stmt, while_stmt, return_stmt, revert_stmt, disown_stmt, assert_stmt, Block, block_with, Else, no_else, else_with, Stmts, stmts}
use Rattle.ob_tree.specs.NamesView.{named_of}
use Rattle.ob_tree.specs.ExprsView.{expr_of}
use Rattle.ob_tree.specs.declared.name.NamePart.{NamePart}
use Rattle.ob_tree.specs.declared.name.PermNode.{PermNode}
use Rattle.ob_tree.specs.declared.name.Subject.{Subject}
use Rattle.ob_tree.specs.declared.expr.Expr.{Expr as ExprNode}
use Rattle.ob_tree.specs.declared.stmt.GivenNode.{GivenNode}
use Rattle.ob_tree.specs.declared.stmt.LocalType.{LocalType}
use Rattle.ob_tree.specs.declared.stmt.LocalType.TheVariants as local
use Rattle.ob_tree.specs.declared.stmt.Block.{Block as BlockNode, Block-F, fold-Block, fold_out-Block}
use Rattle.ob_tree.specs.declared.stmt.Stmt as made
use Rattle.ob_tree.specs.declared.stmt.Stmt.TheOpen as open'
use Rattle.ob_tree.specs.declared.stmt.Stmt.TheVariants.{rolls-Declare, rolls-Assign, rolls-Stage, rolls-Change, rolls-Call, rolls-Test, rolls-If, rolls-While, rolls-Return, rolls-Revert, rolls-Disown, rolls-Assert}

-- the type of a local variable
abbrev pub local_of : LocalType → Local
local_of (local.Int span) = int_local span
local_of (local.Bool span) = bool_local span
local_of (local.Text span) = text_local span
local_of (local.Named of) = named_local (named_of of)

-- a field and the value that it is given
abbrev pub given_of : GivenNode → GivenExpr
given_of node = record { field = node.field; value = expr_of node.value }

-- the block after `else`, if there is one
abbrev pub else_block : Option Block → Else
else_block None = no_else
else_block (Some block) = else_with block

-- a statement whose blocks are plain data already
abbrev pub stmt_step : made.Stmt-F Stmt Block → Stmt
stmt_step (open'.Declare of name value span) = declare_stmt (local_of of) name (expr_of value) span
stmt_step (open'.Assign name value span) = assign_stmt name (expr_of value) span
stmt_step (open'.Stage state field value span) = stage_stmt state field (expr_of value) span
stmt_step (open'.Change state given span) = change_stmt state (map given_of given) span
stmt_step (open'.Call value span) = call_stmt (expr_of value) span
stmt_step (open'.Test subject state then otherwise span) = test_stmt subject state then (else_block otherwise) span
stmt_step (open'.If condition then otherwise span) = if_stmt (expr_of condition) then (else_block otherwise) span
stmt_step (open'.While condition body span) = while_stmt (expr_of condition) body span
stmt_step (open'.Return value span) = return_stmt (option_map expr_of value) span
stmt_step (open'.Revert text span) = revert_stmt (option_map expr_of text) span
stmt_step (open'.Disown name span) = disown_stmt name span
stmt_step (open'.Assert subject perm span) = assert_stmt subject perm span

-- a block whose statements are plain data already
abbrev pub block_step : Block-F Stmt Block → Block
block_step node = block_with (stmts node.statements) node.end

-- a statement
abbrev pub stmt_of : made.Stmt → Stmt
stmt_of = made.fold-Stmt Stmt Block stmt_step block_step

-- a block
abbrev pub block_of : BlockNode → Block
block_of = fold-Block Stmt Block stmt_step block_step

-- statements in their order
abbrev pub stmts_of : List made.Stmt → Stmts
stmts_of nodes = stmts (map stmt_of nodes)

-- the block after `else`, if a tree has one
abbrev pub else_of : Option BlockNode → Else
else_of node = else_block (option_map block_of node)

pub stmt_of-Declare : (of : LocalType) (name : NamePart) (value : ExprNode) (span : Span) → stmt_of (made.Declare of name value span) ≡ declare_stmt (local_of of) name (expr_of value) span
stmt_of-Declare of name value span = ap stmt_of (sym (rolls-Declare of name value span)) ∙ made.fold-roll-Stmt Stmt Block stmt_step block_step (open'.Declare of name value span)

pub stmt_of-Assign : (name : NamePart) (value : ExprNode) (span : Span) → stmt_of (made.Assign name value span) ≡ assign_stmt name (expr_of value) span
stmt_of-Assign name value span = ap stmt_of (sym (rolls-Assign name value span)) ∙ made.fold-roll-Stmt Stmt Block stmt_step block_step (open'.Assign name value span)

pub stmt_of-Stage : (state field : NamePart) (value : ExprNode) (span : Span) → stmt_of (made.Stage state field value span) ≡ stage_stmt state field (expr_of value) span
stmt_of-Stage state field value span = ap stmt_of (sym (rolls-Stage state field value span)) ∙ made.fold-roll-Stmt Stmt Block stmt_step block_step (open'.Stage state field value span)

pub stmt_of-Change : (state : NamePart) (given : List GivenNode) (span : Span) → stmt_of (made.Change state given span) ≡ change_stmt state (map given_of given) span
stmt_of-Change state given span = ap stmt_of (sym (rolls-Change state given span)) ∙ made.fold-roll-Stmt Stmt Block stmt_step block_step (open'.Change state given span)

pub stmt_of-Call : (value : ExprNode) (span : Span) → stmt_of (made.Call value span) ≡ call_stmt (expr_of value) span
stmt_of-Call value span = ap stmt_of (sym (rolls-Call value span)) ∙ made.fold-roll-Stmt Stmt Block stmt_step block_step (open'.Call value span)

pub stmt_of-Test : (subject : Subject) (state : NamePart) (then : BlockNode) (otherwise : Option BlockNode) (span : Span) → stmt_of (made.Test subject state then otherwise span) ≡ test_stmt subject state (block_of then) (else_of otherwise) span
stmt_of-Test subject state then None span = ap stmt_of (sym (rolls-Test subject state then None span)) ∙ made.fold-roll-Stmt Stmt Block stmt_step block_step (open'.Test subject state then None span)
stmt_of-Test subject state then (Some block) span = ap stmt_of (sym (rolls-Test subject state then (Some block) span)) ∙ made.fold-roll-Stmt Stmt Block stmt_step block_step (open'.Test subject state then (Some block) span)

pub stmt_of-If : (condition : ExprNode) (then : BlockNode) (otherwise : Option BlockNode) (span : Span) → stmt_of (made.If condition then otherwise span) ≡ if_stmt (expr_of condition) (block_of then) (else_of otherwise) span
stmt_of-If condition then None span = ap stmt_of (sym (rolls-If condition then None span)) ∙ made.fold-roll-Stmt Stmt Block stmt_step block_step (open'.If condition then None span)
stmt_of-If condition then (Some block) span = ap stmt_of (sym (rolls-If condition then (Some block) span)) ∙ made.fold-roll-Stmt Stmt Block stmt_step block_step (open'.If condition then (Some block) span)

pub stmt_of-While : (condition : ExprNode) (body : BlockNode) (span : Span) → stmt_of (made.While condition body span) ≡ while_stmt (expr_of condition) (block_of body) span
stmt_of-While condition body span = ap stmt_of (sym (rolls-While condition body span)) ∙ made.fold-roll-Stmt Stmt Block stmt_step block_step (open'.While condition body span)

pub stmt_of-Return : (value : Option ExprNode) (span : Span) → stmt_of (made.Return value span) ≡ return_stmt (option_map expr_of value) span
stmt_of-Return value span = ap stmt_of (sym (rolls-Return value span)) ∙ made.fold-roll-Stmt Stmt Block stmt_step block_step (open'.Return value span)

pub stmt_of-Revert : (text : Option ExprNode) (span : Span) → stmt_of (made.Revert text span) ≡ revert_stmt (option_map expr_of text) span
stmt_of-Revert text span = ap stmt_of (sym (rolls-Revert text span)) ∙ made.fold-roll-Stmt Stmt Block stmt_step block_step (open'.Revert text span)

pub stmt_of-Disown : (name : NamePart) (span : Span) → stmt_of (made.Disown name span) ≡ disown_stmt name span
stmt_of-Disown name span = ap stmt_of (sym (rolls-Disown name span)) ∙ made.fold-roll-Stmt Stmt Block stmt_step block_step (open'.Disown name span)

pub stmt_of-Assert : (subject : Subject) (perm : PermNode) (span : Span) → stmt_of (made.Assert subject perm span) ≡ assert_stmt subject perm span
stmt_of-Assert subject perm span = ap stmt_of (sym (rolls-Assert subject perm span)) ∙ made.fold-roll-Stmt Stmt Block stmt_step block_step (open'.Assert subject perm span)

pub block_of-fields : (block : BlockNode) → block_of block ≡ block_with (stmts_of block.statements) block.end
block_of-fields = fold_out-Block Stmt Block stmt_step block_step

pub ruleset stmt_views = (stmt_of-Declare, stmt_of-Assign, stmt_of-Stage, stmt_of-Change, stmt_of-Call, stmt_of-Test, stmt_of-If, stmt_of-While, stmt_of-Return, stmt_of-Revert, stmt_of-Disown, stmt_of-Assert, block_of-fields)

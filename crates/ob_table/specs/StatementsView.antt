-- The statements of a body, as plain data.
use Rattle.std.specs.Prelude.{◌≡◌, ℕ, List, map, Option, Some, None, option_map}
use Rattle.std.proofs.Common.{ap, sym, ◌∙◌}
use Rattle.ob_base.specs.declared.fault.Span.{Span}
use Rattle.ob_base.specs.declared.id.StateId.{StateId}
use Rattle.ob_base.specs.declared.permission.Perm.{Perm}
use Rattle.ob_table.specs.Statements.{GivenField, Statement, resolved_declare, resolved_assign, resolved_stage, resolved_change, resolved_discard, resolved_test, resolved_if, resolved_while, resolved_return, resolved_revert, resolved_disown, resolved_assert, Block, resolved_block, Otherwise, no_otherwise, otherwise_block, Statements, statements, ResolvedBody}
use Rattle.ob_table.specs.ExpressionsView.{expression_of, expression_views}
use Rattle.ob_table.specs.declared.seen.SeenAt.{SeenAt}
use Rattle.ob_table.specs.declared.seen.Kind.{Kind}
use Rattle.ob_table.specs.declared.body.Body.{Body}
use Rattle.ob_table.specs.declared.expr.ResolvedExpr.{ResolvedExpr}
use Rattle.ob_table.specs.declared.stmt.ResolvedGiven.{ResolvedGiven}
use Rattle.ob_table.specs.declared.stmt.ResolvedBlock.{ResolvedBlock, ResolvedBlock-F, fold-ResolvedBlock, fold_out-ResolvedBlock}
use Rattle.ob_table.specs.declared.stmt.ResolvedStmt as made
use Rattle.ob_table.specs.declared.stmt.ResolvedStmt.TheOpen as open'
use Rattle.ob_table.specs.declared.stmt.ResolvedStmt.TheVariants.{rolls-Declare, rolls-Assign, rolls-Stage, rolls-Change, rolls-Call, rolls-Test, rolls-If, rolls-While, rolls-Return, rolls-Revert, rolls-Disown, rolls-Assert}

-- a field and the value that it is given
abbrev pub given_field_of : ResolvedGiven → GivenField
given_field_of node = record { field = node.field; span = node.span; value = expression_of node.value }

-- the block after `else`, if there is one
abbrev pub otherwise : Option Block → Otherwise
otherwise None = no_otherwise
otherwise (Some block) = otherwise_block block

-- a statement whose blocks are plain data already
abbrev pub statement_step : made.ResolvedStmt-F Statement Block → Statement
statement_step (open'.Declare local name of value span) = resolved_declare local name of (expression_of value) span
statement_step (open'.Assign target value span) = resolved_assign target (expression_of value) span
statement_step (open'.Stage state given span) = resolved_stage state (given_field_of given) span
statement_step (open'.Change state given span) = resolved_change state (map given_field_of given) span
statement_step (open'.Call value span) = resolved_discard (expression_of value) span
statement_step (open'.Test subject state then other span) = resolved_test subject state then (otherwise other) span
statement_step (open'.If condition then other span) = resolved_if (expression_of condition) then (otherwise other) span
statement_step (open'.While condition body span) = resolved_while (expression_of condition) body span
statement_step (open'.Return value span) = resolved_return (option_map expression_of value) span
statement_step (open'.Revert text span) = resolved_revert (option_map expression_of text) span
statement_step (open'.Disown subject span) = resolved_disown subject span
statement_step (open'.Assert subject perm span) = resolved_assert subject perm span

-- a block whose statements are plain data already
abbrev pub block_step : ResolvedBlock-F Statement Block → Block
block_step node = resolved_block (statements node.statements) node.end

-- a statement
abbrev pub statement_of : made.ResolvedStmt → Statement
statement_of = made.fold-ResolvedStmt Statement Block statement_step block_step

-- a block
abbrev pub resolved_block_of : ResolvedBlock → Block
resolved_block_of = fold-ResolvedBlock Statement Block statement_step block_step

-- statements in their order
abbrev pub statements_of : List made.ResolvedStmt → Statements
statements_of nodes = statements (map statement_of nodes)

-- the block after `else`, if a statement has one
abbrev pub otherwise_of : Option ResolvedBlock → Otherwise
otherwise_of node = otherwise (option_map resolved_block_of node)

-- a body
abbrev pub resolved_body_of : Body → ResolvedBody
resolved_body_of body = record { contract = body.contract; tx = body.tx; statements = statements_of body.statements; end = body.end }

pub statement_of-Declare : (local : ℕ) (name : Span) (of : Kind) (value : ResolvedExpr) (span : Span) → statement_of (made.Declare local name of value span) ≡ resolved_declare local name of (expression_of value) span
statement_of-Declare local name of value span = ap statement_of (sym (rolls-Declare local name of value span)) ∙ made.fold-roll-ResolvedStmt Statement Block statement_step block_step (open'.Declare local name of value span)

pub statement_of-Assign : (target : SeenAt) (value : ResolvedExpr) (span : Span) → statement_of (made.Assign target value span) ≡ resolved_assign target (expression_of value) span
statement_of-Assign target value span = ap statement_of (sym (rolls-Assign target value span)) ∙ made.fold-roll-ResolvedStmt Statement Block statement_step block_step (open'.Assign target value span)

pub statement_of-Stage : (state : StateId) (given : ResolvedGiven) (span : Span) → statement_of (made.Stage state given span) ≡ resolved_stage state (given_field_of given) span
statement_of-Stage state given span = ap statement_of (sym (rolls-Stage state given span)) ∙ made.fold-roll-ResolvedStmt Statement Block statement_step block_step (open'.Stage state given span)

pub statement_of-Change : (state : StateId) (given : List ResolvedGiven) (span : Span) → statement_of (made.Change state given span) ≡ resolved_change state (map given_field_of given) span
statement_of-Change state given span = ap statement_of (sym (rolls-Change state given span)) ∙ made.fold-roll-ResolvedStmt Statement Block statement_step block_step (open'.Change state given span)

pub statement_of-Call : (value : ResolvedExpr) (span : Span) → statement_of (made.Call value span) ≡ resolved_discard (expression_of value) span
statement_of-Call value span = ap statement_of (sym (rolls-Call value span)) ∙ made.fold-roll-ResolvedStmt Statement Block statement_step block_step (open'.Call value span)

pub statement_of-Test : (subject : SeenAt) (state : StateId) (then : ResolvedBlock) (other : Option ResolvedBlock) (span : Span) → statement_of (made.Test subject state then other span) ≡ resolved_test subject state (resolved_block_of then) (otherwise_of other) span
statement_of-Test subject state then None span = ap statement_of (sym (rolls-Test subject state then None span)) ∙ made.fold-roll-ResolvedStmt Statement Block statement_step block_step (open'.Test subject state then None span)
statement_of-Test subject state then (Some block) span = ap statement_of (sym (rolls-Test subject state then (Some block) span)) ∙ made.fold-roll-ResolvedStmt Statement Block statement_step block_step (open'.Test subject state then (Some block) span)

pub statement_of-If : (condition : ResolvedExpr) (then : ResolvedBlock) (other : Option ResolvedBlock) (span : Span) → statement_of (made.If condition then other span) ≡ resolved_if (expression_of condition) (resolved_block_of then) (otherwise_of other) span
statement_of-If condition then None span = ap statement_of (sym (rolls-If condition then None span)) ∙ made.fold-roll-ResolvedStmt Statement Block statement_step block_step (open'.If condition then None span)
statement_of-If condition then (Some block) span = ap statement_of (sym (rolls-If condition then (Some block) span)) ∙ made.fold-roll-ResolvedStmt Statement Block statement_step block_step (open'.If condition then (Some block) span)

pub statement_of-While : (condition : ResolvedExpr) (body : ResolvedBlock) (span : Span) → statement_of (made.While condition body span) ≡ resolved_while (expression_of condition) (resolved_block_of body) span
statement_of-While condition body span = ap statement_of (sym (rolls-While condition body span)) ∙ made.fold-roll-ResolvedStmt Statement Block statement_step block_step (open'.While condition body span)

pub statement_of-Return : (value : Option ResolvedExpr) (span : Span) → statement_of (made.Return value span) ≡ resolved_return (option_map expression_of value) span
statement_of-Return value span = ap statement_of (sym (rolls-Return value span)) ∙ made.fold-roll-ResolvedStmt Statement Block statement_step block_step (open'.Return value span)

pub statement_of-Revert : (text : Option ResolvedExpr) (span : Span) → statement_of (made.Revert text span) ≡ resolved_revert (option_map expression_of text) span
statement_of-Revert text span = ap statement_of (sym (rolls-Revert text span)) ∙ made.fold-roll-ResolvedStmt Statement Block statement_step block_step (open'.Revert text span)

pub statement_of-Disown : (subject : SeenAt) (span : Span) → statement_of (made.Disown subject span) ≡ resolved_disown subject span
statement_of-Disown subject span = ap statement_of (sym (rolls-Disown subject span)) ∙ made.fold-roll-ResolvedStmt Statement Block statement_step block_step (open'.Disown subject span)

pub statement_of-Assert : (subject : SeenAt) (perm : Perm) (span : Span) → statement_of (made.Assert subject perm span) ≡ resolved_assert subject perm span
statement_of-Assert subject perm span = ap statement_of (sym (rolls-Assert subject perm span)) ∙ made.fold-roll-ResolvedStmt Statement Block statement_step block_step (open'.Assert subject perm span)

pub resolved_block_of-fields : (block : ResolvedBlock) → resolved_block_of block ≡ resolved_block (statements_of block.statements) block.end
resolved_block_of-fields = fold_out-ResolvedBlock Statement Block statement_step block_step

pub ruleset statement_views = (statement_of-Declare, statement_of-Assign, statement_of-Stage, statement_of-Change, statement_of-Call, statement_of-Test, statement_of-If, statement_of-While, statement_of-Return, statement_of-Revert, statement_of-Disown, statement_of-Assert, resolved_block_of-fields)

pub ruleset resolved_views = (expression_views, statement_views)

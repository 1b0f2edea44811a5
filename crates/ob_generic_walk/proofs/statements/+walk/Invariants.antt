use Rattle.std.proofs.Common.{◌≡◌, drop}
use Rattle.ob_tree.specs.StmtsView.{stmts_of}
use Rattle.ob_generic_spec.specs.Uses.{types_in_stmts}
use Rattle.ob_generic_walk.specs.Seen.{met}
use Rattle.ob_generic_walk.proofs.statements.+walk.Given as goal

abbrev pub invariant-walk_stmts-loop-statement : goal.invariant-walk_stmts-loop-statement
invariant-walk_stmts-loop-statement l =
    met l.around l.found (types_in_stmts (stmts_of (drop l.statement-index l.statements)))
    ≡ met l.around l.fn.found (types_in_stmts (stmts_of l.statements))

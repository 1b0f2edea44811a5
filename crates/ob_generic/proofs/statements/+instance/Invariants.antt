use Rattle.std.proofs.Common.{◌≡◌, take, map}
use Rattle.ob_tree.specs.StmtsView.{stmt_of}
use Rattle.ob_generic_spec.specs.InstanceBodies.{stmt_in}
use Rattle.ob_generic.proofs.statements.+instance.Given as goal

abbrev pub invariant-stmts_in-loop-statement : goal.invariant-stmts_in-loop-statement
invariant-stmts_in-loop-statement l = map stmt_of l.out ≡ map (stmt_in l.own) (map stmt_of (take l.statement-index l.statements))

use Rattle.std.proofs.Common.{◌≡◌, drop}
use Rattle.std.specs.Prelude.{◌||◌}
use Rattle.ob_table.specs.StatementsView.{statements_of}
use Rattle.ob_table_spec.specs.WellFormed.{one_ends_there}
use Rattle.ob_lower_functions.specs.StatementCode.{statements_code}
use Rattle.ob_lower.proofs.statements.+lower_statement.Given as goal

abbrev pub invariant-lower_statements-loop-index : goal.invariant-lower_statements-loop-index
invariant-lower_statements-loop-index l = record {
  code : statements_code l.frame (statements_of (drop l.index l.statements)) l.position l.out
      ≡ statements_code l.frame (statements_of l.statements) l.fn.position l.fn.out;
  ends : (l.ends || one_ends_there (statements_of (drop l.index l.statements)))
      ≡ one_ends_there (statements_of l.statements);
}

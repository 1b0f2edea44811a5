use Rattle.std.proofs.Common.{◌≡◌, drop}
use Rattle.ob_table.specs.StatementsView.{statements_of}
use Rattle.ob_lower_spec.specs.Forms.{refused_at}
use Rattle.ob_lower.proofs.rows.refused_at.Given as goal

abbrev pub invariant-loop-statement : goal.invariant-loop-statement
invariant-loop-statement l =
    refused_at l.state l.last (statements_of (drop l.statement-index l.rest))
    ≡ refused_at l.state l.fn.at (statements_of l.rest)

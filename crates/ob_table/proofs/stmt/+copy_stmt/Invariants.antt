use Rattle.std.proofs.Common.{◌≡◌, take}
use Rattle.ob_table.proofs.stmt.+copy_stmt.Given as goal

-- what has been gone over is copied
abbrev pub invariant-copy_statements-loop-statement : goal.invariant-copy_statements-loop-statement
invariant-copy_statements-loop-statement l = l.copies ≡ take l.statement-index l.statements

use Rattle.std.proofs.Common.{◌≡◌, ◌-◌, ◌++◌}
use Rattle.ob_verify_spec.specs.Passing.{first_rows, no_rows}
use Rattle.ob_verify.proofs.known.first_rows.Given as goal

abbrev pub invariant-loop-i : goal.invariant-loop-i
invariant-loop-i l = first_rows l.frame ≡ l.rows.items ++ no_rows (l._i-end - l._i)

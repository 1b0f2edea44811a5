use Rattle.std.proofs.Common.{◌≡◌, take}
use Rattle.ob_table.proofs.expr.+copy_expr.Given as goal

-- what has been gone over is copied
abbrev pub invariant-copy_args-loop-arg : goal.invariant-copy_args-loop-arg
invariant-copy_args-loop-arg l = l.copies ≡ take l.arg-index l.args

use Rattle.std.proofs.Common.{◌≡◌}
use Rattle.ob_resolve_members.specs.Same.{params_from}
use Rattle.ob_resolve_members.proofs.matching.next_param.Given as goal

abbrev pub invariant-loop-place : goal.invariant-loop-place
invariant-loop-place l = params_from l.from l.formals ≡ params_from l.place l.formals

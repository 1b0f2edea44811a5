use Rattle.std.proofs.Common.{◌≡◌, ◌++◌, drop}
use Rattle.ob_silica_kinds.specs.Kinds.{param_kinds, first_kinds}
use Rattle.ob_silica_kinds.proofs.kinds.first_kinds.Given as goal

abbrev pub invariant-loop-param : goal.invariant-loop-param
invariant-loop-param l = l.slots ++ param_kinds (drop l.param-index l.params) ≡ first_kinds l.fn.here l.params

use Rattle.std.proofs.Common.{◌≡◌, take}
use Rattle.ob_resolve_scope.specs.Numbered.{numbered}
use Rattle.ob_generic_names.proofs.heads.names_of_states.Given as goal

abbrev pub invariant-loop-number : goal.invariant-loop-number
invariant-loop-number l = l.names ≡ numbered (take l.number l.states)

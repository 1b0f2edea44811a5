use Rattle.std.proofs.Common.{◌≡◌, map, take}
use Rattle.ob_resolve_scope.specs.Numbered.{numbered}
use Rattle.ob_resolve_scope.specs.Types.{program_of}
use Rattle.ob_resolve_scope.proofs.types.contract_names.Given as goal

abbrev pub invariant-loop-number : goal.invariant-loop-number
invariant-loop-number l = l.names ≡ numbered (map (λ c. c.name) (program_of (take l.number l.nodes)))

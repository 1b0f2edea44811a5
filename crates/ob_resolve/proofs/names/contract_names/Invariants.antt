use Rattle.std.proofs.Common.{◌≡◌, map, take}
use Rattle.ob_resolve_spec.specs.Declarations.{contract_name}
use Rattle.ob_resolve_scope.specs.Types.{program_of}
use Rattle.ob_resolve.proofs.names.contract_names.Given as goal

abbrev pub invariant-loop-node : goal.invariant-loop-node
invariant-loop-node l = l.names ≡ map contract_name (program_of (take l.node-index l.nodes))

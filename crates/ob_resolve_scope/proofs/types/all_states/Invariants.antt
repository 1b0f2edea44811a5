use Rattle.std.proofs.Common.{◌≡◌, map, take}
use Rattle.ob_resolve_spec.specs.Declarations.{state_names}
use Rattle.ob_resolve_scope.specs.Types.{program_of, states_named}
use Rattle.ob_resolve_scope.proofs.types.all_states.Given as goal

abbrev pub invariant-loop-node : goal.invariant-loop-node
invariant-loop-node l = l.all ≡ map (λ c. states_named (state_names c)) (program_of (take l.node-index l.nodes))

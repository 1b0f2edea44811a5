use Rattle.std.proofs.Common.{◌≡◌, take, map}
use Rattle.std.specs.Prelude.{option_map}
use Rattle.ob_table_spec.specs.Names.{number_of}
use Rattle.ob_flow_context.proofs.naming.naming.Given as goal

abbrev pub invariant-loop-state : goal.invariant-loop-state
invariant-loop-state l = l.names ≡ map (λ state. option_map (λ n. record { 0 = n }) (number_of state l.interface.states)) (take l.state-index l.contract.states)

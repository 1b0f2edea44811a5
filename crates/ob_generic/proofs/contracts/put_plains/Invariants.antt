use Rattle.std.proofs.Common.{◌≡◌, ◌++◌, drop, map}
use Rattle.std.specs.List.{flat_map}
use Rattle.ob_tree.specs.MembersView.{contract_of}
use Rattle.ob_generic_spec.specs.InstanceTrees.{plain_contracts}
use Rattle.ob_generic.proofs.contracts.put_plains.Given as goal

abbrev pub invariant-loop-node : goal.invariant-loop-node
invariant-loop-node l =
    map contract_of l.out ++ flat_map plain_contracts (map contract_of (drop l.node-index l.nodes))
    ≡ map contract_of l.fn.out ++ flat_map plain_contracts (map contract_of l.nodes)

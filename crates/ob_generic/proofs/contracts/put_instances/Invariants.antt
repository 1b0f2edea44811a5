use Rattle.std.proofs.Common.{◌≡◌, ◌++◌, drop, map}
use Rattle.std.specs.List.{flat_map}
use Rattle.ob_tree.specs.MembersView.{contract_of}
use Rattle.ob_generic_spec.specs.InstanceTrees.{instance_contracts}
use Rattle.ob_generic.proofs.contracts.put_instances.Given as goal

abbrev pub invariant-loop-instance : goal.invariant-loop-instance
invariant-loop-instance l =
    map contract_of l.out ++ flat_map (instance_contracts (map contract_of l.nodes)) (drop l.instance-index l.instances)
    ≡ map contract_of l.fn.out ++ flat_map (instance_contracts (map contract_of l.nodes)) l.instances

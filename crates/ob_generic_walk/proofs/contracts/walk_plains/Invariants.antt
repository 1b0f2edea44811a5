use Rattle.std.proofs.Common.{◌≡◌, drop, map}
use Rattle.std.specs.List.{flat_map}
use Rattle.ob_tree.specs.MembersView.{contract_of}
use Rattle.ob_generic_spec.specs.Instances.{plain_visits}
use Rattle.ob_generic_walk.specs.Seen.{seen}
use Rattle.ob_generic_walk.proofs.contracts.walk_plains.Given as goal

abbrev pub invariant-loop-node : goal.invariant-loop-node
invariant-loop-node l =
    seen l.found (flat_map (plain_visits l.heads) (map contract_of (drop l.node-index l.nodes)))
    ≡ seen l.fn.found (flat_map (plain_visits l.heads) (map contract_of l.nodes))

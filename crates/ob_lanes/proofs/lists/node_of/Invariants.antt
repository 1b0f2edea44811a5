use Rattle.std.proofs.Common.{◌≡◌, true, [], length, get_or}
use Rattle.std.specs.Prelude.{IfSome}
use Rattle.ob_links.specs.Lists.{has_node}
use Rattle.ob_lanes.specs.Readers.{node_with}
use Rattle.ob_owners.proofs.WalkLemmas.{from_node}
use Rattle.ob_lanes.proofs.lists.node_of.Given as goal

-- what is left of the list from a node on has the lane, if the list has it
abbrev pub invariant-loop-at : goal.invariant-loop-at
invariant-loop-at g l = record {
  inside : IfSome l.at (λ n. has_node n (get_or l.links.lists l.list []) ≡ true);
  left : node_with l.lane (from_node l.at (get_or l.links.lists l.list [])) ≡ node_with l.lane (get_or l.links.lists l.list []);
}

abbrev pub decreases-loop-at : goal.decreases-loop-at
decreases-loop-at g l = length (from_node l.at (get_or l.links.lists l.list []))

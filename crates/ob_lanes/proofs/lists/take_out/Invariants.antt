use Rattle.std.proofs.Common.{◌≡◌, [], length, get_or}
use Rattle.std.specs.Prelude.{IfSome}
use Rattle.ob_links.specs.Lists.{joined, AreApart}
use Rattle.ob_lanes.specs.Readers.{items_of, node_with, is_at, SameBut}
use Rattle.ob_lanes.proofs.lists.take_out.Given as goal

-- a node of the lane is known, if there is one left; so many pairs are left; all else is as it was
abbrev pub invariant-loop-at : goal.invariant-loop-at
invariant-loop-at l = record {
  node : l.at ≡ node_with l.lane (get_or l.links.lists l.list []);
  apart : IfSome l.at (λ n. AreApart (joined l.links.lists));
  others : SameBut l.lane l.list (is_at (items_of l.fn.links)) (is_at (items_of l.links));
  count : l.count ≡ length (joined l.links.lists);
  lists : length l.links.lists ≡ length l.fn.links.lists;
}

abbrev pub decreases-loop-at : goal.decreases-loop-at
decreases-loop-at l = l.count

use Rattle.std.proofs.Common.{◌∙◌, sym, ap}
use Rattle.std.specs.Prelude.{is_some}
use Rattle.ob_lanes.proofs.ListLemmas.{node_tells}
use Rattle.ob_lanes.proofs.lists.take_out.Goals as goal

pub returns-clause-gone : goal.returns-clause-gone
returns-clause-gone c = sym (node_tells c.args.lane c.args.list c.loop-at.links c.loop-at.at c.loop-at.invariant.node) ∙ ap is_some c.in_default.is

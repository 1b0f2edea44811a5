use Rattle.std.proofs.Common.{◌∙◌, [], get_or, sym, ap}
use Rattle.ob_lanes.specs.Readers.{objects_read}
use Rattle.ob_lanes.proofs.StaleLemmas.{entered_set, nothing_read}
use Rattle.ob_lanes.proofs.stale.free_at.Goals as goal

pub returns-clause-entered : goal.returns-clause-entered
returns-clause-entered c =
    c.clear.ensures
    ∙ entered_set c.args.readers.now c.args.lanes.now c.args.lane c.free.new.lane [] c.requires.entered (sym (ap objects_read c.free.ensures ∙ nothing_read (get_or c.args.lanes.now c.args.lane c.index-lanes-lane.result)))

use Rattle.std.proofs.Common.{◌∙◌, [], sym, ap}
use Rattle.ob_lanes.specs.Readers.{objects_read}
use Rattle.ob_lanes.proofs.StaleLemmas.{entered_set}
use Rattle.ob_lanes.proofs.turning.answer_at.Goals as goal

pub returns-clause-entered : goal.returns-clause-entered
returns-clause-entered c =
    c.clear.ensures ∙ entered_set c.args.readers.now c.args.lanes.now c.args.lane c.answer_lane.new.lane [] c.requires.entered (sym (ap objects_read c.answer_lane.ensures.idle))

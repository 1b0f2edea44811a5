use Rattle.std.proofs.Common.{◌∙◌, [], get_or, sym, ap}
use Rattle.ob_lanes.specs.Readers.{objects_read, freed_if}
use Rattle.ob_lanes.proofs.StaleLemmas.{entered_set, nothing_read}
use Rattle.ob_lanes.proofs.stale.reopen_at.Goals as goal

pub returns-then-reopen_lane-clause-entered : goal.returns-then-reopen_lane-clause-entered
returns-then-reopen_lane-clause-entered c =
    let lane = get_or c.args.lanes.now c.args.lane c.index-lanes-lane.result in
    c.clear.ensures
    ∙ entered_set c.args.readers.now c.args.lanes.now c.args.lane c.reopen_lane.new.lane [] c.requires.entered
    (sym (ap objects_read (c.reopen_lane.ensures.lane ∙ ap (λ t. freed_if t lane) (sym c.reopen_lane.ensures.stale ∙ c.if-reopen_lane.true)) ∙ nothing_read lane))

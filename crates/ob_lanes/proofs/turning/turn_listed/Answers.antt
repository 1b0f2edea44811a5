use Rattle.std.proofs.Common.{◌∙◌, [], get_or}
use Rattle.ob_lanes.specs.Committing.{lane_at}
use Rattle.ob_lanes.proofs.StaleLemmas.{entered_else, idle_stays, none_set}
use Rattle.ob_lanes.proofs.turning.turn_listed.Goals as goal

pub returns-in-Err-clause-entered : goal.returns-in-Err-clause-entered
returns-in-Err-clause-entered g c =
    let turned = c.turn_entered-turned in
    let k = c.args.lane in
    c.clear.ensures
    ∙ entered_else c.args.readers.now turned.new.readers c.args.lanes.now turned.new.lanes k (get_or turned.new.readers k []) (lane_at turned.new.lanes k) c.requires.entered turned.ensures.readers turned.ensures.stay

pub returns-in-Err-clause-idle : goal.returns-in-Err-clause-idle
returns-in-Err-clause-idle g c = none_set c.turn_entered-turned.new.lanes c.args.lane

pub returns-in-Err-clause-stay : goal.returns-in-Err-clause-stay
returns-in-Err-clause-stay g c =
    let turned = c.turn_entered-turned in
    let k = c.args.lane in
    idle_stays c.args.lanes.now turned.new.lanes k (lane_at turned.new.lanes k) turned.ensures.stay

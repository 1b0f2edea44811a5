use Rattle.std.proofs.Common.{◌≡◌, ◌∙◌, None, map, length, get_or, sym, ap, arith}
use Rattle.std.proofs.lemmas.List.{length-set}
use Rattle.ob_lanes.specs.Committing.{lane_at}
use Rattle.ob_lanes.specs.Readers.{objects_read}
use Rattle.ob_lanes.proofs.StaleLemmas.{entered_set}
use Rattle.ob_lanes.proofs.TurnLemmas.{index_any}
use Rattle.ob_lanes.proofs.turning.turn_entered.Goals as goal

pub returns-clause-entered : goal.returns-clause-entered
returns-clause-entered g c =
    let k = c.args.lane in
    let old = c.args.lanes.now in
    let now = c.turn_lane.new.lanes in
    let lane = get_or now k c.index-lanes-lane.result in
    let same : length now ≡ length old = ap length c.turn_lane.ensures.stay ∙ length-set old k (lane_at now k) in
    let here : lane ≡ lane_at now k = index_any now k c.index-lanes-lane.result None (omega (arith, same, c.requires.lane)) in
    c.in_ok-enter_lane.ensures.ok
    ∙ entered_set c.args.readers.now old k (lane_at now k) (objects_read lane) c.requires.entered (ap objects_read here)
    ∙ ap (map objects_read) (sym c.turn_lane.ensures.stay)

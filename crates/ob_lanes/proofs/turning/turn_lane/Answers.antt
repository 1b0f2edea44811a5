use Rattle.ob_lanes.proofs.StaleLemmas.{turn_stays}
use Rattle.ob_lanes.proofs.TurnLemmas.{lane_turned, begun_may}
use Rattle.ob_lanes.proofs.turning.turn_lane.Goals as goal

pub run_lane-requires-clause-may : goal.run_lane-requires-clause-may
run_lane-requires-clause-may g c =
    begun_may c.args.code.now c.args.fuel c.args.content.now c.args.entries.now c.args.lane c.requires.those.0 c.args.lanes.now c.begin.new.lanes c.index-lanes-lane.result
    c.begin.ensures c.requires.those.1 c.requires.those.2 c.requires.lane

pub returns-clause-had : goal.returns-clause-had
returns-clause-had g c = λ l h k.
    lane_turned c.args.code.now c.args.fuel c.args.content.now c.args.entries.now c.args.units c.args.lane l c.args.lanes.now c.begin.new.lanes c.index-lanes-lane.result c.run_lane.new.lane c.run_lane.result
    c.begin.ensures h k c.requires.lane c.run_lane.ensures

pub returns-clause-stay : goal.returns-clause-stay
returns-clause-stay g c = turn_stays c.args.entries.now c.args.lane c.args.lanes.now c.begin.new.lanes c.run_lane.new.lane c.begin.ensures c.requires.lane

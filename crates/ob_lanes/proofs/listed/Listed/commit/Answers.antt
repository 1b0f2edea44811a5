use Rattle.std.proofs.Common.{◌≡◌, ◌∙◌, Option, map, sym, ap, rules}
use Rattle.std.specs.Global.{Vec}
use Rattle.std.specs.Vec.{with_items}
use Rattle.std.proofs.lemmas.List.{with_items_is, places}
use Rattle.ob_lanes.specs.Committing.{lanes_after}
use Rattle.ob_lanes.specs.Readers.{objects_read}
use Rattle.ob_lanes.specs.declared.batch.Busy.{Busy}
use Rattle.ob_lanes.proofs.listed.Listed.commit.Goals as goal

pub invariant_of-self : goal.invariant_of-self
invariant_of-self c =
    let same : (with_items c.self.inside.lanes c.commit_lane.new.lanes).items ≡ c.commit_lane.new.lanes = with_items_is c.self.inside.lanes c.commit_lane.new.lanes (search (rules, places)) in
    c.commit_lane.ensures.entered ∙ ap (map objects_read) (sym same)

pub returns-clause-lanes : goal.returns-clause-lanes
returns-clause-lanes c =
    let same : (with_items c.self.inside.lanes c.commit_lane.new.lanes).items ≡ c.commit_lane.new.lanes = with_items_is c.self.inside.lanes c.commit_lane.new.lanes (search (rules, places)) in
    let seen : c.deref_mut.result.now ≡ c.args.self.now.items = c.deref_mut.ensures.value ∙ ap (λ (v : Vec (Option Busy)). v.items) c.self.view_is in
    same ∙ c.commit_lane.ensures.lanes ∙ ap (lanes_after c.args.before.now c.args.delta.now c.args.lane) seen

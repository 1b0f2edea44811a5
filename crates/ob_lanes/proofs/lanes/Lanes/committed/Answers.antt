use Rattle.std.proofs.Common.{◌≡◌, length, map, refl, ap, ◌∙◌, rules}
use Rattle.std.specs.Vec.{with_items}
use Rattle.std.proofs.lemmas.List.{with_items_is, places}
use Rattle.ob_lanes_laws.specs.Turns.{next_lane}
use Rattle.ob_lanes.specs.Committing.{lane_at, answered_in}
use Rattle.ob_lanes.specs.declared.batch.BatchRequest.{BatchRequest}
use Rattle.ob_lanes.proofs.Committing.{answered_kept}
use Rattle.ob_lanes.proofs.Commits.{commits_so}
use Rattle.ob_lanes.proofs.Untouched.{untouched}
use Rattle.ob_lanes.proofs.lanes.Lanes.committed.Goals as goal

pub returns-clause-stand : goal.returns-clause-stand
returns-clause-stand c = λ image fuel batch l after w.
    let old = c.args.self.now in
    let before = c.args.before.now in
    let delta = c.args.delta.now in
    let es : c.deref_mut.result.now ≡ old.entries.items = search rules in
    let next : c.after_lane-self.result ≡ next_lane (length old.lanes.items) old.next = search rules in
    let entries : (with_items old.entries c.commit.new.entries).items ≡ c.commit.new.entries = with_items_is old.entries c.commit.new.entries (search (rules, places)) in
    commits_so image fuel batch before delta after old (record { slice = old.slice; next = c.after_lane-self.result; entries = with_items old.entries c.commit.new.entries; lanes = c.commit.new.self }) l w c.commit.ensures.lanes
    (entries ∙ c.commit.ensures.entries ∙ ap (answered_in (lane_at old.lanes.items old.next)) es) next refl

pub returns-clause-untouched : goal.returns-clause-untouched
returns-clause-untouched c = untouched c.args.before.now c.args.delta.now c.args.self.now.next c.args.self.now.lanes.items c.commit.new.self.items c.commit.ensures.lanes

pub returns-clause-requests : goal.returns-clause-requests
returns-clause-requests c =
    let old = c.args.self.now in
    let es : c.deref_mut.result.now ≡ old.entries.items = search rules in
    let entries : (with_items old.entries c.commit.new.entries).items ≡ c.commit.new.entries = with_items_is old.entries c.commit.new.entries (search (rules, places)) in
    ap (map (λ (e : BatchRequest). e.request)) (entries ∙ c.commit.ensures.entries ∙ ap (answered_in (lane_at old.lanes.items old.next)) es) ∙ answered_kept (lane_at old.lanes.items old.next) old.entries.items

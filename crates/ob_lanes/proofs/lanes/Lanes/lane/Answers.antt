use Rattle.std.proofs.Common.{◌≡◌, None, sym, ap, subst, rules}
use Rattle.std.specs.Prelude.{slice_get}
use Rattle.std.specs.Option.{option_copied}
use Rattle.ob_lanes.specs.Standing.{Lends, run_of_lane, run_at}
use Rattle.ob_lanes.proofs.Lending.{lends_so}
use Rattle.ob_lanes.proofs.lanes.Lanes.lane.Goals as goal

pub returns-in-Some-clause-lends : goal.returns-in-Some-clause-lends
returns-in-Some-clause-lends c = λ image fuel batch base l h.
    let entries = c.args.self.now.entries.items in
    let lanes = c.args.self.now.lanes.items in
    let is : option_copied c.lent_lane.result ≡ run_at lanes c.args.lane = search rules in
    subst (λ r. Lends image fuel base entries (slice_get l.lanes c.args.lane) r) (sym is) (lends_so image fuel base entries lanes l c.args.lane h.state)

pub returns-in-None-clause-is : goal.returns-in-None-clause-is
returns-in-None-clause-is c =
    let at : slice_get c.args.self.now.lanes.items c.args.lane ≡ None = search rules in
    sym (ap run_of_lane at)

pub returns-in-None-clause-lends : goal.returns-in-None-clause-lends
returns-in-None-clause-lends c = λ image fuel batch base l h.
    let entries = c.args.self.now.entries.items in
    let lanes = c.args.self.now.lanes.items in
    let at : slice_get lanes c.args.lane ≡ None = search rules in
    subst (λ r. Lends image fuel base entries (slice_get l.lanes c.args.lane) r) (ap run_of_lane at) (lends_so image fuel base entries lanes l c.args.lane h.state)

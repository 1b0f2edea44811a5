use Rattle.std.proofs.Common.{◌≡◌, true, false, is_some, rules}
use Rattle.ob_lanes.proofs.SliceLemmas.{some_ready, fresh_ready}
use Rattle.ob_lanes.proofs.slicing.ready.Goals as goal

pub returns-then-is_some : goal.returns-then-is_some
returns-then-is_some g c = λ given k.
    let e : is_some c.args.run.now ≡ true = search rules in
    some_ready c.args.code.now c.args.fuel c.args.content.now c.args.request.now given c.args.run.now e k

pub returns : goal.returns
returns g c = λ given k.
    let e : is_some c.args.run.now ≡ false = search rules in
    fresh_ready c.args.code.now c.args.fuel c.args.content.now c.args.request.now c.in_ok-asked.asked given c.args.run.now c.in_ok-new.field-0 c.start-started.result e
    c.in_ok-new.ensures c.in_ok-asked.ensures c.start-started.ensures.stands c.start-started.ensures.request k

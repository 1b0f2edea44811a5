use Rattle.std.proofs.Common.{subst}
use Rattle.ob_lanes.specs.Standing.{AreReady}
use Rattle.ob_lanes.proofs.SliceLemmas.{ready_on, slice_leads_if}
use Rattle.ob_lanes.proofs.slicing.slice.Goals as goal

pub returns : goal.returns
returns g c = λ given k.
    let ready = subst (AreReady c.args.code.now c.args.fuel c.args.content.now c.args.request.now given) c.in-Some.is (c.in_ok-ready.ensures given k) in
    slice_leads_if c.args.code.now c.args.fuel c.args.content.now c.args.request.now given c.args.units c.in-Some.lane_run c.slice.new.self c.slice.result ready
    (c.slice.ensures.leads c.args.fuel ready.slices_so_far (ready_on c.args.code.now c.args.fuel c.args.content.now c.args.request.now given c.in-Some.lane_run ready c.requires.right))
    c.slice.ensures.request

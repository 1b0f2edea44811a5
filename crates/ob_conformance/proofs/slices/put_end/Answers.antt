use Rattle.std.proofs.Common.{[], ◌∷◌, ◌++◌}
use Rattle.ob_exec.proofs.CallerLemmas.{goes_on}
use Rattle.ob_conformance.proofs.slices.put_end.Goals as goal

pub slices-preserved : goal.slices-preserved
slices-preserved c =
    let inv = c.slices.invariant in
    let told = c.in-Ok-Paused.ensures.leads inv.0 inv.1 inv.2 in
    let leads = rw c.in-Ok-Paused.field-0-is at told in (
      inv.0,
      inv.1 ++ c.args.units ∷ [],
      goes_on c.args.code.now inv.0 c.args.content.now inv.1 c.args.units c.slices.started c.slice.new.self inv.2 leads c.slice.ensures.request,
    )

use Rattle.std.proofs.Common.{◌≡◌, ◌∙◌, map, ap, rules}
use Rattle.ob_lanes.specs.Committing.{reopened}
use Rattle.ob_lanes.specs.Readers.{freed_by_all, freed_by_others}
use Rattle.ob_lanes.proofs.StaleLemmas.{mapped_both, reopened_so}
use Rattle.ob_lanes.proofs.stale.reopen.Goals as goal

pub returns-clause-is : goal.returns-clause-is
returns-clause-is c =
    let before = c.args.before.now in
    let delta = c.args.delta.now in
    let objects : c.as_slice.result.now ≡ delta.objects = search rules in
    c.reopen_by_all.ensures.is
    ∙ ap (λ es. map (freed_by_all es) c.reopen_by_others.new.lanes) objects
    ∙ ap (map (freed_by_all delta.objects)) c.reopen_by_others.ensures.is
    ∙ mapped_both (freed_by_all delta.objects) (freed_by_others before delta) (reopened before delta) (reopened_so before delta) c.args.lanes.now

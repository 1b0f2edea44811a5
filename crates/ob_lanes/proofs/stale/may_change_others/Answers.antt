use Rattle.std.proofs.Common.{◌≡◌, ◌∙◌, [], length, sym, ap}
use Rattle.ob_lanes.specs.Committing.{has_new}
use Rattle.ob_lanes.proofs.StaleLemmas.{no_others, no_items}
use Rattle.ob_lanes.proofs.stale.may_change_others.Goals as goal

pub returns-else-not-is_empty : goal.returns-else-not-is_empty
returns-else-not-is_empty c = λ new.
    let before = c.args.before.now in
    let delta = c.args.delta.now in
    let none : delta.handles ≡ [] = sym c.as_slice.ensures ∙ no_items c.as_slice.result.now (sym c.if-not-is_empty.ensures) in
    no_others before delta none (ap (λ n. has_new n delta.objects) (sym (ap length c.objects.ensures)) ∙ ap (has_new (length c.objects.result.now)) (sym c.as_slice-else-not-is_empty.ensures) ∙ sym c.has_new.ensures ∙ new)

use Rattle.std.proofs.Common.{◌≡◌, ◌<◌, ◌≤◌, ◌-◌, length, Some, sym, ap, subst, ◌∙◌}
use Rattle.std.specs.Prelude.{slice_get}
use Rattle.std.specs.Option.{option_copied}
use Rattle.ob_heap.specs.contracts.overlay.Overlay.{the_view}
use Rattle.ob_heap.specs.Overlays.{Changes, laid_over}
use Rattle.ob_heap.proofs.OverlaysLemmas.{look_changed, look_kept, look_made}
use Rattle.ob_heap.proofs.overlay.Overlay.look.Goals as goal

pub returns-in-Some : goal.returns-in-Some
returns-in-Some c =
    let P : Changes → Type 0 = λ v. Some c.in-Some.object.now ≡ slice_get (laid_over c.args.base.now.objects v) c.args.id.0 in
    let h : c.args.id.0 < length c.args.base.now.objects = subst (λ os. c.args.id.0 < length os) c.objects-objects.ensures c.if-number-objects.true in
    subst P c.self.view_is (look_changed c.args.base.now.objects (the_view c.self.inside) c.args.id.0 c.in-Some.object.now h
    (sym c.get.ensures ∙ ap option_copied c.in-Some.is))

pub returns-in-None : goal.returns-in-None
returns-in-None c =
    let P : Changes → Type 0 = λ v. option_copied c.object.result ≡ slice_get (laid_over c.args.base.now.objects v) c.args.id.0 in
    let h : c.args.id.0 < length c.args.base.now.objects = subst (λ os. c.args.id.0 < length os) c.objects-objects.ensures c.if-number-objects.true in
    subst P c.self.view_is (c.object.ensures ∙ look_kept c.args.base.now.objects (the_view c.self.inside) c.args.id.0 h
    (sym c.get.ensures ∙ ap option_copied c.in-None.is))

pub returns-else-number-objects : goal.returns-else-number-objects
returns-else-number-objects c =
    let P : Changes → Type 0 = λ v. option_copied c.at.result ≡ slice_get (laid_over c.args.base.now.objects v) c.args.id.0 in
    let h : length c.args.base.now.objects ≤ c.args.id.0 = subst (λ os. length os ≤ c.args.id.0) c.objects-objects.ensures c.if-number-objects.false in
    subst P c.self.view_is (c.at.ensures
    ∙ ap (λ os. slice_get os (c.args.id.0 - length c.objects-objects.result.now)) c.as_slice.ensures.value
    ∙ ap (λ os. slice_get c.self.inside.made.items (c.args.id.0 - length os)) c.objects-objects.ensures
    ∙ look_made c.args.base.now.objects (the_view c.self.inside) c.args.id.0 h)

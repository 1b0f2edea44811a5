use Rattle.std.proofs.Common.{◌≡◌, ◌++◌, length, ap, sym, subst, ◌∙◌, arith}
use Rattle.ob_heap.specs.contracts.overlay.Overlay.{the_view}
use Rattle.ob_heap.specs.Ascending.{IsAscending}
use Rattle.ob_heap.specs.Overlays.{Changes, laid_over}
use Rattle.ob_heap.specs.Differences.{differing, other_objects, numbered_from, with_objects, AreOthers}
use Rattle.ob_heap.proofs.DifferencesLemmas.{differing_applied, differing_ascend, by_number}
use Rattle.ob_heap.proofs.OthersLemmas.{other_none, others_made}
use Rattle.ob_heap.proofs.overlay.Overlay.delta.Goals as goal

found_is : (c : goal.After-new) → c.add_made.new.found ≡ differing c.args.base.now.objects (the_view c.self.inside)
found_is c =
    let base = c.args.base.now.objects in
    let changed = c.self.inside.changed in
    c.in_ok-add_made.ensures
    ∙ ap (λ xs. xs ++ numbered_from (length c.objects-3.result.now) c.deref.result.now)
    (c.in_ok-add_others.ensures.found
    ∙ ap (λ xs. xs ++ other_objects c.objects.result.now changed) c.new-objects.ensures
    ∙ ap (λ os. other_objects os changed) c.objects.ensures)
    ∙ ap (λ os. other_objects base changed ++ numbered_from (length os) c.deref.result.now) c.objects-3.ensures
    ∙ ap (λ ms. other_objects base changed ++ numbered_from (length base) ms) c.deref.ensures.value

pub returns-clause-applied : goal.returns-clause-applied
returns-clause-applied c =
    let base = c.args.base.now.objects in
    let P : Changes → Type 0 = λ v. with_objects base c.add_made.new.found ≡ laid_over base v in
    subst P c.self.view_is (ap (with_objects base) (found_is c) ∙ differing_applied base (the_view c.self.inside) c.in_ok-add_others.ensures.order)

pub returns-clause-others : goal.returns-clause-others
returns-clause-others c =
    let base = c.args.base.now.objects in
    let long : length c.objects-3.result.now ≡ length base = ap length c.objects-3.ensures in
    let none : AreOthers c.objects.result.now c.new-objects.result = subst (AreOthers c.objects.result.now) (sym c.new-objects.ensures) (other_none c.objects.result.now) in
    others_made base c.add_others.new.found c.add_made.new.found (length c.objects-3.result.now) c.deref.result.now (omega (arith, long)) c.in_ok-add_made.ensures
    (subst (λ os. AreOthers os c.add_others.new.found) c.objects.ensures (c.in_ok-add_others.ensures.others none))

pub returns-clause-order : goal.returns-clause-order
returns-clause-order c =
    subst (IsAscending by_number) (sym (found_is c))
    (differing_ascend c.args.base.now.objects c.self.inside.changed c.self.inside.made.items c.in_ok-add_others.ensures.order)

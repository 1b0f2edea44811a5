use Rattle.std.proofs.Common.{◌+◌, ◌<◌, ◌≤◌, ◌-◌, length, subst, sym, ◌++◌}
use Rattle.std.specs.Result.{OnOk}
use Rattle.ob_heap.specs.Edits.{IsEdited}
use Rattle.ob_heap.specs.Overlays.{Changes, laid_over, laid_from, IsEditedOver, KeepsOthers}
use Rattle.ob_heap.specs.contracts.overlay.Overlay.{the_view}
use Rattle.ob_heap.proofs.OverlaysLemmas.{edited_in_base, edited_in_made, length_over}
use Rattle.ob_heap.proofs.UnreadLemmas.{others_in_base, others_in_made}
use Rattle.ob_heap.proofs.overlay.Overlay.edit.Goals as goal

pub returns-then-number-objects-clause-objects : goal.returns-then-number-objects-clause-objects
returns-then-number-objects-clause-objects c =
    let base = c.args.base.now.objects in
    let P : Changes → Type 0 = λ v. OnOk c.edit.result (IsEdited c.args.id.0 c.args.edit (laid_over base v) (laid_from c.edit.new.self 0 base ++ c.self.inside.made.items)) in
    let h : c.args.id.0 < length base = subst (λ os. c.args.id.0 < length os) c.objects-objects.ensures c.if-number-objects.true in
    subst P c.self.view_is
    (edited_in_base c.edit.result base c.args.id.0 c.args.edit c.self.inside.changed c.edit.new.self c.self.inside.made.items h
    (subst (λ os. OnOk c.edit.result (IsEditedOver os c.args.id.0 c.args.edit c.self.inside.changed c.edit.new.self)) c.objects-objects.ensures c.edit.ensures))

pub returns-else-number-objects-clause-objects : goal.returns-else-number-objects-clause-objects
returns-else-number-objects-clause-objects c =
    let base = c.args.base.now.objects in
    let P : Changes → Type 0 = λ v. OnOk c.edit_made.result (IsEdited c.args.id.0 c.args.edit (laid_over base v) (laid_from c.self.inside.changed 0 base ++ c.edit_made.new.made.items)) in
    let h : length base ≤ c.args.id.0 = subst (λ os. length os ≤ c.args.id.0) c.objects-objects.ensures c.if-number-objects.false in
    subst P c.self.view_is
    (edited_in_made c.edit_made.result base c.args.id.0 c.args.edit c.self.inside.changed c.self.inside.made.items c.edit_made.new.made.items h
    (subst (λ os. OnOk c.edit_made.result (IsEdited (c.args.id.0 - length os) c.args.edit c.self.inside.made.items c.edit_made.new.made.items)) c.objects-objects.ensures
    c.edit_made.ensures.edited))

pub returns-then-number-objects-clause-others : goal.returns-then-number-objects-clause-others
returns-then-number-objects-clause-others c =
    let base = c.args.base.now.objects in
    let old = the_view c.self.inside in
    let P : Changes → Type 0 = λ v. OnOk c.edit.result (KeepsOthers (length base) c.args.id.0 v (record old { changed = c.edit.new.self })) in
    let h : c.args.id.0 < length base = subst (λ os. c.args.id.0 < length os) c.objects-objects.ensures c.if-number-objects.true in
    subst P c.self.view_is
    (others_in_base c.edit.result base c.args.id.0 c.args.edit old c.edit.new.self h
    (subst (λ os. OnOk c.edit.result (IsEditedOver os c.args.id.0 c.args.edit c.self.inside.changed c.edit.new.self)) c.objects-objects.ensures c.edit.ensures))

pub returns-else-number-objects-clause-others : goal.returns-else-number-objects-clause-others
returns-else-number-objects-clause-others c =
    let base = c.args.base.now.objects in
    let old = the_view c.self.inside in
    let P : Changes → Type 0 = λ v. OnOk c.edit_made.result (KeepsOthers (length base) c.args.id.0 v (record old { made = c.edit_made.new.made.items })) in
    let h : length base ≤ c.args.id.0 = subst (λ os. length os ≤ c.args.id.0) c.objects-objects.ensures c.if-number-objects.false in
    let within : c.args.id.0 < length base + length c.self.inside.made.items =
    subst (λ k. c.args.id.0 < k) (length_over base old) (subst (λ v. c.args.id.0 < length (laid_over base v)) (sym c.self.view_is) c.requires) in
    subst P c.self.view_is
    (others_in_made c.edit_made.result (length base) c.args.id.0 c.args.edit old c.edit_made.new.made.items h within
    (subst (λ os. OnOk c.edit_made.result (IsEdited (c.args.id.0 - length os) c.args.edit c.self.inside.made.items c.edit_made.new.made.items)) c.objects-objects.ensures
    c.edit_made.ensures.edited))

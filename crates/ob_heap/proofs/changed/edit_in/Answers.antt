use Rattle.std.proofs.Common.{◌≡◌, ◌∙◌, sym, ap, subst, get_or, rules}
use Rattle.std.specs.Result.{OnOk}
use Rattle.ob_heap.specs.declared.object.Object.{Object}
use Rattle.ob_heap.specs.Overlays.{changed_at, IsEditedOver}
use Rattle.ob_heap.proofs.OverlaysLemmas.{lookup_changed, edited_there_ok, edited_copy}
use Rattle.ob_heap.proofs.changed.edit_in.Goals as goal

pub returns-in-Some : goal.returns-in-Some
returns-in-Some c =
    edited_there_ok c.change.result c.args.id c.args.edit c.args.base.now c.args.map.now.entries (c.get_mut.follows.lender c.change.new.object).entries
    c.in-Some.object.now c.change.new.object (sym (lookup_changed c.args.id c.args.map.now.entries) ∙ sym c.in-Some.ensures.value) c.change.ensures
    ((c.get_mut.follows.holds c.change.new.object).3 (search rules)).0

pub returns : goal.returns
returns c =
    let old = c.get_mut.follows.lender-at-none.entries in
    let same = c.get_mut.follows.holds-at-none in
    let P : Object → Type 0 = λ y. y ≡ get_or c.args.base.now c.args.id y in
    let e : c.in_ok-object.object ≡ c.index-base-id.result = c.in_ok-object.ensures in
    subst (λ m. OnOk c.put_in.result (IsEditedOver c.args.base.now c.args.id c.args.edit m.entries c.put_in.new.map.entries)) same
    (edited_copy c.put_in.result c.args.id c.args.edit c.args.base.now old c.put_in.new.map.entries c.in_ok-object.object c.change-2.new.object
    (ap (λ m. changed_at c.args.id m.entries) same ∙ sym (lookup_changed c.args.id c.args.map.now.entries) ∙ sym c.in_default.ensures.value)
    (subst P (sym e) c.index-base-id.is) c.requires c.in_ok-change.ensures c.put_in.ensures.ok)

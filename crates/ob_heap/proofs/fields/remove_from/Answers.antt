use Rattle.std.proofs.Common.{◌≡◌, true, ◌∙◌, ap, sym}
use Rattle.std.specs.List.{remove}
use Rattle.ob_heap.specs.Fields.{place_of, is_at}
use Rattle.ob_heap.proofs.FieldsLemmas.{without_value_remove}
use Rattle.ob_heap.proofs.fields.remove_from.Goals as goal

pub returns-then-has_at : goal.returns-then-has_at
returns-then-has_at c =
    let xs = c.args.items.now.items in
    let k = c.args.field in
    let at : c.place-place.result ≡ place_of k xs = c.place-place.ensures ∙ ap (place_of k) c.as_slice.ensures.value in
    let there : is_at k xs (place_of k xs) ≡ true =
    sym (ap (is_at k xs) at) ∙ sym (ap (λ ys. is_at k ys c.place-place.result) c.as_slice-2.ensures.value) ∙ sym c.has_at.ensures ∙ c.if-has_at.true in
    c.remove-removed.ensures.items ∙ ap (remove xs) at ∙ without_value_remove k xs there

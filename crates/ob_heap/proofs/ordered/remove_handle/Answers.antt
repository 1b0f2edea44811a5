use Rattle.std.proofs.Common.{◌≡◌, true, ◌∙◌, ap, sym}
use Rattle.std.specs.List.{remove}
use Rattle.ob_heap.specs.Contents.{name_of, place_of_name}
use Rattle.ob_heap.specs.Deltas.{is_name_at}
use Rattle.ob_heap.proofs.DeltasLemmas.{without_handle_remove}
use Rattle.ob_heap.proofs.ordered.remove_handle.Goals as goal

pub returns-then-has_at-clause-items : goal.returns-then-has_at-clause-items
returns-then-has_at-clause-items c =
    let xs = c.args.handles.now.items in
    let k = name_of c.args.name.now in
    let at : c.place_of-place.result ≡ place_of_name k xs = c.place_of-place.ensures ∙ ap (place_of_name k) c.as_slice.ensures.value in
    let there : is_name_at k xs (place_of_name k xs) ≡ true =
    sym (ap (is_name_at k xs) at) ∙ sym (ap (λ ys. is_name_at k ys c.place_of-place.result) c.as_slice-2.ensures.value) ∙ sym c.has_at.ensures ∙ c.if-has_at.true in
    c.remove-removed.ensures.items ∙ ap (remove xs) at ∙ without_handle_remove c.args.name.now xs c.requires there

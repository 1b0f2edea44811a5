use Rattle.std.proofs.Common.{rules, true≢false, ◌<◌, ◌≡◌, true, false, ◌∙◌, ap, sym, subst, ◌≤◌, length, get_or, set}
use Rattle.std.specs.List.{insert}
use Rattle.std.specs.Vec.{vec_capacity, vec_len}
use Rattle.ob_heap.specs.Contents.{name_of, place_of_name}
use Rattle.ob_heap.specs.Deltas.{is_name_at}
use Rattle.ob_heap.proofs.DeltasLemmas.{with_handle_set, with_handle_insert, with_handle_longer}
use Rattle.ob_heap.proofs.ordered.put_handle.Goals as goal

pub returns-then-has_at-clause-items : goal.returns-then-has_at-clause-items
returns-then-has_at-clause-items c =
    let xs = c.args.handles.now.items in
    let k = name_of c.args.name in
    let x = c.index_mut.result.now in
    let at : c.place_of-place.result ≡ place_of_name k xs = c.place_of-place.ensures ∙ ap (place_of_name k) c.as_slice.ensures.value in
    let there : is_name_at k xs (place_of_name k xs) ≡ true =
    sym (ap (is_name_at k xs) at) ∙ sym (ap (λ ys. is_name_at k ys c.place_of-place.result) c.as_slice-2.ensures.value) ∙ sym c.has_at.ensures ∙ c.if-has_at.true in
    ap (λ i. set xs i (x.0, c.args.handle)) at
    ∙ with_handle_set c.args.name c.args.handle xs x there (c.index_mut.ensures.value ∙ ap (λ i. get_or xs i x) at)

pub unreachable-requires : goal.unreachable-requires
unreachable-requires c =
    let xs = c.args.handles.now.items in
    let k = name_of c.args.name in
    let at : c.place_of-place.result ≡ place_of_name k xs = c.place_of-place.ensures ∙ ap (place_of_name k) c.as_slice.ensures.value in
    let other : is_name_at k xs (place_of_name k xs) ≡ false =
    sym (ap (is_name_at k xs) at) ∙ sym (ap (λ ys. is_name_at k ys c.place_of-place.result) c.as_slice-2.ensures.value) ∙ sym c.has_at.ensures ∙ c.if-has_at.false in
    let longer = with_handle_longer c.args.name c.args.handle xs other in
    let len : vec_len c.args.handles.now ≡ length xs = search rules in
    let room : length xs < vec_capacity c.args.handles.now = subst (λ n. n ≤ vec_capacity c.args.handles.now) longer c.requires.room in
    true≢false (sym (c.in-Err.ensures.succeeds (subst (λ n. n < vec_capacity c.args.handles.now) (sym len) room)))

pub returns-clause-items : goal.returns-clause-items
returns-clause-items c =
    let xs = c.args.handles.now.items in
    let k = name_of c.args.name in
    let at : c.place_of-place.result ≡ place_of_name k xs = c.place_of-place.ensures ∙ ap (place_of_name k) c.as_slice.ensures.value in
    let other : is_name_at k xs (place_of_name k xs) ≡ false =
    sym (ap (is_name_at k xs) at) ∙ sym (ap (λ ys. is_name_at k ys c.place_of-place.result) c.as_slice-2.ensures.value) ∙ sym c.has_at.ensures ∙ c.if-has_at.false in
    c.in-Ok.ensures.items ∙ ap (λ i. insert xs i (c.args.name, c.args.handle)) at ∙ with_handle_insert c.args.name c.args.handle xs other

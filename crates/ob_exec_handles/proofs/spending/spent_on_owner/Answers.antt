use Rattle.std.proofs.Common.{◌++◌, map, refl, ap, ◌∙◌}
use Rattle.std.specs.Prelude.{option_map, option_to_list}
use Rattle.ob_heap.specs.Contents.{content_of, handle_at}
use Rattle.ob_heap.specs.declared.object.Handle.{Handle}
use Rattle.ob_invocation_spec.specs.Handles.{handle_name, handle_reads}
use Rattle.ob_invocation_spec.specs.Showing.{place_item}
use Rattle.ob_owners.specs.Spots.{place_of, owner_place}
use Rattle.ob_exec_handles.specs.Spending.{item_of}
use Rattle.ob_exec_handles.proofs.SpendingLemmas.{owner_spends, bind_alike}
use Rattle.ob_exec_handles.proofs.spending.spent_on_owner.Goals as goal

pub returns : goal.returns
returns g c = λ table owners limits.
    let base = c.args.base.now in
    let name = handle_name c.args.who.now c.args.on.now in
    let place = option_map place_of c.in_ok-place.place in
    owner_spends table base name place (record { taken = 0; reads = c.read_place.new.reads })
    (c.in_ok-place.ensures
    ∙ bind_alike (handle_at name base.handles) (λ (h : Handle). g.I.Index.owner c.args.index.now h.object.0)
    (λ (h : Handle). owner_place table (content_of base) h.object.0) (λ h. owners h.object.0)) (
      refl,
      c.in_ok-read_place.ensures
          ∙ ap (λ rs. rs ++ option_to_list (option_map place_item place)) c.in_ok-read_handle.ensures.reads
          ∙ ap (λ xs. (map item_of xs ++ handle_reads (content_of base) name) ++ option_to_list (option_map place_item place)) c.new-reads.ensures,
    )
    limits

use Rattle.std.proofs.Common.{◌∙◌, ap}
use Rattle.ob_heap.specs.Deltas.{with_handles}
use Rattle.ob_heap.specs.Differences.{with_objects}
use Rattle.ob_code_table.specs.ImageTables.{table_of_image}
use Rattle.ob_store.proofs.Opened.{followed}
use Rattle.ob_explain_store.proofs.replaying.follow.Goals as goal

pub returns : goal.returns
returns c =
    let before = c.args.content.now in
    let delta = c.in_ok-delta.delta in
    let objects = c.apply.ensures.objects ∙ ap (λ os. with_objects os delta.objects) c.reserve.ensures.objects in
    let handles = c.apply.ensures.handles ∙ ap (λ hs. with_handles hs delta.handles) c.reserve.ensures.handles in
    (followed (table_of_image c.args.code.now) before c.apply.new.content delta c.args.payload.now c.in_ok-delta.ensures.says c.in_ok-delta.ensures.objects c.requires objects handles).kept

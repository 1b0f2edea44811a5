use Rattle.std.proofs.Common.{◌∙◌, ap}
use Rattle.std.proofs.lemmas.Result.{err_from_is_err_and}
use Rattle.ob_heap.specs.Contents.{content_of}
use Rattle.ob_heap.specs.Deltas.{with_handles}
use Rattle.ob_heap.specs.Differences.{with_objects}
use Rattle.ob_code_table.specs.ImageTables.{table_of_image}
use Rattle.ob_store.proofs.Opened.{followed, not_followed}
use Rattle.ob_store.proofs.opening.follow.Goals as goal

pub returns-in_err-delta : goal.returns-in_err-delta
returns-in_err-delta c =
    let failed = err_from_is_err_and c.from_residual.result c.from_residual.ensures.1 in
    let before = content_of c.args.content.now in
    rw (failed.1, failed.2) (not_followed (table_of_image c.args.code.now) before before c.args.payload.now c.read_payload.result _ c.in_err-delta.was c.read_payload.ensures.bad)

pub returns : goal.returns
returns c =
    let before = c.args.content.now in
    let delta = c.in_ok-delta.delta in
    let objects = c.apply.ensures.objects ∙ ap (λ os. with_objects os delta.objects) c.reserve.ensures.objects in
    let handles = c.apply.ensures.handles ∙ ap (λ hs. with_handles hs delta.handles) c.reserve.ensures.handles in
    followed (table_of_image c.args.code.now) before c.apply.new.content delta c.args.payload.now c.in_ok-delta.ensures.says c.in_ok-delta.ensures.objects c.requires objects handles

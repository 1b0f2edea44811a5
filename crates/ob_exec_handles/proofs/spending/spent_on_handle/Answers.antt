use Rattle.std.proofs.Common.{◌++◌, map, refl, ap, ◌∙◌}
use Rattle.ob_heap.specs.Contents.{content_of}
use Rattle.ob_invocation_spec.specs.Handles.{handle_name, handle_reads}
use Rattle.ob_exec_handles.specs.Spending.{item_of}
use Rattle.ob_exec_handles.proofs.spending.spent_on_handle.Goals as goal

pub returns : goal.returns
returns c = (
  refl,
  c.in_ok-read_handle.ensures.reads
      ∙ ap (λ xs. map item_of xs ++ handle_reads (content_of c.args.base.now) (handle_name c.args.who.now c.args.on.now)) c.new-reads.ensures,
)

use Rattle.std.proofs.Common.{◌++◌, map, ap, ◌∙◌}
use Rattle.ob_heap.specs.Contents.{content_of}
use Rattle.ob_exec_handles.specs.Spending.{item_of}
use Rattle.ob_exec.specs.Reading.{new_reads}
use Rattle.ob_exec.proofs.reading.read_new.Goals as goal

pub returns : goal.returns
returns c =
    c.in_ok-read_asked.ensures
    ∙ ap (λ xs. map item_of xs ++ new_reads (content_of c.args.content.now) c.args.who.now c.args.args.now c.args.into.now c.args.why) c.new-reads.ensures

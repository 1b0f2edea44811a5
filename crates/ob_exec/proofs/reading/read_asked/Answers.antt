use Rattle.std.proofs.Common.{◌++◌, map, ap, ◌∙◌}
use Rattle.std.proofs.lemmas.Result.{on_ok_weaker}
use Rattle.ob_heap.specs.Contents.{content_of}
use Rattle.ob_exec_handles.specs.Spending.{item_of}
use Rattle.ob_exec.specs.Reading.{read_then, into_reads}
use Rattle.ob_exec.proofs.reading.read_asked.Goals as goal

pub returns : goal.returns
returns c =
    let content = content_of c.args.content.now in
    let who = c.args.who.now in
    let rest = into_reads who c.args.into.now c.args.why in
    on_ok_weaker c.read_into.result
    (λ e. e ∙ c.in_ok-there.ensures rest ∙ ap (λ args. map item_of c.args.reads.now ++ read_then content who args rest) c.as_slice.ensures)
    c.read_into.ensures

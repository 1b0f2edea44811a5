use Rattle.std.proofs.Common.{◌++◌, map, not, ap, ◌∙◌}
use Rattle.ob_heap.specs.Contents.{content_of}
use Rattle.ob_invocation_spec.specs.Handles.{handle_name, handle_reads}
use Rattle.ob_exec_handles.specs.Spending.{item_of}
use Rattle.ob_exec.specs.Reading.{new_reads}
use Rattle.ob_exec.proofs.ReadingLemmas.{call_stops, call_goes_on}
use Rattle.ob_exec.proofs.reading.read_call.Goals as goal

pub returns-then-not-branch : goal.returns-then-not-branch
returns-then-not-branch c =
    let content = content_of c.args.content.now in
    c.in_ok-read_handle.ensures.reads
    ∙ ap (λ xs. map item_of xs ++ handle_reads content (handle_name c.args.who.now c.args.on.now)) c.new-reads.ensures
    ∙ call_stops content c.args.who.now c.args.on.now c.args.args.now c.args.into.now c.args.why c.in_ok-read_handle.field-0 c.in_ok-read_handle.ensures.there
    (ap not c.if-not-branch.true)

pub returns : goal.returns
returns c =
    let content = content_of c.args.content.now in
    let rest = new_reads content c.args.who.now c.args.args.now c.args.into.now c.args.why in
    c.in_ok-read_asked.ensures
    ∙ ap (λ rs. rs ++ rest)
    (c.in_ok-read_handle.ensures.reads
    ∙ ap (λ xs. map item_of xs ++ handle_reads content (handle_name c.args.who.now c.args.on.now)) c.new-reads.ensures)
    ∙ call_goes_on content c.args.who.now c.args.on.now c.args.args.now c.args.into.now c.args.why c.in_ok-read_handle.field-0
    c.in_ok-read_handle.ensures.there (ap not c.if-not-branch.false)

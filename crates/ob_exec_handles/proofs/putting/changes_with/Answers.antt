use Rattle.std.proofs.Common.{rules, ap, ◌∙◌}
use Rattle.ob_heap.specs.Contents.{IsInOrder}
use Rattle.ob_exec_handles.specs.Putting.{changes_by, other_puts}
use Rattle.ob_exec_handles.proofs.PuttingLemmas.{puts_lead}
use Rattle.ob_exec_handles.proofs.putting.changes_with.Goals as goal

pub returns : goal.returns
returns c =
    let before : IsInOrder c.args.base.now.handles = search rules in
    puts_lead c.args.base.now.handles c.in_ok-last.last.items c.args.puts.now c.in_ok-changes.changes before c.in_ok-last.ensures.order
    c.in_ok-last.ensures.last
    (c.in_ok-changes.ensures ∙ ap (λ hs. changes_by (other_puts c.args.base.now.handles hs)) c.as_slice.ensures.value)

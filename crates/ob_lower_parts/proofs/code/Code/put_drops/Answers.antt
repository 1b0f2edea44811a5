use Rattle.std.proofs.Common.{sym, ◌∙◌}
use Rattle.ob_lower_parts.proofs.CodeLemmas.{drops-step, drops-all}
use Rattle.ob_lower_parts.proofs.code.Code.put_drops.Goals as goal

pub loop-slot-preserved : goal.loop-slot-preserved
loop-slot-preserved c =
    let l = c.loop-slot in
    rw c.in_ok-put_drop.ensures (drops-step l.self c.args.slots.now l.slot-index c.args.span c.loop-slot-test.true
    ∙ l.invariant)

pub returns : goal.returns
returns c =
    let l = c.loop-slot in
    sym (drops-all l.self c.args.slots.now l.slot-index c.args.span c.loop-slot-test.false) ∙ l.invariant

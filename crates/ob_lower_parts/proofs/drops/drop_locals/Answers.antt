use Rattle.std.proofs.Common.{◌-◌, sym, ◌∙◌, arith}
use Rattle.ob_lower_parts.proofs.DropsLemmas.{between-step, between-none}
use Rattle.ob_lower_parts.proofs.drops.drop_locals.Goals as goal

pub loop-slot-preserved : goal.loop-slot-preserved
loop-slot-preserved c =
    let l = c.loop-slot in
    rw c.in_ok-put_drop.ensures (between-step l.out c.args.low (l.slot - 1) l.slot c.args.span (omega arith) (omega arith)
    ∙ l.invariant)

pub returns : goal.returns
returns c =
    let l = c.loop-slot in
    sym (between-none l.out c.args.low l.slot c.args.span (omega arith)) ∙ l.invariant

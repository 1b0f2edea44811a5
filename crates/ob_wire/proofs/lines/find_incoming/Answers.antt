use Rattle.ob_wire.proofs.IncomingLaws.{reads_value, reads_none}
use Rattle.ob_wire.proofs.lines.find_incoming.Goals as goal

pub returns-in-Ok : goal.returns-in-Ok
returns-in-Ok c = reads_value _ _ c.incoming_in.result c.in-Ok.ensures.ok.0 c.in-Ok.ensures.ok.1 c.incoming_in.ensures

pub returns-else-is_memory : goal.returns-else-is_memory
returns-else-is_memory c = reads_none c.args.line.now (c.in-Err.ensures.err (λ m. let t = rw c.if-is_memory.false at (c.is_memory.ensures.1 m) in cc))

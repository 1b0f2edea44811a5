use Rattle.ob_wire.proofs.IncomingLaws.{reads_none}
use Rattle.ob_client.proofs.ReplyLines.{reads_value}
use Rattle.ob_client.proofs.replies.find_reply.Goals as goal

pub told-requires : goal.told-requires
told-requires c = c.in-Ok.ensures.nests

pub returns-in-Ok : goal.returns-in-Ok
returns-in-Ok c = reads_value c.told.result _ _ c.in-Ok.ensures.ok.0 c.in-Ok.ensures.ok.1 c.told.ensures

pub returns-else-is_memory : goal.returns-else-is_memory
returns-else-is_memory c = reads_none c.args.line.now (c.in-Err.ensures.err (λ m. let t = rw c.if-is_memory.false at (c.is_memory.ensures.1 m) in cc))

use Rattle.std.proofs.Common.{arith}
use Rattle.ob_resolve_members.proofs.DistinctTurns.{limit_end}
use Rattle.ob_resolve_members.proofs.distinct.note_limit.Goals as goal

pub returns : goal.returns
returns c = limit_end _ _ _ c.args.most c.args.names.now c.loop-index.index (omega arith) c.loop-index.invariant.sites

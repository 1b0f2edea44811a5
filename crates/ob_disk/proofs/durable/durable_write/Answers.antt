use Rattle.std.proofs.Common.{length}
use Rattle.ob_disk_spec.proofs.Behind.{behind_write, behind_quiet, behind_then}
use Rattle.ob_disk_spec.proofs.Moments.{written, quiet, during_then}
use Rattle.ob_disk.proofs.durable.durable_write.Goals as goal

pub returns-in_err-write-clause-crash : goal.returns-in_err-write-clause-crash
returns-in_err-write-clause-crash g c = written _ _ c.args.at (length c.args.bytes.now) c.write.ensures.torn

pub returns-clause-crash : goal.returns-clause-crash
returns-clause-crash g c =
    let torn = written _ _ c.args.at (length c.args.bytes.now) c.write.ensures.torn in during_then _ _ _ _ torn (quiet _ _ _ c.sync.ensures.quiet torn.now)

pub returns-in_err-write-clause-behind : goal.returns-in_err-write-clause-behind
returns-in_err-write-clause-behind g c = λ size within. behind_write size _ _ _ _ within c.write.ensures.torn

pub returns-clause-behind : goal.returns-clause-behind
returns-clause-behind g c = λ size within. behind_then size _ _ _ (behind_write size _ _ _ _ within c.write.ensures.torn) (behind_quiet size _ _ c.sync.ensures.quiet)

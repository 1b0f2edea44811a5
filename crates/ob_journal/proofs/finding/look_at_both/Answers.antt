use Rattle.std.proofs.Common.{◌∙◌}
use Rattle.ob_disk_spec.proofs.Behind.{behind_then}
use Rattle.ob_journal.proofs.finding.look_at_both.Goals as goal

pub returns-clause-current : goal.returns-clause-current
returns-clause-current g c = λ c' reads. c.choose.ensures c.args.area c' (c.in_ok-one.ensures.head c' reads) (c.in_ok-other.ensures.head c' (c.in_ok-one.ensures.same ∙ reads))

pub returns-in_err-one-clause-behind : goal.returns-in_err-one-clause-behind
returns-in_err-one-clause-behind g c = λ size. c.look.ensures.behind size

pub returns-in_err-other-clause-behind : goal.returns-in_err-other-clause-behind
returns-in_err-other-clause-behind g c = λ size. behind_then size _ _ _ (c.look.ensures.behind size) (c.look-2.ensures.behind size)

pub returns-clause-behind : goal.returns-clause-behind
returns-clause-behind g c = λ size. behind_then size _ _ _ (c.look.ensures.behind size) (c.look-2.ensures.behind size)

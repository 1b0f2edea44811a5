use Rattle.std.proofs.Common.{List, ℕ, length, drop, ap, ◌∙◌, arith, length-drop}
use Rattle.ob_disk_spec.proofs.Behind.{behind_quiet, behind_then}
use Rattle.ob_journal.proofs.Opens.{looks}
use Rattle.ob_journal.proofs.beginning.is_closed.Goals as goal

pub returns-then-count-at-clause-looks : goal.returns-then-count-at-clause-looks
returns-then-count-at-clause-looks g c = λ c' reads rest is.
    let count = c.in_ok-count.ensures.length c' reads in omega (arith, count, c.if-count-at.true, ap (λ (l : List ℕ). length l) is, length-drop c.args.at c')

pub returns-clause-looks : goal.returns-clause-looks
returns-clause-looks g c = λ c' reads.
    let count = c.in_ok-count.ensures.length c' reads in
    looks (drop c.args.at c') c.read.new.into (λ none. omega (arith, count, c.if-count-at.false, none, length-drop c.args.at c')) (c.in_ok-read.ensures.bytes c' (c.in_ok-count.ensures.same ∙ reads))

pub returns-in_err-count-clause-behind : goal.returns-in_err-count-clause-behind
returns-in_err-count-clause-behind g c = λ size. behind_quiet size _ _ c.len.ensures.quiet

pub returns-then-count-at-clause-behind : goal.returns-then-count-at-clause-behind
returns-then-count-at-clause-behind g c = λ size. behind_quiet size _ _ c.len.ensures.quiet

pub returns-in_err-read-clause-behind : goal.returns-in_err-read-clause-behind
returns-in_err-read-clause-behind g c = λ size. behind_then size _ _ _ (behind_quiet size _ _ c.len.ensures.quiet) (behind_quiet size _ _ c.read.ensures.quiet)

pub returns-clause-behind : goal.returns-clause-behind
returns-clause-behind g c = λ size. behind_then size _ _ _ (behind_quiet size _ _ c.len.ensures.quiet) (behind_quiet size _ _ c.read.ensures.quiet)

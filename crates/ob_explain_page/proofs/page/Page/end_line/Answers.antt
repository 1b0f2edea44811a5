use Rattle.std.proofs.Common.{arith}
use Rattle.ob_explain_page.proofs.PageLemmas.{with_end}
use Rattle.ob_explain_page.proofs.page.Page.end_line.Goals as goal

pub invariant_of-self-then-self-lt-MOST_LINES : goal.invariant_of-self-then-self-lt-MOST_LINES
invariant_of-self-then-self-lt-MOST_LINES c = record {
  bound = rw c.in_ok-push.ensures.bytes (with_end _ _ _ c.args.self.now.bound c.if-self-lt-MOST_LINES.true);
  room = λ some. omega arith;
}

use Rattle.ob_explain_page.proofs.PageLemmas.{with_sign}
use Rattle.ob_explain_page.proofs.page.Page.put_char.Goals as goal

pub invariant_of-self-then-sign-ne10 : goal.invariant_of-self-then-sign-ne10
invariant_of-self-then-sign-ne10 c = record {
  bound = rw c.in_ok-push.ensures.bytes (with_sign _ _ _ c.args.sign c.args.self.now.bound c.if-sign-ne10.true c.if-self-lt-MOST_LINES.true c.if-self-lt-MOST_COLUMNS.true);
  room = λ some. c.if-self-lt-MOST_LINES.true;
}

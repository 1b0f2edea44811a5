use Rattle.std.proofs.Common.{arith}
use Rattle.ob_explain_page.proofs.PageLemmas.{whole}
use Rattle.ob_explain_page.proofs.page.Page.into_text.Goals.{then-self-gt0+in_ok-end_line, else-self-gt0}
use Rattle.ob_explain_page.proofs.page.Page.into_text.Goals as goal

pub returns : goal.returns
returns c = whole _ _ _ c.if-self-gt0.self.bound (elim c.if-self-gt0.branch [
  | then-self-gt0+in_ok-end_line w ↦ rw w.self-is (w.in_ok-end_line.ensures (c.args.self.room w.if-self-gt0.true))
  | else-self-gt0 w ↦ rw w.self-is (omega arith)
])

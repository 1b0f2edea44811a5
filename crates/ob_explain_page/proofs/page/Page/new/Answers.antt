use Rattle.std.proofs.Common.{arith}
use Rattle.ob_explain_page.proofs.PageLemmas.{blank}
use Rattle.ob_explain_page.proofs.page.Page.new.Goals as goal

pub invariant_of-result : goal.invariant_of-result
invariant_of-result c = record { bound = rw c.new.ensures.bytes blank; room = λ some. omega arith }

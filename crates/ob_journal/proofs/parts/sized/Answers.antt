use Rattle.std.proofs.Common.{sym, ◌∙◌, arith}
use Rattle.ob_journal.proofs.Headers.{sized_there}
use Rattle.ob_journal.proofs.parts.sized.Goals as goal

pub returns : goal.returns
returns c =
    sized_there c.args.bytes.now _ c.behind-rest.result.now _ c.in-Ok.count (omega arith) (sym c.new-fields.ensures.left ∙ c.in-Ok.ensures.value.front) c.behind-rest.ensures (omega (arith, c.if-count-rest.false)) c.behind.ensures

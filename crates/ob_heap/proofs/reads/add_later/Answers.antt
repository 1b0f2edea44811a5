use Rattle.std.proofs.Common.{sym, ◌∙◌}
use Rattle.ob_heap.proofs.OverlaysLemmas.{read_again, read_last}
use Rattle.ob_heap.proofs.reads.add_later.Goals as goal

pub returns-then-eq : goal.returns-then-eq
returns-then-eq c = sym (read_again c.args.number c.args.later.now.keys
    (sym c.last.ensures.key ∙ sym c.copied.ensures ∙ read_last c.copied.result c.args.number (sym c.eq.ensures ∙ c.if-eq.true)))

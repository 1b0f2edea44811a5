use Rattle.std.proofs.Common.{ap, sym, ◌∙◌}
use Rattle.std.specs.Prelude.{not}
use Rattle.ob_heap.proofs.OthersLemmas.{differ_told}
use Rattle.ob_heap.proofs.same.differs.Goals as goal

pub returns-clause-plain : goal.returns-clause-plain
returns-clause-plain c =
    λ t. differ_told c.args.one.now c.args.other.now c.count-one.ensures.order c.count-other.ensures.order (sym (ap not c.is_same.ensures) ∙ t)

use Rattle.ob_silica_kinds.specs.Kinds.{kinds_of}
use Rattle.ob_silica_kinds.proofs.LeavingLemmas.{left_turn, left_done}
use Rattle.ob_silica_kinds.proofs.leaving.+leave.Goals as goal

pub leave_terms-loop-term-preserved : goal.leave_terms-loop-term-preserved
leave_terms-loop-term-preserved t c =
    left_turn c.args.terms.now c.loop-term.term-index c.term-item.result (kinds_of c.loop-term.slots) (kinds_of c.leave_form.new.slots) _
    c.loop-term-test.true c.term-item.is c.leave_form.ensures c.loop-term.invariant

pub leave_terms-returns : goal.leave_terms-returns
leave_terms-returns t c =
    left_done c.args.terms.now c.loop-term.term-index (kinds_of c.loop-term.slots) _ c.loop-term-test.false c.loop-term.invariant

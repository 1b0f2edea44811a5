use Rattle.ob_silica_kinds.specs.Kinds.{kinds_of}
use Rattle.ob_silica_kinds.proofs.TermsLemmas.{ends_turn, kinds_turn, kinds_done}
use Rattle.ob_silica_kinds.proofs.passing.+pass.Goals as goal

pub pass_terms-loop-term-preserved : goal.pass_terms-loop-term-preserved
pass_terms-loop-term-preserved t c =
    let l = c.loop-term in
    let r = c.in_ok-last.ensures in
    record {
      ends = ends_turn c.args.terms.now l.term-index c.term-item.result l.ends c.in_ok-last.last c.either-ends.result
          c.loop-term-test.true c.term-item.is r.ends c.either-ends.ensures l.invariant.ends;
      kinds = kinds_turn c.args.frame.now c.args.terms.now l.term-index c.term-item.result (kinds_of l.kinds.slots)
          (kinds_of c.pass_form.new.kinds.slots) _ c.loop-term-test.true c.term-item.is r.kinds l.invariant.kinds;
    }

pub pass_terms-returns-clause-kinds : goal.pass_terms-returns-clause-kinds
pass_terms-returns-clause-kinds t c =
    kinds_done c.args.frame.now c.args.terms.now c.loop-term.term-index (kinds_of c.loop-term.kinds.slots) _
    c.loop-term-test.false c.loop-term.invariant.kinds

use Rattle.std.proofs.Common.{◌≡◌, ◌∙◌, sym, ap, drop, arith}
use Rattle.std.specs.Prelude.{is_some}
use Rattle.ob_silica.specs.TermsView.{form_of, terms_of}
use Rattle.ob_silica_kinds.specs.Kinds.{kinds_of}
use Rattle.ob_silica_kinds.specs.Asking.{form_holds, terms_asked}
use Rattle.ob_silica_kinds.proofs.AskingLemmas.{one_asked, is_settled, unless_asked}
use Rattle.ob_silica_kinds.proofs.asking.+ask.Goals as goal

pub ask_terms-loop-index-preserved : goal.ask_terms-loop-index-preserved
ask_terms-loop-index-preserved t c =
    let left = kinds_of c.args.left.now in
    let i = c.loop-index.index in
    let term = c.index-terms-index.result in
    record {
      within = omega arith;
      asked = is_settled c.loop-index.holds (λ j. form_holds left c.args.frame.now c.args.kind (form_of term.form) j) c.in_default.not-As
          ∙ one_asked left c.args.frame.now c.args.kind c.args.terms.now i c.args.slot term c.loop-index.holds c.loop-index-test.true
          c.loop-index.invariant.within c.index-terms-index.is c.loop-index.invariant.asked;
    }

pub ask_terms-returns : goal.ask_terms-returns
ask_terms-returns t c =
    let left = kinds_of c.args.left.now in
    let done : c.loop-index.index ≡ 0 = omega (arith, c.loop-index-test.false) in
    c.loop-index.invariant.asked
    ∙ ap (λ n. terms_asked left c.args.frame.now c.args.kind (terms_of (drop n c.args.terms.now)) c.args.slot) done
    ∙ unless_asked left c.args.slot (terms_asked left c.args.frame.now c.args.kind (terms_of c.args.terms.now) c.args.slot)
    (sym (ap (λ o. is_some o) c.kind_in.ensures) ∙ sym c.is_some.ensures ∙ c.if-is_some.false)

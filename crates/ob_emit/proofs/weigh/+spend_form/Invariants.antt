use Rattle.std.proofs.Common.{◌≡◌, ◌+◌, drop}
use Rattle.ob_silica.specs.TermsView.{terms_of}
use Rattle.ob_emit_spec.specs.Weights.{weight_of_terms}
use Rattle.ob_weight_laws.specs.Lines.{LinesFit}
use Rattle.ob_emit.proofs.weigh.+spend_form.Given as goal

abbrev pub invariant-spend_terms-loop-term : goal.invariant-spend_terms-loop-term
invariant-spend_terms-loop-term l = record {
  left : l.left + weight_of_terms (terms_of l.terms) ≡ l.fn.left + weight_of_terms (terms_of (drop l.term-index l.terms));
  lines : LinesFit (terms_of (drop l.term-index l.terms)) → LinesFit (terms_of l.terms);
}

use Rattle.std.proofs.Common.{◌≡◌, drop}
use Rattle.std.specs.Prelude.{max}
use Rattle.ob_silica.specs.TermsView.{terms_of}
use Rattle.ob_emit_spec.specs.Emission.{scratch_of_terms}
use Rattle.ob_emit.proofs.scratch.+scratch_of_form.Given as goal

abbrev pub invariant-of_terms-loop-term : goal.invariant-of_terms-loop-term
invariant-of_terms-loop-term l =
    max l.most (scratch_of_terms (terms_of (drop l.term-index l.terms))) ≡ scratch_of_terms (terms_of l.terms)

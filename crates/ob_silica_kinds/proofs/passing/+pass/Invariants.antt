use Rattle.std.proofs.Common.{◌≡◌, drop}
use Rattle.std.specs.Prelude.{◌||◌}
use Rattle.ob_silica.specs.TermsView.{terms_of}
use Rattle.ob_silica_formed.specs.Holdings.{terms_end}
use Rattle.ob_silica_kinds.specs.Kinds.{kinds_of, kinds_after}
use Rattle.ob_silica_kinds.proofs.passing.+pass.Given as goal

abbrev pub invariant-pass_terms-loop-term : goal.invariant-pass_terms-loop-term
invariant-pass_terms-loop-term l = record {
  ends : (l.ends || terms_end (terms_of (drop l.term-index l.terms))) ≡ terms_end (terms_of l.terms);
  kinds : kinds_after l.frame (terms_of (drop l.term-index l.terms)) (kinds_of l.kinds.slots)
      ≡ kinds_after l.frame (terms_of l.terms) (kinds_of l.fn.kinds.slots);
}

use Rattle.std.proofs.Common.{◌≡◌, drop}
use Rattle.ob_silica.specs.TermsView.{terms_of}
use Rattle.ob_silica_formed.specs.Holdings.{terms_end}
use Rattle.ob_silica_kinds.proofs.ends.+ends.Given as goal

abbrev pub invariant-terms_end-loop-term : goal.invariant-terms_end-loop-term
invariant-terms_end-loop-term l = terms_end (terms_of (drop l.term-index l.terms)) ≡ terms_end (terms_of l.terms)

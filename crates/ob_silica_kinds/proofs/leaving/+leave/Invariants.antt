use Rattle.std.proofs.Common.{◌≡◌, drop}
use Rattle.ob_silica.specs.TermsView.{terms_of}
use Rattle.ob_silica_kinds.specs.Kinds.{kinds_of}
use Rattle.ob_silica_kinds.specs.Leaving.{left_by}
use Rattle.ob_silica_kinds.proofs.leaving.+leave.Given as goal

abbrev pub invariant-leave_terms-loop-term : goal.invariant-leave_terms-loop-term
invariant-leave_terms-loop-term l =
    left_by (terms_of (drop l.term-index l.terms)) (kinds_of l.slots) ≡ left_by (terms_of l.terms) (kinds_of l.fn.slots)

use Rattle.std.proofs.Common.{◌≡◌, ◌≤◌, drop, length}
use Rattle.ob_silica.specs.TermsView.{terms_of}
use Rattle.ob_silica_kinds.specs.Kinds.{kinds_of}
use Rattle.ob_silica_kinds.specs.Asking.{terms_asked}
use Rattle.ob_silica_kinds.proofs.asking.+ask.Given as goal

abbrev pub decreases-ask_terms-loop-index : goal.decreases-ask_terms-loop-index
decreases-ask_terms-loop-index l = l.index

abbrev pub invariant-ask_terms-loop-index : goal.invariant-ask_terms-loop-index
invariant-ask_terms-loop-index l = record {
  within : l.index ≤ length l.terms;
  asked : l.holds ≡ terms_asked (kinds_of l.left) l.frame l.kind (terms_of (drop l.index l.terms)) l.slot;
}

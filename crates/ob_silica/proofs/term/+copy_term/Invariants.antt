use Rattle.std.proofs.Common.{◌≡◌, take}
use Rattle.ob_silica.proofs.term.+copy_term.Given as goal

-- what has been gone over is copied
abbrev pub invariant-copy_terms-loop-term : goal.invariant-copy_terms-loop-term
invariant-copy_terms-loop-term l = l.copies ≡ take l.term-index l.terms

use Rattle.std.proofs.Common.{◌≡◌, drop}
use Rattle.std.specs.Prelude.{◌||◌}
use Rattle.ob_silica.specs.TermsView.{terms_of}
use Rattle.ob_silica_formed.specs.Holdings.{terms_end}
use Rattle.ob_silica_kinds.specs.Kinds.{kinds_of, kinds_after}
use Rattle.ob_emit.specs.Making.{terms_made}
use Rattle.ob_emit.proofs.terms.+emit.Given as goal

abbrev pub invariant-emit_terms-loop-term : goal.invariant-emit_terms-loop-term
invariant-emit_terms-loop-term l = record {
  ends : (l.ends || terms_end (terms_of (drop l.term-index l.terms))) ≡ terms_end (terms_of l.terms);
  kinds : kinds_after l.frame.static (terms_of (drop l.term-index l.terms)) (kinds_of l.kinds.slots)
      ≡ kinds_after l.frame.static (terms_of l.terms) (kinds_of l.fn.kinds.slots);
  code : terms_made l.frame (kinds_of l.kinds.slots) (terms_of (drop l.term-index l.terms)) l.out
      ≡ terms_made l.frame (kinds_of l.fn.kinds.slots) (terms_of l.terms) l.fn.out;
}

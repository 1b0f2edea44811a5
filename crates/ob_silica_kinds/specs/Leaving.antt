-- What is known of the slots that terms leave alone (this project's own).
use Rattle.std.specs.Prelude.{None}
use Rattle.ob_silica.specs.Terms.{SilicaForm, test_form, if_form, loop_form, SilicaTerms, no_terms, and_term}
use Rattle.ob_silica_formed.specs.Holdings.{slot_written}
use Rattle.ob_silica_kinds.specs.Kinds.{Kinds, with_kind}

abbrev mutual
  -- the kinds, where nothing is known of the slots that a form sets or ends
  pub left_by_form : SilicaForm → Kinds → Kinds
  left_by_form (test_form place state branch other join) kinds = left_by other (left_by branch kinds)
  left_by_form (if_form place branch other join) kinds = left_by other (left_by branch kinds)
  left_by_form (loop_form first a body end) kinds = left_by body (left_by first kinds)
  left_by_form form kinds = with_kind (slot_written form) None kinds

  -- the same of terms
  pub left_by : SilicaTerms → Kinds → Kinds
  left_by no_terms kinds = kinds
  left_by (and_term form span rest) kinds = left_by rest (left_by_form form kinds)

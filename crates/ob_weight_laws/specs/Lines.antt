-- The lines of operations, each of which an image says in 32 bits.
use Rattle.std.specs.Prelude.{◌<◌, ◌^◌, List, [], ◌∷◌, ⊤}
use Rattle.ob_silica.specs.Terms.{SilicaForm, op_form, test_form, if_form, loop_form, SilicaTerms, no_terms, and_term, SilicaBody}

abbrev mutual
  -- 32 bits say the line of a form, and those in its branches or in the parts of a loop
  pub FormLinesFit : SilicaForm → Type 0
  FormLinesFit (op_form k operator a b line) = line < 2 ^ 32
  FormLinesFit (test_form place state branch other join) = LinesFit branch × LinesFit other
  FormLinesFit (if_form a branch other join) = LinesFit branch × LinesFit other
  FormLinesFit (loop_form first a body end) = LinesFit first × LinesFit body
  FormLinesFit form = ⊤

  -- 32 bits say each line of terms
  pub LinesFit : SilicaTerms → Type 0
  LinesFit no_terms = ⊤
  LinesFit (and_term form span rest) = FormLinesFit form × LinesFit rest

-- 32 bits say each line of the terms of bodies
abbrev pub AllLinesFit : List SilicaBody → Type 0
AllLinesFit [] = ⊤
AllLinesFit (b ∷ bs) = LinesFit b.terms × AllLinesFit bs

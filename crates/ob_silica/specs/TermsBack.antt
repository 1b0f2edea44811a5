-- The terms of a body that plain data represents.
use Rattle.std.specs.Prelude.{◌≡◌, List, [], ◌∷◌}
use Rattle.std.specs.Coded.{Coded, coded_list, code_by}
use Rattle.std.proofs.Common.{ap, ◌∙◌, refl}
use Rattle.ob_silica.specs.Terms.{SilicaForm, unit_form, const_form, op_form, copy_form, move_form, new_form, call_form, call_this_form, change_form, test_form, if_form, loop_form, assert_form, disown_form, drop_form, return_form, revert_form, bad_row_form, SilicaTerms, no_terms, and_term, SilicaBody}
use Rattle.ob_silica.specs.TermsView.{form_of, terms_of, silica_body_of, form_of-Unit, form_of-Const, form_of-Op, form_of-Copy, form_of-Move, form_of-New, form_of-Call, form_of-CallThis, form_of-Change, form_of-Test, form_of-If, form_of-Loop, form_of-Assert, form_of-Disown, form_of-Drop, form_of-Return, form_of-Revert, form_of-BadRow, term_of-fields}
use Rattle.ob_silica.specs.declared.body.TermBody.{TermBody}
use Rattle.ob_silica.specs.declared.term.Term.{Term}
use Rattle.ob_silica.specs.declared.term.Form as made

abbrev mutual
  -- a form
  pub form_back : SilicaForm → made.Form
  form_back unit_form = made.Unit
  form_back (const_form slot value) = made.Const slot value
  form_back (op_form slot operator a b line) = made.Op slot operator a b line
  form_back (copy_form to from) = made.Copy to from
  form_back (move_form to from contract) = made.Move to from contract
  form_back (new_form slot contract args) = made.New slot contract args
  form_back (call_form slot receiver contract tx args) = made.Call slot receiver contract tx args
  form_back (call_this_form slot tx args) = made.CallThis slot tx args
  form_back (change_form state given) = made.Change state given
  form_back (test_form place state branch other join) = made.Test place state (terms_back branch) (terms_back other) join
  form_back (if_form a branch other join) = made.If a (terms_back branch) (terms_back other) join
  form_back (loop_form first a body end) = made.Loop (terms_back first) a (terms_back body) end
  form_back (assert_form place perm) = made.Assert place perm
  form_back (disown_form place) = made.Disown place
  form_back (drop_form slot) = made.Drop slot
  form_back (return_form place) = made.Return place
  form_back (revert_form text) = made.Revert text
  form_back bad_row_form = made.BadRow

  -- terms in their order
  pub terms_back : SilicaTerms → List Term
  terms_back no_terms = []
  terms_back (and_term form span rest) = record { form = form_back form; span = span } ∷ terms_back rest

-- a body
abbrev pub silica_body_back : SilicaBody → TermBody
silica_body_back body = record { contract = body.contract; tx = body.tx; terms = terms_back body.terms; slots = body.slots; end = body.end }

-- there and back
mutual
  pub form_of-back : (form : SilicaForm) → form_of (form_back form) ≡ form
  form_of-back unit_form = form_of-Unit
  form_of-back (const_form slot value) = form_of-Const slot value
  form_of-back (op_form slot operator a b line) = form_of-Op slot operator a b line
  form_of-back (copy_form to from) = form_of-Copy to from
  form_of-back (move_form to from contract) = form_of-Move to from contract
  form_of-back (new_form slot contract args) = form_of-New slot contract args
  form_of-back (call_form slot receiver contract tx args) = form_of-Call slot receiver contract tx args
  form_of-back (call_this_form slot tx args) = form_of-CallThis slot tx args
  form_of-back (change_form state given) = form_of-Change state given
  form_of-back (test_form place state branch other join) =
      form_of-Test place state (terms_back branch) (terms_back other) join
      ∙ ap (λ ts. test_form place state ts (terms_of (terms_back other)) join) (terms_of-back branch)
      ∙ ap (λ ts. test_form place state branch ts join) (terms_of-back other)
  form_of-back (if_form a branch other join) =
      form_of-If a (terms_back branch) (terms_back other) join
      ∙ ap (λ ts. if_form a ts (terms_of (terms_back other)) join) (terms_of-back branch)
      ∙ ap (λ ts. if_form a branch ts join) (terms_of-back other)
  form_of-back (loop_form first a body end) =
      form_of-Loop (terms_back first) a (terms_back body) end
      ∙ ap (λ ts. loop_form ts a (terms_of (terms_back body)) end) (terms_of-back first)
      ∙ ap (λ ts. loop_form first a ts end) (terms_of-back body)
  form_of-back (assert_form place perm) = form_of-Assert place perm
  form_of-back (disown_form place) = form_of-Disown place
  form_of-back (drop_form slot) = form_of-Drop slot
  form_of-back (return_form place) = form_of-Return place
  form_of-back (revert_form text) = form_of-Revert text
  form_of-back bad_row_form = form_of-BadRow

  pub terms_of-back : (ts : SilicaTerms) → terms_of (terms_back ts) ≡ ts
  terms_of-back no_terms = refl
  terms_of-back (and_term form span rest) =
      ap (λ t. and_term t.0 t.1 (terms_of (terms_back rest))) (term_of-fields (record { form = form_back form; span = span }))
      ∙ ap (λ x. and_term x span (terms_of (terms_back rest))) (form_of-back form)
      ∙ ap (λ ts. and_term form span ts) (terms_of-back rest)

pub silica_body_of-back : (body : SilicaBody) → silica_body_of (silica_body_back body) ≡ body
silica_body_of-back body = ap (λ ts. record { contract = body.contract; tx = body.tx; terms = ts; slots = body.slots; end = body.end }) (terms_of-back body.terms)

-- plain terms are told apart as the terms that they represent are
abbrev pub terms_code : Coded Term → Coded SilicaTerms
terms_code code = code_by (List Term) (coded_list code) terms_back terms_of terms_of-back

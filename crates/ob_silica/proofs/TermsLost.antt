-- No part of a term is lost on the way to plain data.
use Rattle.std.proofs.Common.{◌≡◌, List, [], ◌∷◌, map, ap, sym, ◌∙◌, refl, subst}
use Rattle.ob_silica.specs.Terms.{and_term}
use Rattle.ob_silica.specs.TermsView.{form_of, terms_of, silica_body_of, form_of-Unit, form_of-Const, form_of-Op, form_of-Copy, form_of-Move, form_of-New, form_of-Call, form_of-CallThis, form_of-Change, form_of-Test, form_of-If, form_of-Loop, form_of-Assert, form_of-Disown, form_of-Drop, form_of-Return, form_of-Revert, form_of-BadRow, term_of-fields}
use Rattle.ob_silica.specs.TermsBack.{form_back, terms_back, silica_body_back}
use Rattle.ob_silica.specs.declared.body.TermBody.{TermBody}
use Rattle.ob_silica.specs.declared.term.Term.{Term, roll-Term}
use Rattle.ob_silica.specs.declared.term.Form as made
use Rattle.ob_silica.specs.declared.term.Form.TheOpen as open'
use Rattle.ob_silica.specs.declared.term.Form.TheVariants.{rolls-Unit, rolls-Const, rolls-Op, rolls-Copy, rolls-Move, rolls-New, rolls-Call, rolls-CallThis, rolls-Change, rolls-Test, rolls-If, rolls-Loop, rolls-Assert, rolls-Disown, rolls-Drop, rolls-Return, rolls-Revert, rolls-BadRow}

abbrev IsBack : made.Form → Type 0
IsBack form = form_back (form_of form) ≡ form

one_back : (node : Term) → IsBack node.form → (rest : List Term) → terms_back (terms_of (node ∷ rest)) ≡ node ∷ terms_back (terms_of rest)
one_back node back rest =
    ap (λ t. terms_back (and_term t.0 t.1 (terms_of rest))) (term_of-fields node)
    ∙ ap (λ form. record { form = form; span = node.span } ∷ terms_back (terms_of rest)) back

abbrev IsBackTerm : Term → Type 0
IsBackTerm node = IsBack node.form

all_back : {A : Type 0} (f : A → Term) → ((a : A) → IsBackTerm (f a)) → (nodes : List A) → terms_back (terms_of (map f nodes)) ≡ map f nodes
all_back f back [] = refl
all_back f back (a ∷ nodes) = one_back (f a) (back a) (map f nodes) ∙ ap (λ ts. f a ∷ ts) (all_back f back nodes)

step : {A B : Type 0} (node : made.Form-F A B) (f : A → made.Form) (g : B → Term) → ((b : B) → IsBackTerm (g b)) → IsBack (made.roll-Form (made.map-Form A B made.Form Term f g node))
step open'.Unit f g terms = subst IsBack (sym rolls-Unit) (ap form_back form_of-Unit)
step (open'.Const slot value) f g terms = subst IsBack (sym (rolls-Const slot value)) (ap form_back (form_of-Const slot value))
step (open'.Op slot operator a b line) f g terms = subst IsBack (sym (rolls-Op slot operator a b line)) (ap form_back (form_of-Op slot operator a b line))
step (open'.Copy to from) f g terms = subst IsBack (sym (rolls-Copy to from)) (ap form_back (form_of-Copy to from))
step (open'.Move to from contract) f g terms = subst IsBack (sym (rolls-Move to from contract)) (ap form_back (form_of-Move to from contract))
step (open'.New slot contract args) f g terms = subst IsBack (sym (rolls-New slot contract args)) (ap form_back (form_of-New slot contract args))
step (open'.Call slot receiver contract tx args) f g terms = subst IsBack (sym (rolls-Call slot receiver contract tx args)) (ap form_back (form_of-Call slot receiver contract tx args))
step (open'.CallThis slot tx args) f g terms = subst IsBack (sym (rolls-CallThis slot tx args)) (ap form_back (form_of-CallThis slot tx args))
step (open'.Change state given) f g terms = subst IsBack (sym (rolls-Change state given)) (ap form_back (form_of-Change state given))
step (open'.Test place state branch other join) f g terms =
    subst IsBack (sym (rolls-Test place state (map g branch) (map g other) join))
    (ap form_back (form_of-Test place state (map g branch) (map g other) join)
    ∙ ap (λ ts. made.Test place state ts (terms_back (terms_of (map g other))) join) (all_back g terms branch)
    ∙ ap (λ ts. made.Test place state (map g branch) ts join) (all_back g terms other))
step (open'.If a branch other join) f g terms =
    subst IsBack (sym (rolls-If a (map g branch) (map g other) join))
    (ap form_back (form_of-If a (map g branch) (map g other) join)
    ∙ ap (λ ts. made.If a ts (terms_back (terms_of (map g other))) join) (all_back g terms branch)
    ∙ ap (λ ts. made.If a (map g branch) ts join) (all_back g terms other))
step (open'.Loop first a body end) f g terms =
    subst IsBack (sym (rolls-Loop (map g first) a (map g body) end))
    (ap form_back (form_of-Loop (map g first) a (map g body) end)
    ∙ ap (λ ts. made.Loop ts a (terms_back (terms_of (map g body))) end) (all_back g terms first)
    ∙ ap (λ ts. made.Loop (map g first) a ts end) (all_back g terms body))
step (open'.Assert place perm) f g terms = subst IsBack (sym (rolls-Assert place perm)) (ap form_back (form_of-Assert place perm))
step (open'.Disown place) f g terms = subst IsBack (sym (rolls-Disown place)) (ap form_back (form_of-Disown place))
step (open'.Drop slot) f g terms = subst IsBack (sym (rolls-Drop slot)) (ap form_back (form_of-Drop slot))
step (open'.Return place) f g terms = subst IsBack (sym (rolls-Return place)) (ap form_back (form_of-Return place))
step (open'.Revert text) f g terms = subst IsBack (sym (rolls-Revert text)) (ap form_back (form_of-Revert text))
step open'.BadRow f g terms = subst IsBack (sym rolls-BadRow) (ap form_back form_of-BadRow)

form_back-of : (form : made.Form) → IsBack form
form_back-of = made.ind-Form IsBack IsBackTerm
    (λ x y is. subst (λ z. IsBack (made.roll-Form z)) is (step y (λ e. e.0) (λ e. e.0) (λ e. e.1)))
    (λ x y is. subst (λ z. IsBackTerm (roll-Term z)) is (y.form.1))

terms_back-of : (nodes : List Term) → terms_back (terms_of nodes) ≡ nodes
terms_back-of [] = refl
terms_back-of (node ∷ rest) = one_back node (form_back-of node.form) rest ∙ ap (λ ts. node ∷ ts) (terms_back-of rest)

body_back-of : (body : TermBody) → silica_body_back (silica_body_of body) ≡ body
body_back-of body = ap (λ terms. record { contract = body.contract; tx = body.tx; terms = terms; slots = body.slots; end = body.end }) (terms_back-of body.terms)

pub silica_body_of-injective : (a b : TermBody) → silica_body_of a ≡ silica_body_of b → a ≡ b
silica_body_of-injective a b same = sym (body_back-of a) ∙ ap silica_body_back same ∙ body_back-of b

-- The kinds after terms are those of what slots hold after them.
use Rattle.std.proofs.Common.{◌≡◌, ℕ, Bool, true, false, nat_eq, Option, Some, None, refl, ap, ◌∙◌}
use Rattle.std.specs.Prelude.{if◌then◌else◌}
use Rattle.std.proofs.Math.Path.{fun_ext}
use Rattle.ob_table.specs.declared.seen.Kind.{Kind}
use Rattle.ob_table_spec.specs.WellFormed.{StaticFrame}
use Rattle.ob_silica.specs.Terms.{SilicaForm, unit_form, const_form, op_form, copy_form, move_form, new_form, call_form, call_this_form, change_form, test_form, if_form, loop_form, assert_form, disown_form, drop_form, return_form, revert_form, bad_row_form, SilicaTerms, no_terms, and_term}
use Rattle.ob_silica.specs.declared.place.Place.{Place}
use Rattle.ob_silica.specs.declared.place.Place.TheVariants.{This, Slot, Field}
use Rattle.ob_silica_formed.specs.Holdings.{Holdings, SlotContent, held, kind_of_place, with_slot_if, slot_written, kind_written, joined, terms_end, after_form, after_terms, at_head}
use Rattle.ob_silica_kinds.specs.Kinds.{holding, kinds_held, with_kind, joined_kinds, kinds_after_form, kinds_after, kinds_at_head}

pub kind_same : (f : StaticFrame) (h : Holdings) (place : Place) → kind_of_place f (holding (kinds_held h)) place
    ≡ kind_of_place f h place
kind_same f h This = refl
kind_same f h (Slot k) = refl
kind_same f h (Field id) = refl

one_slot : (here : Bool) (x : Option Kind) (y : SlotContent) → (if here then x else y.kind) ≡ (if here then held x else y).kind
one_slot true x y = refl
one_slot false x y = refl

slot_held : (k : Option ℕ) (x : Option Kind) (h : Holdings) → with_kind k x (kinds_held h)
    ≡ kinds_held (with_slot_if k (held x) h)
slot_held None x h = refl
slot_held (Some k) x h = fun_ext (λ j. one_slot (nat_eq j k) x (h j))

joined_held : (a b : Bool) (x y : Holdings) → joined_kinds a b (kinds_held x) (kinds_held y) ≡ kinds_held (joined a b x y)
joined_held true b x y = refl
joined_held false true x y = refl
joined_held false false x y = refl

mutual
  -- the kinds after a form are those of what slots hold after it
  pub form_held : (f : StaticFrame) (form : SilicaForm) (h : Holdings)
      → kinds_after_form f form (kinds_held h) ≡ kinds_held (after_form f form h)
  form_held f unit_form h = refl
  form_held f (const_form k value) h = slot_held (Some k) (kind_written f h (const_form k value)) h
  form_held f (op_form k operator a b line) h = slot_held (Some k) (kind_written f h (op_form k operator a b line)) h
  form_held f (copy_form to from) h =
      ap (λ x. with_kind (slot_written (copy_form to from)) x (kinds_held h)) (kind_same f h from.place)
      ∙ slot_held (slot_written (copy_form to from)) (kind_of_place f h from.place) h
  form_held f (move_form to from contract) h = slot_held (slot_written (move_form to from contract))
      (kind_written f h (move_form to from contract)) h
  form_held f (new_form k contract args) h = slot_held (Some k) (kind_written f h (new_form k contract args)) h
  form_held f (call_form k receiver contract tx args) h = slot_held k (kind_written f h (call_form k receiver contract tx args)) h
  form_held f (call_this_form k tx args) h = slot_held k (kind_written f h (call_this_form k tx args)) h
  form_held f (change_form state given) h = refl
  form_held f (test_form o state branch other join) h =
      ap (λ a. joined_kinds (terms_end branch) (terms_end other) a (kinds_after f other (kinds_held h))) (terms_held f branch h)
      ∙ ap (λ b. joined_kinds (terms_end branch) (terms_end other) (kinds_held (after_terms f branch h)) b) (terms_held f other h)
      ∙ joined_held (terms_end branch) (terms_end other) (after_terms f branch h) (after_terms f other h)
  form_held f (if_form o branch other join) h =
      ap (λ a. joined_kinds (terms_end branch) (terms_end other) a (kinds_after f other (kinds_held h))) (terms_held f branch h)
      ∙ ap (λ b. joined_kinds (terms_end branch) (terms_end other) (kinds_held (after_terms f branch h)) b) (terms_held f other h)
      ∙ joined_held (terms_end branch) (terms_end other) (after_terms f branch h) (after_terms f other h)
  form_held f (loop_form first o body end) h =
      ap (λ x. kinds_after f first (joined_kinds false (terms_end body) (kinds_held h) (kinds_after f body x))) (terms_held f first h)
      ∙ ap (λ x. kinds_after f first (joined_kinds false (terms_end body) (kinds_held h) x)) (terms_held f body (after_terms f first h))
      ∙ ap (λ x. kinds_after f first x) (joined_held false (terms_end body) h (after_terms f body (after_terms f first h)))
      ∙ terms_held f first (at_head f first body h)
  form_held f (assert_form o perm) h = refl
  form_held f (disown_form o) h = refl
  form_held f (drop_form k) h = slot_held (Some k) None h
  form_held f (return_form place) h = refl
  form_held f (revert_form o) h = refl
  form_held f bad_row_form h = refl

  -- the kinds after terms are those of what slots hold after them
  pub terms_held : (f : StaticFrame) (ts : SilicaTerms) (h : Holdings)
      → kinds_after f ts (kinds_held h) ≡ kinds_held (after_terms f ts h)
  terms_held f no_terms h = refl
  terms_held f (and_term form span rest) h = ap (λ ks. kinds_after f rest ks) (form_held f form h)
      ∙ terms_held f rest (after_form f form h)

-- and those at the head of a loop
pub head_held : (f : StaticFrame) (h : Holdings) (first body : SilicaTerms)
    → kinds_at_head f first body (kinds_held h) ≡ kinds_held (at_head f first body h)
head_held f h first body =
    ap (λ x. joined_kinds false (terms_end body) (kinds_held h) (kinds_after f body x)) (terms_held f first h)
    ∙ ap (λ x. joined_kinds false (terms_end body) (kinds_held h) x) (terms_held f body (after_terms f first h))
    ∙ joined_held false (terms_end body) h (after_terms f body (after_terms f first h))

-- Terms after terms: what is so of each form, what slots hold, and where they end.
use Rattle.std.proofs.Common.{◌≡◌, Bool, true, false, ◌||◌, refl, sym, ap, ◌∙◌, true≢false}
use Rattle.std.proofs.lemmas.Bool.{or_parts}
use Rattle.ob_table_spec.specs.WellFormed.{StaticFrame}
use Rattle.ob_silica.specs.Terms.{SilicaForm, unit_form, const_form, op_form, copy_form, move_form, new_form, call_form, call_this_form, change_form, test_form, if_form, loop_form, assert_form, disown_form, drop_form, return_form, revert_form, bad_row_form, SilicaTerms, no_terms, and_term, then_terms}
use Rattle.ob_silica_formed.specs.Holdings.{Holdings, after_form, at_head, after_terms, form_ends, terms_end, Each, EachWithin}
use Rattle.ob_silica_formed.specs.Points.{NoneFollows, NamesWhatIsThere, HasKinds, TakesResult, LeavesParams, LosesNoReference, NamesBody, ReturnsResult, TakesTurns}

-- all that is asked of a form where it stands
pub record IsWellFormedForm (f : StaticFrame) (h : Holdings) (form : SilicaForm) : Type 0 where
  pub numbers : NamesWhatIsThere f h form
  pub kinds : HasKinds f h form
  pub results : TakesResult f h form
  pub params : LeavesParams f h form
  pub references : LosesNoReference f h form
  pub bodies : NamesBody f h form
  pub returns : ReturnsResult f h form
  pub turns : TakesTurns f h form

module _ (P Q : StaticFrame → Holdings → SilicaForm → Type 0) (f : StaticFrame) (g : (h : Holdings) (form : SilicaForm) → P f h form → Q f h form) where
  mutual
    each_within_map : (h : Holdings) (form : SilicaForm) → EachWithin P f h form → EachWithin Q f h form
    each_within_map h (test_form place state branch other join) e = (each_map h branch e.0, each_map h other e.1)
    each_within_map h (if_form a branch other join) e = (each_map h branch e.0, each_map h other e.1)
    each_within_map h (loop_form first a body end) e =
        (each_map (at_head f first body h) first e.0, each_map (after_terms f first (at_head f first body h)) body e.1)
    each_within_map h unit_form e = tt
    each_within_map h (const_form k value) e = tt
    each_within_map h (op_form k operator a b line) e = tt
    each_within_map h (copy_form to from) e = tt
    each_within_map h (move_form to from contract) e = tt
    each_within_map h (new_form k contract args) e = tt
    each_within_map h (call_form k receiver contract tx args) e = tt
    each_within_map h (call_this_form k tx args) e = tt
    each_within_map h (change_form state given) e = tt
    each_within_map h (assert_form place perm) e = tt
    each_within_map h (disown_form place) e = tt
    each_within_map h (drop_form k) e = tt
    each_within_map h (return_form place) e = tt
    each_within_map h (revert_form text) e = tt
    each_within_map h bad_row_form e = tt

    -- what is so of each form, and makes another thing so
    pub each_map : (h : Holdings) (ts : SilicaTerms) → Each P f h ts → Each Q f h ts
    each_map h no_terms e = tt
    each_map h (and_term form span rest) e =
        (g h form e.0, each_within_map h form e.1, each_map (after_form f form h) rest e.2)

module _ (f : StaticFrame) where
  -- what slots hold after terms and then others
  pub after_then : (x y : SilicaTerms) (h : Holdings)
      → after_terms f (then_terms x y) h ≡ after_terms f y (after_terms f x h)
  after_then no_terms y h = refl
  after_then (and_term form span rest) y h = after_then rest y (after_form f form h)

  pub each_then : (P : StaticFrame → Holdings → SilicaForm → Type 0) (x y : SilicaTerms) (h : Holdings)
      → Each P f h x → Each P f (after_terms f x h) y → Each P f h (then_terms x y)
  each_then P no_terms y h e d = d
  each_then P (and_term form span rest) y h e d = (e.0, e.1, each_then P rest y (after_form f form h) e.2 d)

or_or : (x y z : Bool) → (x || (y || z)) ≡ ((x || y) || z)
or_or true y z = refl
or_or false y z = refl

-- terms and then others end where one of both ends
pub end_then : (x y : SilicaTerms) → terms_end (then_terms x y) ≡ (terms_end x || terms_end y)
end_then no_terms y = refl
end_then (and_term form span rest) y =
    ap (λ b. form_ends form || b) (end_then rest y) ∙ or_or (form_ends form) (terms_end rest) (terms_end y)

-- where the first don't end, others may follow
pub follows_then : (x y : SilicaTerms) → NoneFollows x → terms_end x ≡ false → NoneFollows y
    → NoneFollows (then_terms x y)
follows_then no_terms y a e b = b
follows_then (and_term form span rest) y a e b =
    let parts = or_parts (form_ends form) (terms_end rest) e in
    ((λ t. absurd (true≢false (sym t ∙ parts.0))), a.1, follows_then rest y a.2 parts.1 b)

-- Lists, one element after another.
use Rattle.std.proofs.Common.{◌≡◌, ◌≢◌, ℕ, suc, ◌+◌, ◌<◌, ◌≤◌, ◌⊎◌, inl, inr, ⊎_elim, min, arith, List, [], ◌∷◌, length, map, drop, Bool, get_or, true, false, refl, ap, ap₂, ◌∙◌, add-one, drop-cons}
use Rattle.std.specs.Prelude.{nat_lt, ◌&&◌}
use Rattle.std.specs.List.{list_all}
use Rattle.std.proofs.Math.ListN.{drop_of_length-le}
use Rattle.std.proofs.lemmas.Bool.{cases_lt}
use Rattle.std.proofs.lemmas.List.Folds.{list_all-map, list_all-append}
use Rattle.ob_base.specs.declared.id.FieldId.{FieldId}
use Rattle.ob_code.specs.declared.image.ParamCode.{ParamCode}
use Rattle.ob_verify_spec.specs.Kinds.{same_kind, kind_of_param}
use Rattle.ob_verify_spec.specs.Frames.{CodeFrame, kind_of_field}
use Rattle.ob_verify_spec.specs.Instructions.{Need, of_kind, needs_of_args, need_of, needs_of_given}
use Rattle.ob_verify_spec.specs.Conditions.{same_kinds}

-- Given fields.

pub given_below : (slots : ℕ) (given : List (FieldId × ℕ)) → list_all (λ k. nat_lt k slots) (map (λ pair. pair.1) given) ≡ list_all (λ pair. nat_lt pair.1 slots) given
given_below slots given = list_all-map (λ k. nat_lt k slots) (λ pair. pair.1) given

pub given_fields : (fields : ℕ) (given : List (FieldId × ℕ)) → list_all (λ field. nat_lt field.0 fields) (map (λ pair. pair.0) given) ≡ list_all (λ pair. nat_lt pair.0.0 fields) given
given_fields fields given = list_all-map (λ field. nat_lt field.0 fields) (λ pair. pair.0) given

-- The kinds of parameters.

both_false : (a b : Bool) → b ≡ false → (a && b) ≡ false
both_false true b e = e
both_false false b e = refl

-- whether the parameters of two bodies are of the same kinds
abbrev pub same : List ParamCode → List ParamCode → Bool
same xs ys = same_kinds (map kind_of_param xs) (map kind_of_param ys)

pub same_differ : (xs ys : List ParamCode) → length xs ≢ length ys → same xs ys ≡ false
same_differ [] [] ne = absurd (ne refl)
same_differ [] (y ∷ ys) ne = refl
same_differ (x ∷ xs) [] ne = refl
same_differ (x ∷ xs) (y ∷ ys) ne = let e : same xs ys ≡ false = same_differ xs ys (λ e. ne (ap suc e)) in both_false (same_kind (kind_of_param x) (kind_of_param y)) (same xs ys) e

pub same_turn : (xs ys : List ParamCode) (i : ℕ) (d e : ParamCode)
    → i < length xs → i < length ys
    → same (drop i xs) (drop i ys) ≡ (same_kind (kind_of_param (get_or xs i d)) (kind_of_param (get_or ys i e)) && same (drop (i + 1) xs) (drop (i + 1) ys))
same_turn xs ys i d e h k = rw add-one (ap₂ same (drop-cons xs i d h) (drop-cons ys i e k))

pub ruleset params = (same_differ, same_turn)

-- What arguments need.

abbrev pub needs_with : List ℕ → List ParamCode → List Need
needs_with args ps = needs_of_args args (map kind_of_param ps)

-- one of two lists is at its end
pub past_one : {A B : Type 0} (xs : List A) (ys : List B) (i : ℕ) → min (length xs) (length ys) ≤ i → (drop i xs ≡ []) ⊎ (drop i ys ≡ [])
past_one xs ys i h = ⊎_elim (λ more. inr (drop_of_length-le ys (omega (arith, h, more)))) (λ past. inl (drop_of_length-le xs past)) (cases_lt i (length xs))

no_needs : (args : List ℕ) → needs_with args [] ≡ []
no_needs [] = refl
no_needs (a ∷ args) = refl

pub args_end : (test : Need → Bool) (args : List ℕ) (ps : List ParamCode) (i : ℕ) → min (length args) (length ps) ≤ i → list_all test (needs_with (drop i args) (drop i ps)) ≡ true
args_end test args ps i h = ⊎_elim
    (λ e. ap (λ xs. list_all test (needs_with xs (drop i ps))) e)
    (λ e. ap (λ ys. list_all test (needs_with (drop i args) ys)) e ∙ ap (list_all test) (no_needs (drop i args)))
    (past_one args ps i h)

pub args_turn : (test : Need → Bool) (args : List ℕ) (ps : List ParamCode) (i a : ℕ) (d : ParamCode) → i < length args → i < length ps
    → list_all test (needs_with (drop i args) (drop i ps)) ≡ (test (of_kind (get_or args i a) (kind_of_param (get_or ps i d))) && list_all test (needs_with (drop (i + 1) args) (drop (i + 1) ps)))
args_turn test args ps i a d h k = rw add-one (ap₂ (λ xs ys. list_all test (needs_with xs ys)) (drop-cons args i a h) (drop-cons ps i d k))

pub ruleset arguments = (args_end, args_turn)

-- What given fields need.

pub given_turn : (f : CodeFrame) (test : Need → Bool) (given : List (FieldId × ℕ)) (i : ℕ) (d : FieldId × ℕ) → i < length given
    → list_all test (needs_of_given f (drop i given)) ≡ (list_all test (need_of (get_or given i d).1 (kind_of_field f (get_or given i d).0.0)) && list_all test (needs_of_given f (drop (i + 1) given)))
given_turn f test given i d h = rw add-one
    (ap (λ gs. list_all test (needs_of_given f gs)) (drop-cons given i d h)
    ∙ list_all-append test (need_of (get_or given i d).1 (kind_of_field f (get_or given i d).0.0)) (needs_of_given f (drop (suc i) given)))

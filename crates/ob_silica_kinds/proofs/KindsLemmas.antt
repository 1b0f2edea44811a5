-- The kinds of a list of slots.
use Rattle.std.proofs.Common.{◌≡◌, ℕ, zero, suc, ◌+◌, ◌<◌, ◌≤◌, List, [], ◌∷◌, ◌++◌, length, drop, get_or, Option, Some, None, Bool, true, false, nat_eq, refl, sym, ap, ◌∙◌, arith, add-one, drop-cons, append_assoc}
use Rattle.std.specs.Prelude.{slice_get, slice_set, if◌then◌else◌}
use Rattle.std.specs.Option.{option_flatten}
use Rattle.std.proofs.Math.ListN.{drop_of_length-le}
use Rattle.std.proofs.Math.Path.{fun_ext}
use Rattle.std.proofs.lemmas.Bool.{eqb-true, eq-eqb}
use Rattle.std.proofs.Math.Dec.{eqb-suc-zero, eqb-zero-suc, eqb-suc-suc}
use Rattle.ob_base.specs.declared.id.ContractId.{ContractId}
use Rattle.ob_table.specs.declared.contract.Param.{Param}
use Rattle.ob_table.specs.declared.seen.Kind.{Kind}
use Rattle.ob_table.specs.declared.seen.Kind.TheVariants.{Int, Bool as BoolKind, Text, Reference}
use Rattle.ob_table_spec.specs.WellFormed.{kind_of_resolved}
use Rattle.ob_silica_places.specs.Known.{at}
use Rattle.ob_silica_formed.specs.Holdings.{kinds_equal, common_kind, held, held_at_start, params_held}
use Rattle.ob_silica_kinds.specs.Kinds.{Kinds, kinds_of, kinds_held, param_kinds, first_kinds, common_list, common_kinds}

pub kind_some : (ks : List (Option Kind)) (n : ℕ) (k : Option Kind) → slice_get ks n ≡ Some k → kinds_of ks n ≡ k
unfolding kinds_of
kind_some ks n k e = ap (λ o. option_flatten o) e

pub kind_none : (ks : List (Option Kind)) (n : ℕ) → slice_get ks n ≡ None → kinds_of ks n ≡ None
unfolding kinds_of
kind_none ks n e = ap (λ o. option_flatten o) e

grown : (ks : List (Option Kind)) (n : ℕ) → option_flatten (slice_get (ks ++ None ∷ []) n) ≡ option_flatten (slice_get ks n)
grown [] zero = refl
grown [] (suc n) = refl
grown (x ∷ ks) zero = refl
grown (x ∷ ks) (suc n) = grown ks n

-- an unknown kind more changes nothing
pub kinds_of-grown : (ks : List (Option Kind)) → kinds_of (ks ++ None ∷ []) ≡ kinds_of ks
unfolding kinds_of
kinds_of-grown ks = fun_ext (λ n. grown ks n)

changed : (ks : List (Option Kind)) (k : ℕ) (x : Option Kind) → k < length ks → (n : ℕ)
    → option_flatten (slice_get (slice_set ks k x) n) ≡ (if nat_eq n k then x else option_flatten (slice_get ks n))
changed [] k x h n = absurd (omega arith)
changed (y ∷ ks) zero x h zero = refl
changed (y ∷ ks) zero x h (suc n) = sym (ap (λ b. if b then x else option_flatten (slice_get ks n)) (eqb-suc-zero n))
changed (y ∷ ks) (suc k) x h zero = sym (ap (λ b. if b then x else y) (eqb-zero-suc k))
changed (y ∷ ks) (suc k) x h (suc n) = changed ks k x (omega arith) n
    ∙ sym (ap (λ b. if b then x else option_flatten (slice_get ks n)) (eqb-suc-suc n k))

-- setting a slot of the list sets it, and no other
pub kinds_of-set : (ks : List (Option Kind)) (k : ℕ) (x : Option Kind) → k < length ks
    → kinds_of (slice_set ks k x) ≡ at (kinds_of ks) k x
unfolding kinds_of
kinds_of-set ks k x h = fun_ext (λ n. changed ks k x h n)

none_either : (b : Bool) → ◌≡◌ {A = Option Kind} None (if b then None else None)
none_either true = refl
none_either false = refl

past : (ks : List (Option Kind)) (k : ℕ) → length ks ≤ k → (n : ℕ)
    → option_flatten (slice_get ks n) ≡ (if nat_eq n k then None else option_flatten (slice_get ks n))
past [] k h n = none_either (nat_eq n k)
past (y ∷ ks) zero h n = absurd (omega arith)
past (y ∷ ks) (suc k) h zero = sym (ap (λ b. if b then None else y) (eqb-zero-suc k))
past (y ∷ ks) (suc k) h (suc n) = past ks k (omega arith) n
    ∙ sym (ap (λ b. if b then None else option_flatten (slice_get ks n)) (eqb-suc-suc n k))

-- of a slot past the end nothing is known
pub kinds_of-past : (ks : List (Option Kind)) (k : ℕ) → length ks ≤ k → kinds_of ks ≡ at (kinds_of ks) k None
unfolding kinds_of
kinds_of-past ks k h = fun_ext (λ n. past ks k h n)

pub ruleset knowing = (kind_some, kind_none, kinds_of-grown, kinds_of-set)

-- Two ways.

pub kinds_self : (a : Kind) → kinds_equal a a ≡ true
kinds_self Int = refl
kinds_self BoolKind = refl
kinds_self Text = refl
kinds_self (Reference c) = eq-eqb c.0 c.0 refl

-- one slot more
pub common_list-step : (ks : List (Option Kind)) (b : Kinds) (i : ℕ) → i < length ks
    → common_list (drop i ks) b i ≡ common_kind (get_or ks i None) (b i) ∷ common_list (drop (i + 1) ks) b (i + 1)
common_list-step ks b i h =
    ap (λ l. common_list l b i) (drop-cons ks i None h)
    ∙ sym (ap (λ j. common_kind (get_or ks i None) (b i) ∷ common_list (drop j ks) b (i + 1)) (add-one i))

listed : (ks : List (Option Kind)) (i : ℕ) → i < length ks → get_or ks i None ≡ option_flatten (slice_get ks i)
listed [] i h = absurd (omega arith)
listed (k ∷ ks) zero h = refl
listed (k ∷ ks) (suc i) h = listed ks i (omega arith)

-- one slot more, by its kind
pub slot_kept : (ks : List (Option Kind)) (b : Kinds) (i : ℕ) (done new whole : List (Option Kind)) (k : Option Kind) → i < length ks
    → new ≡ done ++ k ∷ [] → k ≡ common_kind (kinds_of ks i) (b i) → done ++ common_list (drop i ks) b i ≡ whole
    → new ++ common_list (drop (i + 1) ks) b (i + 1) ≡ whole
unfolding kinds_of
slot_kept ks b i done new whole k h pushed is e =
    ap (λ l. l ++ common_list (drop (i + 1) ks) b (i + 1)) pushed
    ∙ append_assoc done (k ∷ []) (common_list (drop (i + 1) ks) b (i + 1))
    ∙ ap (λ z. done ++ z ∷ common_list (drop (i + 1) ks) b (i + 1)) (is ∙ ap (λ z. common_kind z (b i)) (sym (listed ks i h)))
    ∙ sym (ap (λ l. done ++ l) (common_list-step ks b i h))
    ∙ e

-- no slot is left
pub common_list_end : (ks : List (Option Kind)) (b : Kinds) (i : ℕ) → length ks ≤ i → common_list (drop i ks) b i ≡ []
common_list_end ks b i h = ap (λ l. common_list l b i) (drop_of_length-le ks h)

common_slot : (ks : List (Option Kind)) (b : Kinds) (n j : ℕ)
    → option_flatten (slice_get (common_list ks b n) j) ≡ common_kind (option_flatten (slice_get ks j)) (b (n + j))
common_slot [] b n j = refl
common_slot (k ∷ ks) b n zero = ap (λ i. common_kind k (b i)) (omega arith)
common_slot (k ∷ ks) b n (suc j) = common_slot ks b (n + 1) j
    ∙ ap (λ i. common_kind (option_flatten (slice_get ks j)) (b i)) (omega arith)

pub kinds_of_common : (ks : List (Option Kind)) (b : Kinds) → kinds_of (common_list ks b 0) ≡ common_kinds (kinds_of ks) b
unfolding kinds_of
kinds_of_common ks b = fun_ext by
  where
    by : (j : ℕ) → option_flatten (slice_get (common_list ks b 0) j) ≡ common_kind (option_flatten (slice_get ks j)) (b j)
    by j = let e : 0 + j ≡ j = omega arith in common_slot ks b 0 j
        ∙ ap (λ i. common_kind (option_flatten (slice_get ks j)) (b i)) e

pub ruleset joining = (common_list-step, kind_some, kind_none)

-- The beginning of a body.

same : (n : ℕ) → nat_eq n n ≡ true
same zero = refl
same (suc n) = eqb-suc-suc n n ∙ same n

apart : (a b : ℕ) (is : Bool) → nat_eq a b ≡ is → (a ≡ b → ⊥) → nat_eq a b ≡ false
apart a b true e other = absurd (other (eqb-true a b e))
apart a b false e other = e

param_slot : (params : List Param) (n j : ℕ) → option_flatten (slice_get (param_kinds params) j)
    ≡ (params_held n params (n + j)).kind
param_slot [] n j = refl
param_slot (p ∷ ps) n zero =
    sym (ap (λ b. (if b then held (Some (kind_of_resolved p.of)) else params_held (n + 1) ps (n + 0)).kind)
    (ap (λ i. nat_eq i n) (omega arith) ∙ same n))
param_slot (p ∷ ps) n (suc j) =
    param_slot ps (n + 1) j
    ∙ ap (λ i. (params_held (n + 1) ps i).kind) (omega arith)
    ∙ sym (ap (λ b. (if b then held (Some (kind_of_resolved p.of)) else params_held (n + 1) ps (n + suc j)).kind)
    (apart (n + suc j) n (nat_eq (n + suc j) n) refl (λ e. omega (arith, e))))

pub kinds_of_start : (here : ContractId) (params : List Param)
    → kinds_of (first_kinds here params) ≡ kinds_held (held_at_start here params)
unfolding kinds_of
kinds_of_start here params = fun_ext by
  where
    by : (j : ℕ) → option_flatten (slice_get (first_kinds here params) j) ≡ (held_at_start here params j).kind
    by zero = refl
    by (suc j) =
        let e : 1 + j ≡ suc j = omega arith in
        param_slot params 1 j ∙ ap (λ i. (params_held 1 params i).kind) e
        ∙ sym (ap (λ b. (if b then held (Some (Reference here)) else params_held 1 params (suc j)).kind) (eqb-suc-zero j))

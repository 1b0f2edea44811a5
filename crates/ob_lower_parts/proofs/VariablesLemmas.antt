-- The visible variables.
use Rattle.std.proofs.Common.{◌≡◌, ◌≤◌, ◌<◌, ℕ, ◌+◌, ◌-◌, zero, suc, List, [], ◌∷◌, ◌++◌, length, take, drop, Some, refl, ap, sym, ◌∙◌, arith, true, false, add-one, length-append, get_or, drop-cons}
use Rattle.std.proofs.Math.Seq.{take-suc}
use Rattle.std.proofs.lemmas.Bool.{eq-eqb, ne_eqb}
use Rattle.ob_table_spec.specs.WellFormed.{kind_of_resolved}
use Rattle.ob_lower_spec.specs.Forms.{params_from, SlotVariable, locals_of, slot_of}
use Rattle.ob_table.specs.declared.contract.Param.{Param}
use Rattle.std.specs.Prelude.{option_map, nat_eq, if◌then◌else◌}
use Rattle.ob_table_spec.specs.WellFormed.{local_kind}
use Rattle.ob_lower_parts.specs.Visible.{newest_first, variable_of, variable_at}
use Rattle.ob_lower_parts.specs.declared.variables.SlotVariable as made

-- a variable's slot and kind are found as the variable is
pub slot_found : (vs : List SlotVariable) (n : ℕ) → slot_of vs n ≡ option_map (λ v. v.slot) (variable_at vs n)
slot_found [] n = refl
slot_found (v ∷ vs) n = elim (nat_eq n v.local) as (λ b. (if b then Some v.slot else slot_of vs n) ≡ option_map (λ x. x.slot) (if b then Some v else variable_at vs n)) [ true ↦ refl | false ↦ slot_found vs n ]

pub kind_found : (vs : List SlotVariable) (n : ℕ) → local_kind (locals_of vs) n ≡ option_map (λ v. v.kind) (variable_at vs n)
kind_found [] n = refl
kind_found (v ∷ vs) n = elim (nat_eq n v.local) as (λ b. (if b then Some v.kind else local_kind (locals_of vs) n) ≡ option_map (λ x. x.kind) (if b then Some v else variable_at vs n)) [ true ↦ refl | false ↦ kind_found vs n ]

pub ruleset found = (slot_found, kind_found)

pub newest_first-push : (vs : List made.SlotVariable) (v : made.SlotVariable) → newest_first (vs ++ v ∷ []) ≡ variable_of v ∷ newest_first vs
newest_first-push [] v = refl
newest_first-push (u ∷ vs) v = ap (λ l. l ++ variable_of u ∷ []) (newest_first-push vs v)

pub length-newest_first : (vs : List made.SlotVariable) → length (newest_first vs) ≡ length vs
length-newest_first [] = refl
length-newest_first (v ∷ vs) = omega (arith, length-append (newest_first vs) (variable_of v ∷ []), length-newest_first vs)

pub drop-append : {A : Type 0} (n : ℕ) (s t : List A) → n ≤ length s → drop n (s ++ t) ≡ drop n s ++ t
drop-append zero s t h = refl
drop-append (suc n) [] t h = absurd (omega arith)
drop-append (suc n) (x ∷ s) t h = drop-append n s t (omega arith)

pub drop-all : {A : Type 0} (s : List A) → drop (length s) s ≡ []
drop-all [] = refl
drop-all (x ∷ s) = drop-all s

pub drop-none : {A : Type 0} (n : ℕ) → drop {A = A} n [] ≡ []
drop-none zero = refl
drop-none (suc n) = refl

pub newest_first-take : (n : ℕ) (vs : List made.SlotVariable) → newest_first (take n vs) ≡ drop (length (newest_first vs) - n) (newest_first vs)
newest_first-take zero vs =
    let same : length (newest_first vs) - 0 ≡ length (newest_first vs) = omega arith in
    sym (ap (λ k. drop k (newest_first vs)) same ∙ drop-all (newest_first vs))
newest_first-take (suc n) [] = sym (drop-none (0 - suc n))
newest_first-take (suc n) (v ∷ vs) =
    let few : length (newest_first vs) - n ≤ length (newest_first vs) = omega arith in
    let same : length (newest_first (v ∷ vs)) - suc n ≡ length (newest_first vs) - n =
    omega (arith, length-append (newest_first vs) (variable_of v ∷ [])) in
    ap (λ l. l ++ variable_of v ∷ []) (newest_first-take n vs)
    ∙ sym (drop-append (length (newest_first vs) - n) (newest_first vs) (variable_of v ∷ []) few)
    ∙ sym (ap (λ k. drop k (newest_first (v ∷ vs))) same)

pub ruleset variables = (newest_first-push, length-newest_first, newest_first-take)

-- one more parameter, from the last to the first
pub params_from-drop : (n : ℕ) (ps : List Param) (i : ℕ) (d : Param) → i < length ps
    → params_from n (drop i ps)
    ≡ record { local = n; kind = kind_of_resolved (get_or ps i d).of; slot = n } ∷ params_from (n + 1) (drop (i + 1) ps)
params_from-drop n ps i d h =
    let first : SlotVariable = record { local = n; kind = kind_of_resolved (get_or ps i d).of; slot = n } in
    ap (params_from n) (drop-cons ps i d h) ∙ ap (λ k. first ∷ params_from (n + 1) (drop k ps)) (sym (add-one i))

-- one more variable, from the last to the first
pub newest_first-step : (vs : List made.SlotVariable) (k j : ℕ) (d : made.SlotVariable) → k + 1 ≡ j → k < length vs
    → newest_first (take j vs) ≡ variable_of (get_or vs k d) ∷ newest_first (take k vs)
newest_first-step vs k j d e h =
    ap (λ i. newest_first (take i vs)) (sym e ∙ add-one k) ∙ ap newest_first (take-suc vs k d h)
    ∙ newest_first-push (take k vs) (get_or vs k d)

-- it is the one that is looked for
pub variable_at-here : (vs : List made.SlotVariable) (k j : ℕ) (d : made.SlotVariable) (n : ℕ) → k + 1 ≡ j → k < length vs
    → (get_or vs k d).local ≡ n → Some (variable_of (get_or vs k d)) ≡ variable_at (newest_first (take j vs)) n
variable_at-here vs k j d n e h is =
    let v = get_or vs k d in
    sym (ap (λ l. variable_at l n) (newest_first-step vs k j d e h)
    ∙ ap (λ b. if b then Some (variable_of v) else variable_at (newest_first (take k vs)) n) (eq-eqb n v.local (sym is)))

-- it is another one
pub variable_at-past : (vs : List made.SlotVariable) (k j : ℕ) (d : made.SlotVariable) (n : ℕ) → k + 1 ≡ j → k < length vs
    → ((get_or vs k d).local ≡ n → ⊥) → variable_at (newest_first (take k vs)) n ≡ variable_at (newest_first (take j vs)) n
variable_at-past vs k j d n e h other =
    let v = get_or vs k d in
    sym (ap (λ l. variable_at l n) (newest_first-step vs k j d e h)
    ∙ ap (λ b. if b then Some (variable_of v) else variable_at (newest_first (take k vs)) n)
    (ne_eqb n v.local (λ same. other (sym same))))

-- What an object keeps in a state, and what is given to it.
use Rattle.std.proofs.Common.{◌≡◌, ℕ, suc, ◌+◌, ◌-◌, ◌<◌, ◌≤◌, Bool, true, false, List, ◌∷◌, length, drop, get_or, Option, Some, None, refl, sym, ap, ◌∙◌, arith, drop-cons}
use mathlib.Core.Path.{fun_ext}
use Rattle.std.specs.Prelude.{nat_eq, if◌then◌else◌}
use Rattle.ob_base.specs.Optional.{◌>>=◌}
use Rattle.ob_base.specs.declared.id.FieldId.{FieldId}
use Rattle.ob_base.specs.declared.id.StateId.{StateId}
use Rattle.ob_heap_spec.specs.Values.{Value as PlainValue, put}
use Rattle.ob_code.specs.declared.image.ContractCode.{ContractCode}
use Rattle.ob_heap.specs.declared.value.Value.{Value}
use Rattle.ob_heap.specs.Fields.{with_value}
use Rattle.ob_heap.specs.Plain.{value_of, fields_of}
use Rattle.ob_code_table.specs.Images.{has_field_code}
use Rattle.ob_machine_steps.specs.Slots.{Slots, value_at}
use Rattle.ob_machine_steps.specs.Changing.{GivenSlots, given_values}
use Rattle.ob_machine_parts.specs.Changes.{kept_in}
use Rattle.ob_machine_parts.proofs.FieldLemmas.{turned, fields_put}

-- What is kept.

-- one more field is kept, or isn't
pub kept_more : (own : ContractCode) (state : StateId) (e : FieldId × Value) (es : List (FieldId × Value))
    → has_field_code own (Some state) e.0.0 ≡ true
    → put (kept_in own state (fields_of es)) e.0.0 (value_of e.1) ≡ kept_in own state (fields_of (e ∷ es))
kept_more own state e es h = fun_ext (λ k. by k (nat_eq k e.0.0) refl)
  where
    by : (k : ℕ) (x : Bool) → nat_eq k e.0.0 ≡ x
        → (if x then Some (value_of e.1) else if has_field_code own (Some state) k then fields_of es k else None)
        ≡ (if has_field_code own (Some state) k then fields_of (e ∷ es) k else None)
    by k true f =
        let s : nat_eq e.0.0 k ≡ true = turned k e.0.0 true f in
        let n : k ≡ e.0.0 = grind arith in
        let t : has_field_code own (Some state) k ≡ true = ap (has_field_code own (Some state)) n ∙ h in
        rw (t, s) refl
    by k false f = let s : nat_eq e.0.0 k ≡ false = turned k e.0.0 false f in rw s refl

pub kept_less : (own : ContractCode) (state : StateId) (e : FieldId × Value) (es : List (FieldId × Value))
    → has_field_code own (Some state) e.0.0 ≡ false
    → kept_in own state (fields_of es) ≡ kept_in own state (fields_of (e ∷ es))
kept_less own state e es h = fun_ext (λ k. by k (nat_eq k e.0.0) refl)
  where
    by : (k : ℕ) (x : Bool) → nat_eq k e.0.0 ≡ x
        → (if has_field_code own (Some state) k then fields_of es k else None)
        ≡ (if has_field_code own (Some state) k then fields_of (e ∷ es) k else None)
    by k true f =
        let n : k ≡ e.0.0 = grind arith in
        let t : has_field_code own (Some state) k ≡ false = ap (has_field_code own (Some state)) n ∙ h in
        rw t refl
    by k false f = let s : nat_eq e.0.0 k ≡ false = turned k e.0.0 false f in rw s refl

pub drop_before : (xs : List (FieldId × Value)) (p : ℕ) (x : FieldId × Value) → 0 < p → p ≤ length xs → x ≡ get_or xs (p - 1) x
    → drop (p - 1) xs ≡ x ∷ drop p xs
drop_before xs p x pos h e =
    let l : p - 1 < length xs = omega arith in
    let s : suc (p - 1) ≡ p = omega arith in
    drop-cons xs (p - 1) x l ∙ ap (λ y. y ∷ drop (suc (p - 1)) xs) (sym e) ∙ ap (λ n. x ∷ drop n xs) s

-- What is given.

-- one more field is given
pub given_step : (slots : Slots) (gs : GivenSlots) (i : ℕ) (d : FieldId × ℕ) (filled new : List (FieldId × Value)) (v : Value)
    → i < length gs → value_at slots (get_or gs i d).1 ≡ Some (value_of v) → new ≡ with_value (get_or gs i d).0 v filled
    → given_values slots (drop (i + 1) gs) (fields_of new) ≡ given_values slots (drop i gs) (fields_of filled)
given_step slots gs i d filled new v l e f =
    let g = get_or gs i d in
    let s : i + 1 ≡ suc i = omega arith in
    ap (λ n. given_values slots (drop n gs) (fields_of new)) s
    ∙ ap (λ fs. given_values slots (drop (suc i) gs) (fields_of fs)) f
    ∙ ap (given_values slots (drop (suc i) gs)) (fields_put g.0 v filled)
    ∙ sym (ap (λ xs. given_values slots xs (fields_of filled)) (drop-cons gs i d l)
    ∙ ap (λ (r : Option PlainValue). r >>= λ x. given_values slots (drop (suc i) gs) (put (fields_of filled) g.0.0 x)) e)

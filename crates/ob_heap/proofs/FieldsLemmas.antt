-- The values of an object's fields.
use Rattle.std.proofs.Common.{◌≡◌, ℕ, zero, suc, ◌+◌, ◌<◌, ◌≤◌, Bool, true, false, List, [], ◌∷◌, length, None, refl, sym, ap, subst, ◌∙◌, true≢false, arith, get_or, drop, set}
use Rattle.std.specs.Prelude.{nat_eq, nat_le, if◌then◌else◌}
use Rattle.std.specs.List.{insert, remove}
use Rattle.std.proofs.lemmas.List.{drop_more, take_more, drop_all}
use Rattle.ob_base.specs.declared.id.FieldId.{FieldId}
use Rattle.ob_heap.specs.declared.value.Value.{Value}
use Rattle.std.specs.Result.{OnOk, OnErr}
use Rattle.std.specs.Prelude.{Result, Ok, Err}
use Rattle.ob_heap.specs.Ascending.{IsBelowAll, IsAscending}
use Rattle.ob_heap.specs.Fields.{place_of, is_at, value_at, with_value, without_value}

-- the value is that of the field at a place, or one after it
pub value_turn : (k : FieldId) (es : List (FieldId × Value)) (i : ℕ) (x : FieldId × Value) → i < length es → x ≡ get_or es i x
    → value_at k (drop i es) ≡ value_at k (x ∷ drop (i + 1) es)
value_turn k es i x h e = ap (value_at k) (drop_more es i x h) ∙ ap (λ y. value_at k (y ∷ drop (i + 1) es)) (sym e)

pub place_turn : (k : FieldId) (es : List (FieldId × Value)) (i : ℕ) (x : FieldId × Value) → i < length es → x ≡ get_or es i x
    → place_of k (drop i es) ≡ place_of k (x ∷ drop (i + 1) es)
place_turn k es i x h e = ap (place_of k) (drop_more es i x h) ∙ ap (λ y. place_of k (y ∷ drop (i + 1) es)) (sym e)

pub value_end : (k : FieldId) (es : List (FieldId × Value)) (i : ℕ) → length es ≤ i → value_at k (drop i es) ≡ None
value_end k es i h = ap (value_at k) (drop_all i es h)

pub place_end : (k : FieldId) (es : List (FieldId × Value)) (i : ℕ) → length es ≤ i → place_of k (drop i es) ≡ 0
place_end k es i h = ap (place_of k) (drop_all i es h)

pub ruleset turns = (value_turn, place_turn, value_end, place_end, drop_more, take_more, drop_all)

-- a number that isn't reached is another one
apart : (m n : ℕ) → nat_le m n ≡ false → nat_eq n m ≡ false
apart m n h = grind arith

pub place_within : (k : FieldId) (es : List (FieldId × Value)) → place_of k es ≤ length es
place_within k [] = omega arith
place_within k (e ∷ es) =
    let rest = place_within k es in
    elim (nat_le k.0 e.0.0) as (λ b. (if b then 0 else suc (place_of k es)) ≤ suc (length es)) [ true ↦ omega arith | false ↦ omega arith ]

pub place_below : (k : FieldId) (es : List (FieldId × Value)) (i : ℕ) → is_at k es i ≡ true → i < length es
place_below k [] i h = absurd (true≢false (sym h))
place_below k (e ∷ es) zero h = omega arith
place_below k (e ∷ es) (suc i) h = let rest = place_below k es i h in omega arith

-- a value takes the place of the one at its field's place
pub with_value_set : (k : FieldId) (v : Value) (es : List (FieldId × Value)) → is_at k es (place_of k es) ≡ true
    → set es (place_of k es) (k, v) ≡ with_value k v es
with_value_set k v [] same = absurd (true≢false (sym same))
with_value_set k v (y ∷ es) same = by (nat_le k.0 y.0.0) refl (with_value_set k v es) same
  where
    by : (b : Bool) → nat_le k.0 y.0.0 ≡ b → (is_at k es (place_of k es) ≡ true → set es (place_of k es) (k, v) ≡ with_value k v es)
        → is_at k (y ∷ es) (if b then 0 else suc (place_of k es)) ≡ true
        → set (y ∷ es) (if b then 0 else suc (place_of k es)) (k, v)
        ≡ (if nat_eq y.0.0 k.0 then (k, v) ∷ es else if b then (k, v) ∷ y ∷ es else y ∷ with_value k v es)
    by true e rest same = sym (ap (λ c. if c then (k, v) ∷ es else (k, v) ∷ y ∷ es) same)
    by false e rest same = ap (λ r. y ∷ r) (rest same)
        ∙ sym (ap (λ c. if c then (k, v) ∷ es else y ∷ with_value k v es) (apart k.0 y.0.0 e))

-- or goes in there
pub with_value_insert : (k : FieldId) (v : Value) (es : List (FieldId × Value)) → is_at k es (place_of k es) ≡ false
    → insert es (place_of k es) (k, v) ≡ with_value k v es
with_value_insert k v [] other = refl
with_value_insert k v (y ∷ es) other = by (nat_le k.0 y.0.0) refl (with_value_insert k v es) other
  where
    by : (b : Bool) → nat_le k.0 y.0.0 ≡ b → (is_at k es (place_of k es) ≡ false → insert es (place_of k es) (k, v) ≡ with_value k v es)
        → is_at k (y ∷ es) (if b then 0 else suc (place_of k es)) ≡ false
        → insert (y ∷ es) (if b then 0 else suc (place_of k es)) (k, v)
        ≡ (if nat_eq y.0.0 k.0 then (k, v) ∷ es else if b then (k, v) ∷ y ∷ es else y ∷ with_value k v es)
    by true e rest other = sym (ap (λ c. if c then (k, v) ∷ es else (k, v) ∷ y ∷ es) other)
    by false e rest other = ap (λ r. y ∷ r) (rest other)
        ∙ sym (ap (λ c. if c then (k, v) ∷ es else y ∷ with_value k v es) (apart k.0 y.0.0 e))

pub without_value_remove : (k : FieldId) (es : List (FieldId × Value)) → is_at k es (place_of k es) ≡ true
    → remove es (place_of k es) ≡ without_value k es
without_value_remove k [] same = absurd (true≢false (sym same))
without_value_remove k (y ∷ es) same = by (nat_le k.0 y.0.0) refl (without_value_remove k es) same
  where
    by : (b : Bool) → nat_le k.0 y.0.0 ≡ b → (is_at k es (place_of k es) ≡ true → remove es (place_of k es) ≡ without_value k es)
        → is_at k (y ∷ es) (if b then 0 else suc (place_of k es)) ≡ true
        → remove (y ∷ es) (if b then 0 else suc (place_of k es))
        ≡ (if nat_eq y.0.0 k.0 then es else if b then y ∷ es else y ∷ without_value k es)
    by true e rest same = sym (ap (λ c. if c then es else y ∷ es) same)
    by false e rest same = ap (λ r. y ∷ r) (rest same)
        ∙ sym (ap (λ c. if c then es else y ∷ without_value k es) (apart k.0 y.0.0 e))

pub without_value_none : (k : FieldId) (es : List (FieldId × Value)) → is_at k es (place_of k es) ≡ false → es ≡ without_value k es
without_value_none k [] other = refl
without_value_none k (y ∷ es) other = by (nat_le k.0 y.0.0) refl (without_value_none k es) other
  where
    by : (b : Bool) → nat_le k.0 y.0.0 ≡ b → (is_at k es (place_of k es) ≡ false → es ≡ without_value k es)
        → is_at k (y ∷ es) (if b then 0 else suc (place_of k es)) ≡ false
        → y ∷ es ≡ (if nat_eq y.0.0 k.0 then es else if b then y ∷ es else y ∷ without_value k es)
    by true e rest other = sym (ap (λ c. if c then es else y ∷ es) other)
    by false e rest other = ap (λ r. y ∷ r) (rest other)
        ∙ sym (ap (λ c. if c then es else y ∷ without_value k es) (apart k.0 y.0.0 e))

pub ruleset places = (place_within, place_below, with_value_set, with_value_insert, without_value_remove, without_value_none)

abbrev pub number : FieldId × Value → ℕ
number e = e.0.0

below_with : (n : ℕ) (k : FieldId) (v : Value) (es : List (FieldId × Value)) → n < k.0 → IsBelowAll number n es → IsBelowAll number n (with_value k v es)
below_with n k v [] h below = (h, tt)
below_with n k v (y ∷ es) h below =
    let rest = below_with n k v es h below.1 in
    elim (nat_eq y.0.0 k.0) as (λ b. IsBelowAll number n (if b then (k, v) ∷ es else if nat_le k.0 y.0.0 then (k, v) ∷ y ∷ es else y ∷ with_value k v es)) [
      | true ↦ (h, below.1)
      | false ↦ elim (nat_le k.0 y.0.0) as (λ b. IsBelowAll number n (if b then (k, v) ∷ y ∷ es else y ∷ with_value k v es)) [
        | true ↦ (h, below)
        | false ↦ (below.0, rest)
      ]
    ]

below_lower : (m n : ℕ) (es : List (FieldId × Value)) → m ≤ n → IsBelowAll number n es → IsBelowAll number m es
below_lower m n [] h below = tt
below_lower m n (y ∷ es) h below = let a = below.0 in (omega arith, below_lower m n es h below.1)

below_without : (n : ℕ) (k : FieldId) (es : List (FieldId × Value)) → IsBelowAll number n es → IsBelowAll number n (without_value k es)
below_without n k [] below = tt
below_without n k (y ∷ es) below =
    let rest = below_without n k es below.1 in
    elim (nat_eq y.0.0 k.0) as (λ b. IsBelowAll number n (if b then es else if nat_le k.0 y.0.0 then y ∷ es else y ∷ without_value k es)) [
      | true ↦ below.1
      | false ↦ elim (nat_le k.0 y.0.0) as (λ b. IsBelowAll number n (if b then y ∷ es else y ∷ without_value k es)) [
        | true ↦ below
        | false ↦ (below.0, rest)
      ]
    ]

below_from : (m n : ℕ) → nat_eq n m ≡ false → nat_le m n ≡ true → m < n
below_from m n h e = grind arith

above_from : (m n : ℕ) → nat_le m n ≡ false → n < m
above_from m n h = grind arith

same_from : (m n : ℕ) → nat_eq m n ≡ true → m ≡ n
same_from m n h = grind arith

-- the numbers ascend after a value is put in
pub ascending_with : (k : FieldId) (v : Value) (es : List (FieldId × Value)) → IsAscending number es → IsAscending number (with_value k v es)
ascending_with k v [] h = (tt, tt)
ascending_with k v (y ∷ es) h = by (nat_eq y.0.0 k.0) (nat_le k.0 y.0.0) refl refl (ascending_with k v es h.1)
  where
    by : (b c : Bool) → nat_eq y.0.0 k.0 ≡ b → nat_le k.0 y.0.0 ≡ c → IsAscending number (with_value k v es)
        → IsAscending number (if b then (k, v) ∷ es else if c then (k, v) ∷ y ∷ es else y ∷ with_value k v es)
    by true c e f rest = let same = same_from y.0.0 k.0 e in (below_lower k.0 y.0.0 es (omega arith) h.0, h.1)
    by false true e f rest = let less = below_from k.0 y.0.0 e f in ((less, below_lower k.0 y.0.0 es (omega arith) h.0), h)
    by false false e f rest = (below_with y.0.0 k v es (above_from k.0 y.0.0 f) h.0, rest)

pub ascending_without : (k : FieldId) (es : List (FieldId × Value)) → IsAscending number es → IsAscending number (without_value k es)
ascending_without k [] h = tt
ascending_without k (y ∷ es) h =
    let rest = ascending_without k es h.1 in
    elim (nat_eq y.0.0 k.0) as (λ b. IsAscending number (if b then es else if nat_le k.0 y.0.0 then y ∷ es else y ∷ without_value k es)) [
      | true ↦ h.1
      | false ↦ elim (nat_le k.0 y.0.0) as (λ b. IsAscending number (if b then y ∷ es else y ∷ without_value k es)) [
        | true ↦ h
        | false ↦ (below_without y.0.0 k es h.0, rest)
      ]
    ]

pub ascending_after : {E : Type 0} (r : Result Unit E) (k : FieldId) (v : Value) (old new : List (FieldId × Value))
    → OnOk r (new ≡ with_value k v old) → OnErr r (new ≡ old) → IsAscending number old → IsAscending number new
ascending_after (Ok u) k v old new ok err h = subst (IsAscending number) (sym ok) (ascending_with k v old h)
ascending_after (Err e) k v old new ok err h = subst (IsAscending number) (sym err) h

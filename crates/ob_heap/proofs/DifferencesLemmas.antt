-- What differs, put in again.
use Rattle.std.proofs.Common.{◌≡◌, ◌↔◌, ℕ, zero, suc, ◌+◌, ◌<◌, ◌≤◌, Bool, true, false, List, [], ◌∷◌, ◌++◌, length, Option, None, Some, refl, sym, ap, subst, ◌∙◌, true≢false, arith, set, zero-add, append_assoc, length-append, length-set, eq-eqb}
use Rattle.std.specs.Prelude.{nat_eq, nat_lt, not, slice_get, ◌&&◌, if◌then◌else◌}
use Rattle.std.specs.Option.{option_map_or, unwrap_or}
use Rattle.std.specs.Ordering.{nat_cmp}
use Rattle.std.specs.declared.cmp.Ordering.TheVariants.{Less}
use Rattle.std.specs.List.Sorted.{IsStrictlySortedBy}
use Rattle.std.specs.List.{AllByRecursion}
use Rattle.std.specs.Map.{keys_of}
use Rattle.std.proofs.lemmas.Bool.Decides.{Decides-eqb, Decides-int_eq}
use Rattle.std.proofs.lemmas.Slice.Eq.{bytes_eq-Decides}
use Rattle.ob_base.specs.declared.id.FieldId.{FieldId}
use Rattle.ob_base.specs.declared.id.StateId.{StateId}
use Rattle.ob_base.specs.declared.id.ObjectId.{ObjectId}
use Rattle.ob_heap.specs.declared.value.Value.{Value}
use Rattle.ob_heap.specs.declared.value.Value.TheVariants.{Int, Bool as Truth, Text, Object as Reference}
use Rattle.ob_heap.specs.declared.object.Object.{Object}
use Rattle.ob_heap.specs.Ascending.{IsBelowAll, IsAscending}
use Rattle.ob_heap.specs.Overlays.{Changes, changed_at, laid_from, laid_over}
use Rattle.ob_heap_spec.specs.Operations.{same_truth}
use Rattle.ob_heap.specs.Differences.{same_value, same_fields, same_state, same_object, is_other, other_objects, numbered_from, differing, with_objects}
use Rattle.ob_heap.proofs.OverlaysLemmas.{laid_same, length-laid}

-- Sameness.

both : (a b : Bool) → (a && b) ≡ true → (a ≡ true) × (b ≡ true)
both true b h = (refl, h)
both false b h = absurd (true≢false (sym h))

truth_is : (x y : Bool) → same_truth x y ≡ true → x ≡ y
truth_is true true h = refl
truth_is true false h = absurd (true≢false (sym h))
truth_is false true h = absurd (true≢false (sym h))
truth_is false false h = refl

value_is : (x y : Value) → same_value x y ≡ true → x ≡ y
value_is (Int x) (Int y) h = ap Int ((Decides-int_eq x y).0 h)
value_is (Int x) (Truth y) h = absurd (true≢false (sym h))
value_is (Int x) (Text y) h = absurd (true≢false (sym h))
value_is (Int x) (Reference y) h = absurd (true≢false (sym h))
value_is (Truth x) (Int y) h = absurd (true≢false (sym h))
value_is (Truth x) (Truth y) h = ap Truth (truth_is x y h)
value_is (Truth x) (Text y) h = absurd (true≢false (sym h))
value_is (Truth x) (Reference y) h = absurd (true≢false (sym h))
value_is (Text x) (Int y) h = absurd (true≢false (sym h))
value_is (Text x) (Truth y) h = absurd (true≢false (sym h))
value_is (Text x) (Text y) h = ap Text ((bytes_eq-Decides x y).0 h)
value_is (Text x) (Reference y) h = absurd (true≢false (sym h))
value_is (Reference x) (Int y) h = absurd (true≢false (sym h))
value_is (Reference x) (Truth y) h = absurd (true≢false (sym h))
value_is (Reference x) (Text y) h = absurd (true≢false (sym h))
value_is (Reference x) (Reference y) h = ap (λ n. Reference (record { 0 = n })) ((Decides-eqb x.0 y.0).0 h)

fields_are : (xs ys : List (FieldId × Value)) → same_fields xs ys ≡ true → xs ≡ ys
fields_are [] [] h = refl
fields_are [] (y ∷ ys) h = absurd (true≢false (sym h))
fields_are (x ∷ xs) [] h = absurd (true≢false (sym h))
fields_are (x ∷ xs) (y ∷ ys) h =
    let p = both (nat_eq x.0.0 y.0.0 && same_value x.1 y.1) (same_fields xs ys) h in
    let q = both (nat_eq x.0.0 y.0.0) (same_value x.1 y.1) p.0 in
    ap (λ n. (record { 0 = n }, x.1) ∷ xs) ((Decides-eqb x.0.0 y.0.0).0 q.0)
    ∙ ap (λ v. (y.0, v) ∷ xs) (value_is x.1 y.1 q.1)
    ∙ ap (λ zs. y ∷ zs) (fields_are xs ys p.1)

state_is : (x y : Option StateId) → same_state x y ≡ true → x ≡ y
state_is None None h = refl
state_is None (Some y) h = absurd (true≢false (sym h))
state_is (Some x) None h = absurd (true≢false (sym h))
state_is (Some x) (Some y) h = ap (λ n. Some (record { 0 = n })) ((Decides-eqb x.0 y.0).0 h)

pub object_is : (a b : Object) → same_object a b ≡ true → a ≡ b
object_is a b h =
    let p = both _ _ h in
    let q = both _ _ p.1 in
    let r = both _ _ q.1 in
    let s = both _ _ r.1 in
    ap (λ n. record a { contract = record { 0 = n } }) ((Decides-eqb a.contract.0 b.contract.0).0 p.0)
    ∙ ap (λ x. record a { contract = b.contract; state = x }) (state_is a.state b.state q.0)
    ∙ ap (λ x. record a { contract = b.contract; state = b.state; shared = x }) (truth_is a.shared b.shared r.0)
    ∙ ap (λ x. record a { contract = b.contract; state = b.state; shared = b.shared; disowned = x }) (truth_is a.disowned b.disowned s.0)
    ∙ ap (λ x. record b { fields = x }) (fields_are a.fields b.fields s.1)

truth_same : (x : Bool) → same_truth x x ≡ true
truth_same true = refl
truth_same false = refl

value_same : (x : Value) → same_value x x ≡ true
value_same (Int x) = (Decides-int_eq x x).1 refl
value_same (Truth x) = truth_same x
value_same (Text x) = (bytes_eq-Decides x x).1 refl
value_same (Reference x) = (Decides-eqb x.0 x.0).1 refl

fields_same : (xs : List (FieldId × Value)) → same_fields xs xs ≡ true
fields_same [] = refl
fields_same (x ∷ xs) =
    ap (λ b. (b && same_value x.1 x.1) && same_fields xs xs) ((Decides-eqb x.0.0 x.0.0).1 refl)
    ∙ ap (λ b. b && same_fields xs xs) (value_same x.1) ∙ fields_same xs

state_same : (x : Option StateId) → same_state x x ≡ true
state_same None = refl
state_same (Some x) = (Decides-eqb x.0 x.0).1 refl

object_same : (a : Object) → same_object a a ≡ true
object_same a =
    ap (λ b. b && (same_state a.state a.state && (same_truth a.shared a.shared && (same_truth a.disowned a.disowned && same_fields a.fields a.fields))))
    ((Decides-eqb a.contract.0 a.contract.0).1 refl)
    ∙ ap (λ b. b && (same_truth a.shared a.shared && (same_truth a.disowned a.disowned && same_fields a.fields a.fields))) (state_same a.state)
    ∙ ap (λ b. b && (same_truth a.disowned a.disowned && same_fields a.fields a.fields)) (truth_same a.shared)
    ∙ ap (λ b. b && same_fields a.fields a.fields) (truth_same a.disowned) ∙ fields_same a.fields

pub object_Decides : (a b : Object) → (same_object a b ≡ true) ↔ (a ≡ b)
object_Decides a b = (object_is a b, λ e. let P : Object → Type 0 = λ x. same_object a x ≡ true in subst P e (object_same a))

-- Order.

less_from : (x y : ℕ) → nat_cmp x y ≡ Less → x < y
less_from x y h = grind arith

below_from_keys : (x : ℕ) (es : List (ℕ × Object)) → AllByRecursion (λ y. nat_cmp x y ≡ Less) (keys_of es) → IsBelowAll (λ (e : ℕ × Object). e.0) x es
below_from_keys x [] h = tt
below_from_keys x (e ∷ es) h = (less_from x e.0 h.0, below_from_keys x es h.1)

pub ascending_from_keys : (es : List (ℕ × Object)) → IsStrictlySortedBy nat_cmp (keys_of es) → IsAscending (λ (e : ℕ × Object). e.0) es
unfolding IsStrictlySortedBy
ascending_from_keys [] h = tt
ascending_from_keys (e ∷ es) h = (below_from_keys e.0 es h.0, ascending_from_keys es h.1)

pub ruleset orders = (ascending_from_keys)

abbrev pub by_number : ObjectId × Object → ℕ
by_number e = e.0.0

above_others : (base : List Object) (n : ℕ) (es : List (ℕ × Object)) → IsBelowAll (λ (e : ℕ × Object). e.0) n es → IsBelowAll by_number n (other_objects base es)
above_others base n [] h = tt
above_others base n (e ∷ es) h =
    let rest = above_others base n es h.1 in
    elim (is_other base e.0 e.1) as (λ b. IsBelowAll by_number n (if b then (record { 0 = e.0 }, e.1) ∷ other_objects base es else other_objects base es))
    [ true ↦ (h.0, rest) | false ↦ rest ]

past_none : (xs : List Object) (n : ℕ) → length xs ≤ n → slice_get xs n ≡ None
past_none [] n h = refl
past_none (x ∷ xs) zero h = absurd (omega arith)
past_none (x ∷ xs) (suc n) h = past_none xs n (omega arith)

within : (base : List Object) (n : ℕ) (o : Object) → is_other base n o ≡ true → n < length base
within [] n o h = absurd (true≢false (sym h))
within (x ∷ xs) zero o h = omega arith
within (x ∷ xs) (suc n) o h = let r = within xs n o h in omega arith

above_made : (n m : ℕ) (os : List Object) → n < m → IsBelowAll by_number n (numbered_from m os)
above_made n m [] h = tt
above_made n m (o ∷ os) h = (h, above_made n (suc m) os (omega arith))

made_ascend : (m : ℕ) (os : List Object) → IsAscending by_number (numbered_from m os)
made_ascend m [] = tt
made_ascend m (o ∷ os) = (above_made m (suc m) os (omega arith), made_ascend (suc m) os)

above_both : (n : ℕ) (xs ys : List (ObjectId × Object)) → IsBelowAll by_number n xs → IsBelowAll by_number n ys → IsBelowAll by_number n (xs ++ ys)
above_both n [] ys h k = k
above_both n (x ∷ xs) ys h k = (h.0, above_both n xs ys h.1 k)

pub differing_ascend : (base : List Object) (es : List (ℕ × Object)) (made : List Object) → IsAscending (λ (e : ℕ × Object). e.0) es
    → IsAscending by_number (other_objects base es ++ numbered_from (length base) made)
differing_ascend base [] made h = made_ascend (length base) made
differing_ascend base (e ∷ es) made h = by (is_other base e.0 e.1) refl (differing_ascend base es made h.1)
  where
    by : (b : Bool) → is_other base e.0 e.1 ≡ b → IsAscending by_number (other_objects base es ++ numbered_from (length base) made)
        → IsAscending by_number ((if b then (record { 0 = e.0 }, e.1) ∷ other_objects base es else other_objects base es) ++ numbered_from (length base) made)
    by true is rest = (
      above_both e.0 (other_objects base es) (numbered_from (length base) made) (above_others base e.0 es h.0)
          (above_made e.0 (length base) made (within base e.0 e.1 is)),
      rest,
    )
    by false is rest = rest

-- Put in again.

not_lower : (n : ℕ) → nat_lt n n ≡ false
not_lower n = grind arith

is_lower : (m n : ℕ) → m < n → nat_lt m n ≡ true
is_lower m n h = grind arith

with_made : (os made : List Object) (n : ℕ) → n ≡ length os → with_objects os (numbered_from n made) ≡ os ++ made
with_made os [] n e = sym (append_nil os)
  where
    append_nil : (xs : List Object) → xs ++ [] ≡ xs
    append_nil [] = refl
    append_nil (x ∷ xs) = ap (λ r. x ∷ r) (append_nil xs)
with_made os (o ∷ made) n e =
    ap (λ b. with_objects (if b then set os n o else os ++ o ∷ []) (numbered_from (suc n) made)) (subst (λ (m : ℕ). nat_lt n m ≡ false) e (not_lower n))
    ∙ with_made (os ++ o ∷ []) made (suc n) (let l : length (os ++ o ∷ []) ≡ length os + 1 = length-append os (o ∷ []) in omega arith)
    ∙ append_assoc os (o ∷ []) made

with_both : (os : List Object) (xs ys : List (ObjectId × Object)) → with_objects os (xs ++ ys) ≡ with_objects (with_objects os xs) ys
with_both os [] ys = refl
with_both os (x ∷ xs) ys = with_both (if nat_lt x.0.0 (length os) then set os x.0.0 x.1 else os ++ x.1 ∷ []) xs ys

-- the objects at the numbers of these changes are those of the base
SameAt : List Object → List Object → List (ℕ × Object) → Type 0
SameAt base os [] = Unit {0}
SameAt base os (e ∷ es) = (slice_get os e.0 ≡ slice_get base e.0) × SameAt base os es

same_at_base : (base : List Object) (es : List (ℕ × Object)) → SameAt base base es
unfolding SameAt
same_at_base base [] = tt
same_at_base base (e ∷ es) = (refl, same_at_base base es)

get_beyond : (xs : List Object) (n m : ℕ) (o : Object) → n < m → slice_get (set xs n o) m ≡ slice_get xs m
get_beyond [] n m o h = refl
get_beyond (x ∷ xs) zero zero o h = absurd (omega arith)
get_beyond (x ∷ xs) zero (suc m) o h = refl
get_beyond (x ∷ xs) (suc n) zero o h = absurd (omega arith)
get_beyond (x ∷ xs) (suc n) (suc m) o h = get_beyond xs n m o (omega arith)

same_at_set : (base os : List Object) (n : ℕ) (o : Object) (es : List (ℕ × Object)) → IsBelowAll (λ (e : ℕ × Object). e.0) n es
    → SameAt base os es → SameAt base (set os n o) es
unfolding SameAt
same_at_set base os n o [] below h = tt
same_at_set base os n o (e ∷ es) below h = (get_beyond os n e.0 o below.0 ∙ h.0, same_at_set base os n o es below.1 h.1)

none_below : (n : ℕ) (es : List (ℕ × Object)) → IsBelowAll (λ (e : ℕ × Object). e.0) n es → changed_at n es ≡ None
none_below n [] h = refl
none_below n (e ∷ es) h = ap (λ b. if b then Some e.1 else changed_at n es) (apart n e.0 h.0) ∙ none_below n es h.1
  where
    apart : (m k : ℕ) → m < k → nat_eq m k ≡ false
    apart m k l = grind arith

number_apart : (m k : ℕ) → k < m → nat_eq m k ≡ false
number_apart m k h = grind arith

number_before : (m k : ℕ) → m < k → nat_eq m k ≡ false
number_before m k h = grind arith

-- a change laid over objects is the others laid over the objects with it
laid_cons : (n : ℕ) (o : Object) (es : List (ℕ × Object)) → changed_at n es ≡ None → (k i : ℕ) (os : List Object) → k + i ≡ n
    → laid_from ((n, o) ∷ es) k os ≡ laid_from es k (set os i o)
laid_cons n o es none k i [] e = refl
laid_cons n o es none k zero (x ∷ os) e =
    let s : k ≡ n = omega arith in
    ap (λ b. unwrap_or (if b then Some o else changed_at k es) x ∷ laid_from ((n, o) ∷ es) (suc k) os) (eq-eqb k n s)
    ∙ ap (λ r. o ∷ r) (laid_same es ((n, o) ∷ es) (suc k) os (λ m l. ap (λ b. if b then Some o else changed_at m es) (number_apart m n (omega arith))))
    ∙ ap (λ r. unwrap_or r o ∷ laid_from es (suc k) os) (sym (subst (λ (m : ℕ). changed_at m es ≡ None) (sym s) none))
laid_cons n o es none k (suc i) (x ∷ os) e =
    ap (λ b. unwrap_or (if b then Some o else changed_at k es) x ∷ laid_from ((n, o) ∷ es) (suc k) os) (number_before k n (omega arith))
    ∙ ap (λ r. unwrap_or (changed_at k es) x ∷ r) (laid_cons n o es none (suc k) i os (omega arith))

set_no_other : (base os : List Object) (n : ℕ) (o : Object) → slice_get os n ≡ slice_get base n → is_other base n o ≡ false → set os n o ≡ os
set_no_other base os n o e h = set_same os n o (slice_get base n) e h
  where
    set_same : (xs : List Object) (m : ℕ) (y : Object) (r : Option Object) → slice_get xs m ≡ r → option_map_or (λ b. not (same_object b y)) r false ≡ false → set xs m y ≡ xs
    set_same [] m y r e h = refl
    set_same (x ∷ xs) zero y None e h = cc
    set_same (x ∷ xs) zero y (Some z) e h =
        let s : x ≡ z = cc in
        let t : z ≡ y = object_is z y (not_false (same_object z y) h) in
        ap (λ w. w ∷ xs) (sym (s ∙ t))
      where
        not_false : (b : Bool) → not b ≡ false → b ≡ true
        not_false true g = refl
        not_false false g = absurd (true≢false g)
    set_same (x ∷ xs) (suc m) y r e h = ap (λ w. x ∷ w) (set_same xs m y r e h)

with_others : (base os : List Object) (es : List (ℕ × Object)) → length os ≡ length base → IsAscending (λ (e : ℕ × Object). e.0) es → SameAt base os es
    → with_objects os (other_objects base es) ≡ laid_from es 0 os
unfolding SameAt
with_others base os [] l h same = sym (laid_none 0 os)
  where
    laid_none : (k : ℕ) (xs : List Object) → laid_from [] k xs ≡ xs
    laid_none k [] = refl
    laid_none k (x ∷ xs) = ap (λ r. x ∷ r) (laid_none (suc k) xs)
with_others base os (e ∷ es) l h same =
    by (is_other base e.0 e.1) refl
    (with_others base (set os e.0 e.1) es (length-set os e.0 e.1 ∙ l) h.1 (same_at_set base os e.0 e.1 es h.0 same.1))
    (with_others base os es l h.1 same.1)
    ∙ sym (laid_cons e.0 e.1 es (none_below e.0 es h.0) 0 e.0 os (zero-add e.0))
  where
    by : (b : Bool) → is_other base e.0 e.1 ≡ b
        → with_objects (set os e.0 e.1) (other_objects base es) ≡ laid_from es 0 (set os e.0 e.1)
        → with_objects os (other_objects base es) ≡ laid_from es 0 os
        → with_objects os (if b then (record { 0 = e.0 }, e.1) ∷ other_objects base es else other_objects base es) ≡ laid_from es 0 (set os e.0 e.1)
    by true is rest kept =
        ap (λ b. with_objects (if b then set os e.0 e.1 else os ++ e.1 ∷ []) (other_objects base es))
        (is_lower e.0 (length os) (let w = within base e.0 e.1 is in omega arith)) ∙ rest
    by false is rest kept = kept ∙ ap (laid_from es 0) (sym (set_no_other base os e.0 e.1 same.0 is))

pub differing_applied : (base : List Object) (c : Changes) → IsAscending (λ (e : ℕ × Object). e.0) c.changed
    → with_objects base (differing base c) ≡ laid_over base c
differing_applied base c h =
    with_both base (other_objects base c.changed) (numbered_from (length base) c.made)
    ∙ ap (λ os. with_objects os (numbered_from (length base) c.made)) (with_others base base c.changed refl h (same_at_base base c.changed))
    ∙ with_made (laid_from c.changed 0 base) c.made (length base) (sym (length-laid c.changed 0 base))

-- Objects after a delta, and what differs then.
use Rattle.std.proofs.Common.{◌≡◌, ◌∙◌, ℕ, suc, ◌+◌, ◌<◌, ◌≤◌, Bool, true, false, cond, List, [], ◌∷◌, ◌++◌, length, map, set, Option, Some, refl, sym, ap, subst, arith, append_assoc, append-nil, length-append}
use Rattle.std.specs.Prelude.{nat_eq, not, filter, slice_get, option_map, bytes_eq, if◌then◌else◌}
use Rattle.std.specs.Option.{option_map_or}
use Rattle.std.proofs.lemmas.List.{set_at}
use Rattle.std.proofs.lemmas.Option.{slice_get-map}
use Rattle.std.proofs.lemmas.Slice.Eq.{bytes_eq-Decides}
use Rattle.ob_base.specs.declared.id.ObjectId.{ObjectId}
use Rattle.ob_table.specs.Tables.{ClassTable}
use Rattle.ob_heap.specs.declared.object.Object.{Object}
use Rattle.ob_heap.specs.Ascending.{IsBelowAll, IsAscending}
use Rattle.ob_heap.specs.Deltas.{AreNext}
use Rattle.ob_heap.specs.Differences.{with_objects}
use Rattle.ob_heap.specs.Plain.{object_of}
use Rattle.ob_heap_spec.specs.Objects.{Object as PlainObject}
use Rattle.ob_store_spec.specs.Payloads.{StoredObject, object}
use Rattle.ob_store_spec.specs.Between.{stored_object, stored_from, is_stored_so}
use Rattle.ob_store_laws.specs.Recorded.{object_change}
use Rattle.ob_store_laws.proofs.Tails.{IsTail, whole_tail, rest_tail, first_of_tail, length_more, is_lower, not_lower}

-- an object with its number
abbrev pub Numbered : Type 0
Numbered = ObjectId × Object

-- objects, of which the first has this number, with these in the places of those of their numbers, or behind them
abbrev pub laid : ℕ → List Object → List Numbered → List Object
laid n [] es = map (λ e. e.1) es
laid n (o ∷ os) [] = o ∷ os
laid n (o ∷ os) (e ∷ es) = cond (nat_eq e.0.0 n) (e.1 ∷ laid (suc n) os es) (o ∷ laid (suc n) os (e ∷ es))

-- the first of these has this number or a later one
abbrev pub IsFrom : ℕ → List Numbered → Type 0
IsFrom n [] = Unit {0}
IsFrom n (e ∷ es) = n ≤ e.0.0

abbrev pub Ascend : List Numbered → Type 0
Ascend es = IsAscending (λ (e : Numbered). e.0.0) es

pub from_below : (n m : ℕ) (es : List Numbered) → n ≡ m → IsBelowAll (λ (e : Numbered). e.0.0) m es → IsFrom (suc n) es
from_below n m [] same b = tt
from_below n m (e ∷ es) same b = let low = b.0 in omega arith

pub same_number : (m n : ℕ) → nat_eq m n ≡ true → m ≡ n
same_number m n h = grind arith

pub later_number : (m n : ℕ) → nat_eq m n ≡ false → n ≤ m → suc n ≤ m
later_number m n h l = grind arith

-- those past the others have the next numbers
next_number : (n : ℕ) (e : Numbered) (es : List Numbered) → IsFrom n (e ∷ es) → AreNext n (e ∷ es) → e.0.0 ≡ n
next_number n e es from next = let a = next.0 in omega arith

next_past : (n : ℕ) (e : Numbered) (es : List Numbered) → IsFrom n (e ∷ es) → AreNext n (e ∷ es) → AreNext (suc n) es
next_past n e es from next = subst (λ b. AreNext (if b then n else suc n) es) (not_lower e.0.0 n (next_number n e es from next)) next.1

pub next_within : (n : ℕ) (e : Numbered) (es : List Numbered) → e.0.0 < n → AreNext n (e ∷ es) → AreNext n es
next_within n e es low next = subst (λ b. AreNext (if b then n else suc n) es) (is_lower e.0.0 n low) next.1

-- Objects after a delta.

past : (front : List Object) (es : List Numbered) (n : ℕ) → n ≡ length front → Ascend es → IsFrom n es → AreNext n es
    → with_objects front es ≡ front ++ map (λ e. e.1) es
past front [] n is up from next = sym (append-nil front)
past front (e ∷ es) n is up from next =
    let same = next_number n e es from next in
    ap (λ b. with_objects (if b then set front e.0.0 e.1 else front ++ e.1 ∷ []) es) (not_lower e.0.0 (length front) (same ∙ is))
    ∙ past (front ++ e.1 ∷ []) es (suc n) (length_more front n e.1 is) up.1 (from_below n e.0.0 es (sym same) up.0) (next_past n e es from next)
    ∙ append_assoc front (e.1 ∷ []) (map (λ d. d.1) es)

pub within : (front os : List Object) (es : List Numbered) (n count : ℕ) → n ≡ length front → count ≡ n + length os → Ascend es → IsFrom n es → AreNext count es
    → with_objects (front ++ os) es ≡ front ++ laid n os es
within front [] es n count is all up from next =
    let none : count ≡ n = omega arith in
    ap (λ xs. with_objects xs es) (append-nil front) ∙ past front es n is up from (subst (λ k. AreNext k es) none next)
within front (o ∷ os) [] n count is all up from next = refl
within front (o ∷ os) (e ∷ es) n count is all up from next =
    by (nat_eq e.0.0 n) refl
    (λ same. within (front ++ e.1 ∷ []) os es (suc n) count (length_more front n e.1 is) (omega arith) up.1 (from_below n e.0.0 es (sym same) up.0)
    (next_within count e es (omega arith) next))
    (λ later. within (front ++ o ∷ []) os (e ∷ es) (suc n) count (length_more front n o is) (omega arith) up later next)
  where
    total : length (front ++ o ∷ os) ≡ count
    total = let l = length-append front (o ∷ os) in omega arith

    by : (b : Bool) → nat_eq e.0.0 n ≡ b
        → (e.0.0 ≡ n → with_objects ((front ++ e.1 ∷ []) ++ os) es ≡ (front ++ e.1 ∷ []) ++ laid (suc n) os es)
        → (suc n ≤ e.0.0 → with_objects ((front ++ o ∷ []) ++ os) (e ∷ es) ≡ (front ++ o ∷ []) ++ laid (suc n) os (e ∷ es))
        → with_objects (front ++ o ∷ os) (e ∷ es) ≡ front ++ cond b (e.1 ∷ laid (suc n) os es) (o ∷ laid (suc n) os (e ∷ es))
    by true here set_here behind =
        let same = same_number e.0.0 n here in
        ap (λ b. with_objects (if b then set (front ++ o ∷ os) e.0.0 e.1 else (front ++ o ∷ os) ++ e.1 ∷ []) es)
        (is_lower e.0.0 (length (front ++ o ∷ os)) (omega (arith, total)))
        ∙ ap (λ xs. with_objects xs es) (set_at front o os e.1 e.0.0 (sym is ∙ sym same) ∙ sym (append_assoc front (e.1 ∷ []) os))
        ∙ set_here same ∙ append_assoc front (e.1 ∷ []) (laid (suc n) os es)
    by false there set_here behind =
        ap (λ xs. with_objects xs (e ∷ es)) (sym (append_assoc front (o ∷ []) os))
        ∙ behind (later_number e.0.0 n there from) ∙ append_assoc front (o ∷ []) (laid (suc n) os (e ∷ es))

-- What differs.

-- whether an object, if there is one, is stored as this one of a number
abbrev pub stored_as : ClassTable → ℕ → PlainObject → Option PlainObject → Bool
stored_as table n o r =
    option_map_or (λ x. bytes_eq ((object table).bytes (stored_object table n x)) ((object table).bytes (stored_object table n o))) r false

module _ (table : ClassTable) (base : List Object) where
  -- whether an object isn't stored so in the base
  abbrev is_new : StoredObject → Bool
  is_new o = not (is_stored_so table (map object_of base) o)

  -- those of these that aren't stored so, from a number on
  abbrev new_from : ℕ → List Object → List StoredObject
  new_from n os = filter is_new (stored_from table n (map object_of os))

  old : (n : ℕ) (o : Object) → slice_get base n ≡ Some o → is_new (stored_object table n (object_of o)) ≡ false
  old n o at =
      ap (λ r. not (stored_as table n (object_of o) r))
      (slice_get-map object_of base n ∙ ap (option_map object_of) at)
      ∙ ap not ((bytes_eq-Decides ((object table).bytes (stored_object table n (object_of o))) ((object table).bytes (stored_object table n (object_of o)))).1 refl)

  none_new : (n : ℕ) (os : List Object) → IsTail base n os → new_from n os ≡ []
  none_new n [] h = refl
  none_new n (o ∷ os) h =
      ap (λ b. cond b (stored_object table n (object_of o) ∷ new_from (suc n) os) (new_from (suc n) os))
      (old n o (first_of_tail base n o os h))
      ∙ none_new (suc n) os (rest_tail base n o os h)

  pub stored_past : (n : ℕ) (es : List Numbered) → Ascend es → IsFrom n es → AreNext n es
      → stored_from table n (map object_of (map (λ e. e.1) es)) ≡ map (object_change table) es
  stored_past n [] up from next = refl
  stored_past n (e ∷ es) up from next =
      let same = next_number n e es from next in
      ap (λ m. stored_object table m (object_of e.1) ∷ stored_from table (suc n) (map object_of (map (λ d. d.1) es))) (sym same)
      ∙ ap (λ os. object_change table e ∷ os) (stored_past (suc n) es up.1 (from_below n e.0.0 es (sym same) up.0) (next_past n e es from next))

  news_within : (n count : ℕ) (os : List Object) (es : List Numbered) → count ≡ n + length os → IsTail base n os → Ascend es → IsFrom n es → AreNext count es
      → new_from n (laid n os es) ≡ filter is_new (map (object_change table) es)
  news_within n count [] es all h up from next =
      let none : count ≡ n = omega arith in ap (filter is_new) (stored_past n es up from (subst (λ k. AreNext k es) none next))
  news_within n count (o ∷ os) [] all h up from next = none_new n (o ∷ os) h
  news_within n count (o ∷ os) (e ∷ es) all h up from next =
      by (nat_eq e.0.0 n) refl
      (λ same. news_within (suc n) count os es (omega arith) (rest_tail base n o os h) up.1 (from_below n e.0.0 es (sym same) up.0)
      (next_within count e es (omega arith) next))
      (λ later. news_within (suc n) count os (e ∷ es) (omega arith) (rest_tail base n o os h) up later next)
    where
      kept : List StoredObject → StoredObject → List StoredObject
      kept rest o = cond (is_new o) (o ∷ rest) rest

      by : (b : Bool) → nat_eq e.0.0 n ≡ b
          → (e.0.0 ≡ n → new_from (suc n) (laid (suc n) os es) ≡ filter is_new (map (object_change table) es))
          → (suc n ≤ e.0.0 → new_from (suc n) (laid (suc n) os (e ∷ es)) ≡ filter is_new (map (object_change table) (e ∷ es)))
          → filter is_new (stored_from table n (map object_of (cond b (e.1 ∷ laid (suc n) os es) (o ∷ laid (suc n) os (e ∷ es)))))
          ≡ filter is_new (map (object_change table) (e ∷ es))
      by true here rest behind =
          let same = same_number e.0.0 n here in
          ap (λ m. kept (new_from (suc n) (laid (suc n) os es)) (stored_object table m (object_of e.1))) (sym same)
          ∙ ap (λ r. kept r (object_change table e)) (rest same)
      by false there rest behind =
          ap (λ b. cond b (stored_object table n (object_of o) ∷ new_from (suc n) (laid (suc n) os (e ∷ es)))
          (new_from (suc n) (laid (suc n) os (e ∷ es))))
          (old n o (first_of_tail base n o os h))
          ∙ behind (later_number e.0.0 n there from)

  pub news_differ : (es : List Numbered) → Ascend es → AreNext (length base) es
      → filter is_new (map (object_change table) es) ≡ filter is_new (stored_from table 0 (map object_of (with_objects base es)))
  news_differ es up next =
      sym (ap (λ os. filter is_new (stored_from table 0 (map object_of os))) (within [] base es 0 (length base) refl all up (from es) next)
      ∙ news_within 0 (length base) base es all (whole_tail base) up (from es) next)
    where
      all : length base ≡ 0 + length base
      all = omega arith

      from : (es : List Numbered) → IsFrom 0 es
      from [] = tt
      from (e ∷ es) = omega arith

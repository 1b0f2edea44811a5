-- The objects of a content after a delta, as they are written.
use Rattle.std.proofs.Common.{◌≡◌, ◌∙◌, ℕ, suc, ◌+◌, ◌≤◌, ◌^◌, Bool, true, false, cond, List, [], ◌∷◌, ◌++◌, length, map, set, refl, sym, ap, subst, append_assoc, length-append, length-set, arith}
use Rattle.std.specs.Prelude.{nat_eq, nat_lt, if◌then◌else◌}
use Rattle.std.proofs.lemmas.List.{length-map}
use Rattle.ob_base.specs.Bytes.{u32_bytes}
use Rattle.ob_table.specs.Tables.{ClassTable}
use Rattle.ob_format_spec.specs.Combinators.{each_bytes, counted}
use Rattle.ob_heap.specs.Deltas.{AreNext}
use Rattle.ob_heap.specs.Differences.{with_objects}
use Rattle.ob_heap.specs.Plain.{object_of}
use Rattle.ob_heap.specs.declared.object.Object.{Object}
use Rattle.ob_store_laws.specs.Recorded.{object_change}
use Rattle.ob_store_laws.proofs.Objects.{Numbered, laid, IsFrom, Ascend, from_below, same_number, later_number, next_within, within, stored_past}
use Rattle.ob_store_laws.proofs.Differing.{length-stored}
use Rattle.ob_store_spec.specs.Payloads.{object}
use Rattle.ob_store_spec.specs.Between.{stored_object, stored_from}
use Rattle.ob_store_payload.specs.Whole.{stored_with, objects_with}

-- a delta takes no object away
pub more_with : (os : List Object) (es : List Numbered) → length os ≤ length (with_objects os es)
more_with os [] = omega arith
more_with os (e ∷ es) =
    let rest = more_with (if nat_lt e.0.0 (length os) then set os e.0.0 e.1 else os ++ e.1 ∷ []) es in
    let one = by (nat_lt e.0.0 (length os)) in
    omega (arith, rest, one)
  where
    by : (b : Bool) → length os ≤ length (if b then set os e.0.0 e.1 else os ++ e.1 ∷ [])
    by true = let l = length-set os e.0.0 e.1 in omega arith
    by false = let l = length-append os (e.1 ∷ []) in omega arith

module _ (table : ClassTable) where
  -- without a delta
  stored_alone : (n : ℕ) (os : List Object) → stored_with table n os [] ≡ stored_from table n (map object_of os)
  stored_alone n [] = refl
  stored_alone n (o ∷ os) = ap (λ l. stored_object table n (object_of o) ∷ l) (stored_alone (suc n) os)

  laid_stored : (n count : ℕ) (os : List Object) (es : List Numbered) → count ≡ n + length os → Ascend es → IsFrom n es → AreNext count es
      → stored_with table n os es ≡ stored_from table n (map object_of (laid n os es))
  laid_stored n count [] es all up from next =
      let none : count ≡ n = omega arith in sym (stored_past table [] n es up from (subst (λ k. AreNext k es) none next))
  laid_stored n count (o ∷ os) [] all up from next = stored_alone n (o ∷ os)
  laid_stored n count (o ∷ os) (e ∷ es) all up from next =
      by (nat_eq e.0.0 n) refl
      (λ same. laid_stored (suc n) count os es (omega arith) up.1 (from_below n e.0.0 es (sym same) up.0) (next_within count e es (omega arith) next))
      (λ later. laid_stored (suc n) count os (e ∷ es) (omega arith) up later next)
    where
      by : (b : Bool) → nat_eq e.0.0 n ≡ b
          → (e.0.0 ≡ n → stored_with table (suc n) os es ≡ stored_from table (suc n) (map object_of (laid (suc n) os es)))
          → (suc n ≤ e.0.0 → stored_with table (suc n) os (e ∷ es) ≡ stored_from table (suc n) (map object_of (laid (suc n) os (e ∷ es))))
          → (if b then object_change table e ∷ stored_with table (suc n) os es else stored_object table n (object_of o) ∷ stored_with table (suc n) os (e ∷ es))
          ≡ stored_from table n (map object_of (cond b (e.1 ∷ laid (suc n) os es) (o ∷ laid (suc n) os (e ∷ es))))
      by true here rest behind =
          let same = same_number e.0.0 n here in
          ap (λ l. object_change table e ∷ l) (rest same)
          ∙ ap (λ m. stored_object table m (object_of e.1) ∷ stored_from table (suc n) (map object_of (laid (suc n) os es))) same
      by false there rest behind = ap (λ l. stored_object table n (object_of o) ∷ l) (behind (later_number e.0.0 n there from))

  -- what is written of the objects after a delta is said of all of them
  pub stored_whole : (base : List Object) (es : List Numbered) → Ascend es → AreNext (length base) es
      → stored_with table 0 base es ≡ stored_from table 0 (map object_of (with_objects base es))
  stored_whole base es up next =
      laid_stored 0 (length base) base es (omega arith) up (from es) next
      ∙ sym (ap (λ os. stored_from table 0 (map object_of os)) (within [] base es 0 (length base) refl (omega arith) up (from es) next))
    where
      from : (es : List Numbered) → IsFrom 0 es
      from [] = tt
      from (e ∷ es) = omega arith

  -- All objects after a delta.

  pub few_before : (base objects : List Object) (es : List Numbered) (count : ℕ) → objects ≡ base → count ≡ length (with_objects base es) → count ≤ 4294967295
      → length objects ≤ 2 ^ 32
  few_before base objects es count same counts few = let more = more_with base es in omega (arith, more, counts, few, ap length same)

  -- what is written of them, behind the count
  pub objects_whole : (base objects : List Object) (es : List Numbered) (count : ℕ) (old mid new : List ℕ) → Ascend es → AreNext (length base) es → objects ≡ base
      → count ≡ length (with_objects base es) → mid ≡ old ++ u32_bytes count → new ≡ mid ++ objects_with table 0 objects es
      → new ≡ old ++ (counted (object table)).bytes (stored_from table 0 (map object_of (with_objects base es)))
  objects_whole base objects es count old mid new up next same counts put rest =
      let after = with_objects base es in
      let all = stored_from table 0 (map object_of after) in
      let many : count ≡ length all = counts ∙ sym (length-map after object_of) ∙ sym (length-stored table 0 (map object_of after)) in
      rest
      ∙ ap (λ l. mid ++ objects_with table 0 l es) same
      ∙ ap (λ l. mid ++ each_bytes (object table).bytes l) (stored_whole base es up next)
      ∙ ap (λ l. l ++ each_bytes (object table).bytes all) put
      ∙ append_assoc old (u32_bytes count) (each_bytes (object table).bytes all)
      ∙ ap (λ n. old ++ (u32_bytes n ++ each_bytes (object table).bytes all)) many

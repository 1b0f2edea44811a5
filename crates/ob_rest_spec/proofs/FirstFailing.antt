-- A store is at rest exactly where no object is the first that fails.
use Rattle.std.proofs.Common.{◌≡◌, ◌↔◌, ◌⊎◌, inl, inr, ℕ, zero, suc, ◌+◌, ◌<◌, ◌≤◌, Bool, true, false, List, [], ◌∷◌, length, Option, Some, None, refl, arith}
use Rattle.std.specs.Prelude.{find, cond, nat_lt}
use Rattle.std.specs.List.{range_with_len}
use Rattle.ob_table.specs.Tables.{ClassTable}
use Rattle.ob_heap_spec.specs.Contents.{Content}
use Rattle.ob_rest_spec.specs.Failing.{failing_ways}
use Rattle.ob_rest_spec.specs.AtRest.{IsAtRest, fails, first_failing_object}

-- a list without a first item is empty
no_items : {X : Type 0} (xs : List X) → nat_lt 0 (length xs) ≡ false → xs ≡ []
no_items [] e = refl
no_items (x ∷ xs) e = absurd (grind arith)

-- a test that finds nothing at a head
not_found : {X : Type 0} (x : X) (found : Option X) (b : Bool) → cond b (Some x) found ≡ None
    → (b ≡ false) × (found ≡ None)
not_found x found true e = absurd cc
not_found x found false e = (refl, e)

-- a number from one on is that one, or comes after it
at_or_after : (from k : ℕ) → from ≤ k → (k ≡ from) ⊎ (from + 1 ≤ k)
at_or_after from k low = grind arith

-- what is found at none of the numbers from one on holds of none of them
none_found : (test : ℕ → Bool) (from n k : ℕ) → find test (range_with_len from n) ≡ None → from ≤ k → k < from + n
    → test k ≡ false
none_found test from zero k e low high = absurd (omega arith)
none_found test from (suc n) k e low high =
    let first = not_found from (find test (range_with_len (from + 1) n)) (test from) e in
    elim (at_or_after from k low) [
      | inl same ↦ rw same first.0
      | inr later ↦ none_found test (from + 1) n k first.1 later (omega arith)
    ]

-- what holds of none of the numbers from one on is found at none
finds_none : (test : ℕ → Bool) (from n : ℕ) → ((k : ℕ) → from ≤ k → k < from + n → test k ≡ false)
    → find test (range_with_len from n) ≡ None
finds_none test from zero none = refl
finds_none test from (suc n) none =
    rw (none from (omega arith) (omega arith))
    (finds_none test (from + 1) n (λ k low high. none k (omega arith) (omega arith)))

pub told : (table : ClassTable) (content : Content)
    → (first_failing_object table content ≡ None) ↔ IsAtRest table content
told table content = (
  λ e n inside. no_items (failing_ways table content n)
      (none_found (fails table content) 0 (length content.objects) n e (omega arith) (omega arith)),
  λ rest. finds_none (fails table content) 0 (length content.objects) (λ k low high. rw (rest k (omega arith)) refl),
)

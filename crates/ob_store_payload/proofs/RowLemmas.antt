-- Rows of bytes and their count.
use Rattle.std.proofs.Common.{◌≡◌, ◌∙◌, ℕ, ◌<◌, ◌+◌, Bool, true, false, cond, List, [], ◌∷◌, ◌++◌, length, map, take, get_or, refl, sym, ap, append_assoc, append-nil, length-append}
use Rattle.std.specs.Prelude.{filter}
use Rattle.std.proofs.lemmas.List.{take_more, map-append}
use Rattle.std.proofs.lemmas.List.Elements.{filter-append}
use Rattle.ob_format_spec.specs.Combinators.{each_bytes}
use Rattle.ob_store_payload.specs.declared.rows.Rows.{Rows}
use Rattle.ob_store_payload.specs.Rows.{IsWithRow, AreRows, AreWithRow}

pub each_bytes-append : {A : Type 0} (spelled : A → List ℕ) (xs ys : List A) → each_bytes spelled (xs ++ ys) ≡ each_bytes spelled xs ++ each_bytes spelled ys
each_bytes-append spelled [] ys = refl
each_bytes-append spelled (x ∷ xs) ys = ap (λ l. spelled x ++ l) (each_bytes-append spelled xs ys) ∙ sym (append_assoc (spelled x) (each_bytes spelled xs) (each_bytes spelled ys))

module _ {A : Type 0} (spelled : A → List ℕ) (test : A → Bool) (x : A) where
  -- a value that doesn't pass leaves the rows
  pub row_left : (rows : Rows) → test x ≡ false → AreWithRow spelled test x rows rows
  row_left rows fails xs are =
      let same : xs ++ filter test (x ∷ []) ≡ xs = ap (λ b. xs ++ cond b (x ∷ []) []) fails ∙ append-nil xs in
      record { count = are.count ∙ sym (ap length same); bytes = are.bytes ∙ sym (ap (each_bytes spelled) same) }

  -- the row of one that passes
  pub row_added : (row : List ℕ) (old new : Rows) → test x ≡ true → row ≡ spelled x → IsWithRow row old new → AreWithRow spelled test x old new
  row_added row old new passes is added xs are =
      let more : xs ++ filter test (x ∷ []) ≡ xs ++ x ∷ [] = ap (λ b. xs ++ cond b (x ∷ []) []) passes in
      let count : length (xs ++ x ∷ []) ≡ length xs + 1 = length-append xs (x ∷ []) in
      record {
        count = added.count ∙ ap (λ n. n + 1) are.count ∙ sym count ∙ sym (ap length more);
        bytes =
            added.bytes ∙ ap (λ l. l ++ row) are.bytes ∙ ap (λ l. each_bytes spelled xs ++ l) (is ∙ sym (append-nil (spelled x)))
            ∙ sym (each_bytes-append spelled xs (x ∷ [])) ∙ sym (ap (each_bytes spelled) more);
      }

module _ {A E : Type 0} (spelled : A → List ℕ) (test : A → Bool) (f : E → A) where
  -- the rows of one more entry
  pub rows_step : (items : List E) (i : ℕ) (e : E) (old new : Rows) → i < length items → e ≡ get_or items i e
      → AreRows spelled (filter test (map f (take i items))) old → AreWithRow spelled test (f e) old new
      → AreRows spelled (filter test (map f (take (i + 1) items))) new
  rows_step items i e old new less is are added =
      let one : take (i + 1) items ≡ take i items ++ e ∷ [] = take_more items i e less ∙ ap (λ y. take i items ++ y ∷ []) (sym is) in
      let kept : filter test (map f (take (i + 1) items)) ≡ filter test (map f (take i items)) ++ filter test (f e ∷ []) =
      ap (λ l. filter test (map f l)) one ∙ ap (filter test) (map-append f (take i items) (e ∷ [])) ∙ filter-append test (map f (take i items)) (f e ∷ []) in
      let all = added (filter test (map f (take i items))) are in
      record { count = all.count ∙ sym (ap length kept); bytes = all.bytes ∙ sym (ap (each_bytes spelled) kept) }

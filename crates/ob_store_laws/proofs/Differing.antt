-- What differs between two contents leads from the first to the second, where what is spelled alike is the same.
use Rattle.std.proofs.Common.{◌≡◌, ◌∙◌, ℕ, suc, ◌<◌, ◌≤◌, Bool, true, false, cond, List, [], ◌∷◌, ◌++◌, length, set, Option, Some, None, refl, sym, ap, subst, arith, append_assoc, append-nil, length-append}
use Rattle.std.specs.Prelude.{nat_lt, not, filter, fold, slice_get, All, AllPairs, option_map, if◌then◌else◌}
use Rattle.std.specs.Option.{option_or, unwrap_or}
use Rattle.std.specs.FinMap.Entries.{same_entries}
use Rattle.std.proofs.lemmas.List.{set_at}
use Rattle.std.proofs.lemmas.List.Elements.{All-nil, All-cons}
use Rattle.std.proofs.lemmas.List.Kept.{AllPairs-cons}
use Rattle.std.proofs.lemmas.Option.{slice_get_past}
use Rattle.std.proofs.lemmas.Slice.Eq.{bytes_eq-Decides}
use Rattle.ob_table.specs.Tables.{ClassTable}
use Rattle.ob_heap_spec.specs.Objects.{Object}
use Rattle.ob_heap_spec.specs.Contents.{HandleName, Handle, Content, name_order}
use Rattle.ob_heap_spec.specs.Handles.{NamedHandle}
use Rattle.ob_heap_spec.proofs.Names.{names_total}
use Rattle.ob_heap_spec.proofs.Names.{one_name}
use Rattle.ob_store_spec.specs.Payloads.{StoredObject, object, held}
use Rattle.ob_store_spec.specs.Changes.{object_of, with_object, with_change, AreNext}
use Rattle.ob_store_spec.specs.Between.{stored_object, stored_from, is_stored_so, is_held_so}
use Rattle.ob_store_laws.proofs.Entries.{passing, find-filter, sorted_filter}
use Rattle.ob_store_laws.proofs.Handles.{Change, at, InOrder, is_new, of_both, found_both, found_changed, sorted_both, sorted_changed}
use Rattle.ob_store_laws.proofs.Objects.{stored_as}
use Rattle.ob_store_laws.proofs.Tails.{IsTail, rest_tail, first_of_tail, rest_of_none, none_in_tail, length_more, is_lower, not_lower}

holds : (b : Bool) → not b ≡ false → b ≡ true
holds true e = refl
holds false e = absurd cc

-- Objects.

module _ (table : ClassTable) (before after : List Object) where
  -- whether an object isn't stored so before
  abbrev pub differs : StoredObject → Bool
  differs o = not (is_stored_so table before o)

  -- those that differ, from a number on
  abbrev pub changed_from : ℕ → List Object → List StoredObject
  changed_from n xs = filter differs (stored_from table n xs)

  -- those after are again the same, and those that are stored so are those before
  pub record AreTold : Type 0 where
    pub again : (n : ℕ) (a : Object) → slice_get after n ≡ Some a → object_of table (stored_object table n a) ≡ a
    pub same : (n : ℕ) (a b : Object) → slice_get after n ≡ Some a → slice_get before n ≡ Some b
        → (object table).bytes (stored_object table n b) ≡ (object table).bytes (stored_object table n a) → b ≡ a

  pub new_differs : (n : ℕ) (a : Object) → slice_get before n ≡ None → differs (stored_object table n a) ≡ true
  new_differs n a none = ap (λ r. not (stored_as table n a r)) none

  same_bytes : (n : ℕ) (a b : Object) → slice_get before n ≡ Some b → differs (stored_object table n a) ≡ false
      → (object table).bytes (stored_object table n b) ≡ (object table).bytes (stored_object table n a)
  same_bytes n a b there so =
      (bytes_eq-Decides ((object table).bytes (stored_object table n b)) ((object table).bytes (stored_object table n a))).0
      (sym (ap (stored_as table n a) there) ∙ holds (is_stored_so table before (stored_object table n a)) so)

  module _ (told : AreTold) where
    put_behind : (front : List Object) (n : ℕ) (a : Object) → n ≡ length front → slice_get after n ≡ Some a
        → with_object table (front ++ []) (stored_object table n a) ≡ (front ++ a ∷ []) ++ []
    put_behind front n a is there =
        ap (λ os. with_object table os (stored_object table n a)) (append-nil front)
        ∙ ap (λ b. if b then set front n (object_of table (stored_object table n a)) else front ++ object_of table (stored_object table n a) ∷ [])
        (not_lower n (length front) is)
        ∙ ap (λ o. front ++ o ∷ []) (told.again n a there) ∙ sym (append-nil (front ++ a ∷ []))

    set_there : (front bs : List Object) (n : ℕ) (a b : Object) → n ≡ length front → n < length (front ++ b ∷ bs) → slice_get after n ≡ Some a
        → with_object table (front ++ b ∷ bs) (stored_object table n a) ≡ (front ++ a ∷ []) ++ bs
    set_there front bs n a b is low there =
        ap (λ t. if t then set (front ++ b ∷ bs) n (object_of table (stored_object table n a))
        else (front ++ b ∷ bs) ++ object_of table (stored_object table n a) ∷ [])
        (is_lower n (length (front ++ b ∷ bs)) low)
        ∙ ap (set (front ++ b ∷ bs) n) (told.again n a there)
        ∙ set_at front b bs a n (sym is) ∙ sym (append_assoc front (a ∷ []) bs)

    pub changed_lead : (front bs xs : List Object) (n : ℕ) → n ≡ length front → IsTail before n bs → IsTail after n xs → length bs ≤ length xs
        → fold (with_object table) (front ++ bs) (changed_from n xs) ≡ front ++ xs
    changed_lead front [] [] n is bt at more = refl
    changed_lead front (b ∷ bs) [] n is bt at more = absurd (omega arith)
    changed_lead front [] (a ∷ xs) n is bt at more =
        ap (λ t. fold (with_object table) (front ++ []) (cond t (stored_object table n a ∷ changed_from (suc n) xs) (changed_from (suc n) xs)))
        (new_differs n a (none_in_tail before n bt))
        ∙ ap (λ os. fold (with_object table) os (changed_from (suc n) xs)) (put_behind front n a is (first_of_tail after n a xs at))
        ∙ changed_lead (front ++ a ∷ []) [] xs (suc n) (length_more front n a is) (rest_of_none before n bt) (rest_tail after n a xs at) (omega arith)
        ∙ append_assoc front (a ∷ []) xs
    changed_lead front (b ∷ bs) (a ∷ xs) n is bt at more =
        by (differs (stored_object table n a)) refl
        ∙ changed_lead (front ++ a ∷ []) bs xs (suc n) (length_more front n a is) (rest_tail before n b bs bt) (rest_tail after n a xs at) (omega arith)
        ∙ append_assoc front (a ∷ []) xs
      where
        low : n < length (front ++ b ∷ bs)
        low = let l = length-append front (b ∷ bs) in omega arith

        by : (t : Bool) → differs (stored_object table n a) ≡ t
            → fold (with_object table) (front ++ b ∷ bs) (cond t (stored_object table n a ∷ changed_from (suc n) xs) (changed_from (suc n) xs))
            ≡ fold (with_object table) ((front ++ a ∷ []) ++ bs) (changed_from (suc n) xs)
        by true differ = ap (λ os. fold (with_object table) os (changed_from (suc n) xs))
            (set_there front bs n a b is low (first_of_tail after n a xs at))
        by false so =
            let there = first_of_tail before n b bs bt in
            ap (λ os. fold (with_object table) os (changed_from (suc n) xs))
            (ap (λ o. front ++ o ∷ bs) (told.same n a b (first_of_tail after n a xs at) there (same_bytes n a b there so)) ∙ sym (append_assoc front (a ∷ []) bs))

  -- What differs is in order.

  next_new : (n : ℕ) (xs : List Object) → length before ≤ n → AreNext n (changed_from n xs)
  next_new n [] past = tt
  next_new n (a ∷ xs) past =
      subst (λ t. AreNext n (cond t (stored_object table n a ∷ changed_from (suc n) xs) (changed_from (suc n) xs)))
      (sym (new_differs n a (slice_get_past before n past))) (
        omega arith,
        subst (λ t. AreNext (if t then n else suc n) (changed_from (suc n) xs)) (sym (not_lower n n refl))
            (next_new (suc n) xs (omega arith)),
      )

  same_or_lower : (m n : ℕ) → nat_lt m n ≡ false → m ≤ n → n ≡ m
  same_or_lower m n h l = grind arith

  pub next_changed : (n : ℕ) (xs : List Object) → n ≤ length before → AreNext (length before) (changed_from n xs)
  next_changed n [] within = tt
  next_changed n (a ∷ xs) within = by (nat_lt n (length before)) (differs (stored_object table n a)) refl refl (next_changed (suc n) xs)
    where
      others : List StoredObject
      others = changed_from (suc n) xs

      lower : (m k : ℕ) → nat_lt m k ≡ true → suc m ≤ k
      lower m k h = grind arith

      by : (low t : Bool) → nat_lt n (length before) ≡ low → differs (stored_object table n a) ≡ t → (suc n ≤ length before → AreNext (length before) others)
          → AreNext (length before) (cond t (stored_object table n a ∷ others) others)
      by true true is differ rest = (
        within,
        subst (λ b. AreNext (if b then length before else suc (length before)) others) (sym is) (rest (lower n (length before) is)),
      )
      by true false is differ rest = rest (lower n (length before) is)
      by false t is differ rest =
          let same = same_or_lower n (length before) is within in
          subst (λ b. AreNext (length before) (cond b (stored_object table n a ∷ others) others)) differ
          (subst (λ m. AreNext m (changed_from n (a ∷ xs))) (sym same) (next_new n (a ∷ xs) (omega arith)))

module _ (table : ClassTable) where
  above : (m n : ℕ) (xs : List Object) → m < n → All (λ (o : StoredObject). m < o.number) (stored_from table n xs)
  above m n [] low = All-nil (λ (o : StoredObject). m < o.number)
  above m n (a ∷ xs) low = All-cons (λ (o : StoredObject). m < o.number) (stored_object table n a) (stored_from table (suc n) xs) low
      (above m (suc n) xs (omega arith))

  pub ascending : (n : ℕ) (xs : List Object) → AllPairs (λ (a b : StoredObject). a.number < b.number) (stored_from table n xs)
  ascending n [] = λ i j d later inside. absurd (omega arith)
  ascending n (a ∷ xs) =
      AllPairs-cons (λ (x y : StoredObject). x.number < y.number) (stored_object table n a) (stored_from table (suc n) xs)
      (above n (suc n) xs (omega arith)) (ascending (suc n) xs)

  pub length-stored : (n : ℕ) (xs : List Object) → length (stored_from table n xs) ≡ length xs
  length-stored n [] = refl
  length-stored n (a ∷ xs) = ap suc (length-stored (suc n) xs)

  -- what holds of each object with its number holds of all
  pub all_stored : (P : StoredObject → Type 0) (all : List Object) → ((m : ℕ) (a : Object) → slice_get all m ≡ Some a → P (stored_object table m a))
      → (n : ℕ) (xs : List Object) → IsTail all n xs → All P (stored_from table n xs)
  all_stored P all each n [] tail = All-nil P
  all_stored P all each n (a ∷ xs) tail =
      All-cons P (stored_object table n a) (stored_from table (suc n) xs) (each n a (first_of_tail all n a xs tail))
      (all_stored P all each (suc n) xs (rest_tail all n a xs tail))

-- Handles.

module _ (before : Content) (after : List NamedHandle) where
  same_hold : (k : HandleName) (a : Option Handle) → is_new before (k, a) ≡ false → held.bytes (at k before.handles) ≡ held.bytes a
  same_hold k a so = (bytes_eq-Decides (held.bytes (at k before.handles)) (held.bytes a)).0 (holds (is_held_so before (k, a)) so)

  pub handles_lead : InOrder before.handles → InOrder after
      → ((k : HandleName) → held.bytes (at k before.handles) ≡ held.bytes (at k after) → at k before.handles ≡ at k after)
      → fold with_change before.handles (filter (is_new before) (of_both before.handles after)) ≡ after
  handles_lead o s told =
      same_entries name_order names_total one_name (fold with_change before.handles changed) after (sorted_changed before.handles changed o) s (λ k.
      found_changed before.handles changed k (sorted_filter name_order (is_new before) (of_both before.handles after) both)
      ∙ ap (λ r. unwrap_or r (at k before.handles))
      (find-filter name_order one_name (is_new before) k (of_both before.handles after) both
      ∙ ap (passing name_order one_name (is_new before) k) (found_both before.handles after k s))
      ∙ by k (at k after) (at k before.handles) (λ so. told k (same_hold k (at k after) so)))
    where
      changed : List Change
      changed = filter (is_new before) (of_both before.handles after)

      both : InOrder (of_both before.handles after)
      both = sorted_both before.handles after o

      tested : (k : HandleName) (a b : Option Handle) (t : Bool) → is_new before (k, a) ≡ t → (is_new before (k, a) ≡ false → b ≡ a)
          → unwrap_or (cond t (Some a) None) b ≡ a
      tested k a b true is same = refl
      tested k a b false is same = same is

      by : (k : HandleName) (a b : Option Handle) → (is_new before (k, a) ≡ false → b ≡ a)
          → unwrap_or (passing name_order one_name (is_new before) k (option_map (λ (h : Handle). a) (option_or a b))) b ≡ a
      by k None None same = refl
      by k None (Some h) same = tested k None (Some h) (is_new before (k, None)) refl same
      by k (Some g) b same = tested k (Some g) b (is_new before (k, Some g)) refl same

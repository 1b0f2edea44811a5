-- Keys from the newest on.
use Rattle.std.proofs.Common.{◌≡◌, ℕ, zero, suc, ◌-◌, ◌<◌, ◌≤◌, ◌↔◌, Bool, true, false, cond, List, [], ◌∷◌, ◌++◌, length, Option, None, Some, refl, sym, ap, subst, ◌∙◌, true≢false, arith, length-append, eqb→eq, eq-eqb}
use lib.Dec.{T}
use Rattle.std.specs.Prelude.{nat_eq, ◌||◌, reverse, slice_get, IsSome, if◌then◌else◌}
use Rattle.std.specs.Option.{option_to_list, option_eq}
use Rattle.std.specs.List.{list_any, IsDistinct, AllByRecursion}
use Rattle.indexmap.specs.IndexSet.{remove_key, insert_key}
use Rattle.std.proofs.lemmas.List.{reverse-append}
use Rattle.std.proofs.lemmas.List.Folds.{list_any-append}
use Rattle.ob_heap_spec.specs.Marks.{is_among, without_first}

-- numbers that the test finds equal are equal
pub same_number : (m n : ℕ) → nat_eq m n ≡ true → m ≡ n
same_number m n e = eqb→eq m n (subst T (sym e) tt)

or_comm : (a b : Bool) → (a || b) ≡ (b || a)
or_comm true true = refl
or_comm true false = refl
or_comm false true = refl
or_comm false false = refl

or_false : (a : Bool) → (a || false) ≡ a
or_false true = refl
or_false false = refl

pub reverse_cons : (x : ℕ) (xs : List ℕ) → reverse (x ∷ xs) ≡ reverse xs ++ x ∷ []
reverse_cons x xs = reverse-append (x ∷ []) xs

-- a number is among those in the other order exactly where it is among these
pub among_reverse : (n : ℕ) (xs : List ℕ) → is_among n (reverse xs) ≡ is_among n xs
among_reverse n [] = refl
among_reverse n (x ∷ xs) =
    ap (is_among n) (reverse_cons x xs)
    ∙ list_any-append (nat_eq n) (reverse xs) (x ∷ [])
    ∙ ap (λ b. b || (nat_eq n x || false)) (among_reverse n xs)
    ∙ ap (λ b. list_any (nat_eq n) xs || b) (or_false (nat_eq n x))
    ∙ or_comm (list_any (nat_eq n) xs) (nat_eq n x)

-- the newest is put before those there
pub reverse_push : (x : ℕ) (xs : List ℕ) → reverse (xs ++ x ∷ []) ≡ x ∷ reverse xs
reverse_push x xs = reverse-append xs (x ∷ [])

without_last : (n x : ℕ) (ys : List ℕ) → nat_eq n x ≡ false → without_first n (ys ++ x ∷ []) ≡ without_first n ys ++ x ∷ []
without_last n x [] h = ap (λ b. cond b [] (x ∷ [])) h
without_last n x (y ∷ ys) h =
    let e = without_last n x ys h in
    elim (nat_eq n y) as (λ b. cond b (ys ++ x ∷ []) (y ∷ without_first n (ys ++ x ∷ [])) ≡ cond b ys (y ∷ without_first n ys) ++ x ∷ [])
    [ true ↦ refl | false ↦ ap (λ r. y ∷ r) e ]

without_newest : (n x : ℕ) (ys : List ℕ) → nat_eq n x ≡ true → is_among n ys ≡ false → without_first n (ys ++ x ∷ []) ≡ ys
without_newest n x [] h apart = ap (λ b. cond b [] (x ∷ [])) h
without_newest n x (y ∷ ys) h apart = by (nat_eq n y) (without_newest n x ys h) apart
  where
    by : (b : Bool) → (is_among n ys ≡ false → without_first n (ys ++ x ∷ []) ≡ ys) → (b || is_among n ys) ≡ false
        → cond b (ys ++ x ∷ []) (y ∷ without_first n (ys ++ x ∷ [])) ≡ y ∷ ys
    by true rest e = absurd (true≢false e)
    by false rest e = ap (λ r. y ∷ r) (rest e)

-- a number that is equal to none of these
not_among : (n x : ℕ) (xs : List ℕ) → nat_eq n x ≡ true → AllByRecursion (λ y. nat_eq x y ≡ false) xs → is_among n xs ≡ false
not_among n x xs h all = let e : n ≡ x = same_number n x h in let P : ℕ → Type 0 = λ m. is_among m xs ≡ false in subst P (sym e) (none x xs all)
  where
    none : (m : ℕ) (ys : List ℕ) → AllByRecursion (λ y. nat_eq m y ≡ false) ys → is_among m ys ≡ false
    none m [] all = refl
    none m (y ∷ ys) all = ap (λ b. b || is_among m ys) all.0 ∙ none m ys all.1

-- taking a key out takes the same one out of those in the other order
pub reverse_remove : (n : ℕ) (xs : List ℕ) → IsDistinct nat_eq xs → reverse (remove_key (nat_eq n) xs) ≡ without_first n (reverse xs)
unfolding IsDistinct
reverse_remove n [] d = refl
reverse_remove n (x ∷ xs) d = by (nat_eq n x) refl (reverse_remove n xs d.1) ∙ ap (without_first n) (sym (reverse_cons x xs))
  where
    by : (b : Bool) → nat_eq n x ≡ b → reverse (remove_key (nat_eq n) xs) ≡ without_first n (reverse xs) → reverse (cond b xs (x ∷ remove_key (nat_eq n) xs)) ≡ without_first n (reverse xs ++ x ∷ [])
    by true e rest = sym (without_newest n x (reverse xs) e (among_reverse n xs ∙ not_among n x xs e d.0))
    by false e rest = reverse_cons x (remove_key (nat_eq n) xs) ∙ ap (λ r. r ++ x ∷ []) rest ∙ sym (without_last n x (reverse xs) e)

slice_get_last : (xs : List ℕ) (k : ℕ) → slice_get (xs ++ k ∷ []) (length xs) ≡ Some k
slice_get_last [] k = refl
slice_get_last (x ∷ xs) k = slice_get_last xs k

none_there : (keys : List ℕ) (i n : ℕ) → length keys ≤ i → slice_get keys i ≡ Some n → ⊥
none_there [] i n h e = cc
none_there (x ∷ xs) zero n h e = absurd (omega arith)
none_there (x ∷ xs) (suc i) n h e = none_there xs i n (omega arith) e

pub some_from_option_eq : (o : Option ℕ) (n : ℕ) → option_eq nat_eq o (Some n) ≡ true → o ≡ Some n
some_from_option_eq None n h = absurd (true≢false (sym h))
some_from_option_eq (Some m) n h = ap Some (same_number m n h)

-- the last key goes
pub reverse_pop : (n : ℕ) (keys left : List ℕ) (r : Option ℕ) → keys ≡ left ++ option_to_list r → (IsSome r ↔ (0 < length keys))
    → slice_get keys (length keys - 1) ≡ Some n → reverse left ≡ without_first n (reverse keys)
reverse_pop n keys left None e found there = absurd (none_there keys (length keys - 1) n (empty keys found) there)
  where
    empty : (ks : List ℕ) → (IsSome {T = ℕ} None ↔ (0 < length ks)) → length ks ≤ length ks - 1
    empty [] f = omega arith
    empty (k ∷ ks) f = absurd (true≢false (sym (f.1 (omega arith))))
reverse_pop n keys left (Some k) e found there =
    let m : length keys - 1 ≡ length left = omega (arith, ap length e, length-append left (k ∷ [])) in
    let at : slice_get keys (length keys - 1) ≡ Some k = ap (slice_get keys) m ∙ ap (λ ks. slice_get ks (length left)) e ∙ slice_get_last left k in
    let s : n ≡ k = some_same (sym there ∙ at) in
    sym (ap (λ ks. without_first n (reverse ks)) e ∙ ap (without_first n) (reverse_push k left) ∙ ap (λ b. cond b (reverse left) (k ∷ without_first n (reverse left))) (eq-eqb n k s))
  where
    some_same : {a b : ℕ} → Some a ≡ Some b → a ≡ b
    some_same h = cc

-- a new key goes last
pub reverse_insert : (n : ℕ) (keys : List ℕ) → is_among n (reverse keys) ≡ false → reverse (insert_key nat_eq keys n) ≡ n ∷ reverse keys
reverse_insert n keys h = ap (λ b. reverse (if b then keys else keys ++ n ∷ [])) (sym (among_reverse n keys) ∙ h) ∙ reverse_push n keys

-- Numbers before others.

pub among_both : (n : ℕ) (ks fs : List ℕ) → is_among n (ks ++ fs) ≡ (is_among n ks || is_among n fs)
among_both n ks fs = list_any-append (nat_eq n) ks fs

pub without_there : (n : ℕ) (ks fs : List ℕ) → is_among n ks ≡ true → without_first n (ks ++ fs) ≡ without_first n ks ++ fs
without_there n [] fs h = absurd (true≢false (sym h))
without_there n (k ∷ ks) fs h = by (nat_eq n k) h (without_there n ks fs)
  where
    by : (b : Bool) → (b || is_among n ks) ≡ true → (is_among n ks ≡ true → without_first n (ks ++ fs) ≡ without_first n ks ++ fs)
        → cond b (ks ++ fs) (k ∷ without_first n (ks ++ fs)) ≡ cond b ks (k ∷ without_first n ks) ++ fs
    by true e rest = refl
    by false e rest = ap (λ r. k ∷ r) (rest e)

pub without_absent : (n : ℕ) (ks fs : List ℕ) → is_among n ks ≡ false → without_first n (ks ++ fs) ≡ ks ++ without_first n fs
without_absent n [] fs h = refl
without_absent n (k ∷ ks) fs h = by (nat_eq n k) h (without_absent n ks fs)
  where
    by : (b : Bool) → (b || is_among n ks) ≡ false → (is_among n ks ≡ false → without_first n (ks ++ fs) ≡ ks ++ without_first n fs)
        → cond b (ks ++ fs) (k ∷ without_first n (ks ++ fs)) ≡ k ∷ (ks ++ without_first n fs)
    by true e rest = absurd (true≢false e)
    by false e rest = ap (λ r. k ∷ r) (rest e)

-- the oldest goes, or isn't the one
pub without_oldest : (n : ℕ) (o : Option ℕ) → is_among n (option_to_list o) ≡ true → without_first n (option_to_list o) ≡ []
without_oldest n None h = absurd (true≢false (sym h))
without_oldest n (Some m) h = by (nat_eq n m) h
  where
    by : (b : Bool) → (b || false) ≡ true → cond b [] (m ∷ []) ≡ []
    by true e = refl
    by false e = absurd (true≢false (sym e))

pub without_other : (n : ℕ) (o : Option ℕ) → is_among n (option_to_list o) ≡ false → without_first n (option_to_list o) ≡ option_to_list o
without_other n None h = refl
without_other n (Some m) h = by (nat_eq n m) h
  where
    by : (b : Bool) → (b || false) ≡ false → cond b [] (m ∷ []) ≡ m ∷ []
    by true e = absurd (true≢false e)
    by false e = refl

pub not_in_both : (n : ℕ) (ks fs : List ℕ) → is_among n (ks ++ fs) ≡ false → is_among n ks ≡ false
not_in_both n ks fs h = by (is_among n ks) (sym (among_both n ks fs) ∙ h)
  where
    by : (b : Bool) → (b || is_among n fs) ≡ false → b ≡ false
    by true e = absurd (true≢false e)
    by false e = refl

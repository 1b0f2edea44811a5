-- Names by number, and what stands at the number of a name.
use Rattle.std.proofs.Common.{◌≡◌, ℕ, suc, ◌+◌, ◌-◌, ◌<◌, Bool, true, false, List, [], ◌∷◌, ◌++◌, map, length, take, Option, Some, None, refl, sym, ap, arith, ◌∙◌, cond, length-append}
use Rattle.std.specs.Prelude.{◌&&◌, ◌||◌, option_map, option_and_then, slice_get, is_some, is_none, not, if◌then◌else◌}
use Rattle.std.specs.Cmp.Lexicographic.{same_text}
use Rattle.std.proofs.lemmas.Cmp.{nat_list_eq_equiv}
use Rattle.std.proofs.lemmas.List.{take_at, nil_from_length}
use Rattle.std.specs.List.{list_all}
use Rattle.std.proofs.lemmas.List.Folds.{list_all-append}
use Rattle.ob_table_spec.specs.Names.{Name, same, is_among, number_of, first_named}
use Rattle.ob_resolve_scope.specs.Numbered.{find, added, numbered_from, numbered}

-- the first of two that there is
abbrev pub or_else : {A : Type 0} → Option A → Option A → Option A
or_else None p = p
or_else (Some x) p = Some x

pub or_else-none : {A : Type 0} (o : Option A) → or_else o None ≡ o
or_else-none None = refl
or_else-none (Some x) = refl

pub or_else_assoc : {A : Type 0} (o p q : Option A) → or_else (or_else o p) q ≡ or_else o (or_else p q)
or_else_assoc None p q = refl
or_else_assoc (Some x) p q = refl

find-append : (name : Name) (es fs : List (Name × ℕ)) → find name (es ++ fs) ≡ or_else (find name es) (find name fs)
find-append name [] fs = refl
find-append name (e ∷ es) fs = by (same name e.0) (find-append name es fs)
  where
    by : (b : Bool) → find name (es ++ fs) ≡ or_else (find name es) (find name fs)
        → cond b (Some e.1) (find name (es ++ fs)) ≡ or_else (cond b (Some e.1) (find name es)) (find name fs)
    by true r = refl
    by false r = r

pub same-refl : (x : Name) → same x x ≡ true
same-refl x = nat_list_eq_equiv.refl x

pub find-added : (name : Name) (es : List (Name × ℕ)) (x : Name) (n : ℕ)
    → find name (added es x n) ≡ or_else (find name es) (if same name x then Some n else None)
find-added name es x n = by (find x es) refl (same name x) refl
  where
    by : (o : Option ℕ) → find x es ≡ o → (b : Bool) → same name x ≡ b
        → find name (if is_some o then es else es ++ (x, n) ∷ []) ≡ or_else (find name es) (if b then Some n else None)
    by None e true s = find-append name es ((x, n) ∷ []) ∙ ap (λ b. or_else (find name es) (cond b (Some n) None)) s
    by None e false s = find-append name es ((x, n) ∷ []) ∙ ap (λ b. or_else (find name es) (cond b (Some n) None)) s
    by (Some m) e true s =
        let f : find name es ≡ Some m = ap (λ y. find y es) (same_text name x (sym s)) ∙ e in
        f ∙ sym (ap (λ o. or_else o (Some n)) f)
    by (Some m) e false s = sym (or_else-none (find name es))

-- names are found where they stand, after those that are there already
find-from : (name : Name) (es : List (Name × ℕ)) (n : ℕ) (xs : List Name)
    → find name (numbered_from es n xs) ≡ or_else (find name es) (option_map (λ k. n + k) (number_of name xs))
find-from name es n [] = sym (or_else-none (find name es))
find-from name es n (x ∷ xs) =
    find-from name (added es x n) (n + 1) xs
    ∙ ap (λ o. or_else o (option_map (λ k. n + 1 + k) (number_of name xs))) (find-added name es x n)
    ∙ or_else_assoc (find name es) (if same name x then Some n else None)
    (option_map (λ k. n + 1 + k) (number_of name xs))
    ∙ ap (or_else (find name es)) (by (same name x) (number_of name xs))
  where
    by : (b : Bool) (o : Option ℕ) → or_else (if b then Some n else None) (option_map (λ k. n + 1 + k) o)
        ≡ option_map (λ k. n + k) (if b then Some 0 else option_map suc o)
    by true o = ap Some (omega arith)
    by false None = refl
    by false (Some k) = ap Some (omega arith)

same_number : (o : Option ℕ) → option_map (λ k. 0 + k) o ≡ o
same_number None = refl
same_number (Some k) = ap Some (omega arith)

-- names by their places are found where they stand
pub find-numbered : (name : Name) (xs : List Name) → find name (numbered xs) ≡ number_of name xs
find-numbered name xs = find-from name [] 0 xs ∙ same_number (number_of name xs)

pub numbered_from-append : (es : List (Name × ℕ)) (n : ℕ) (xs ys : List Name)
    → numbered_from es n (xs ++ ys) ≡ numbered_from (numbered_from es n xs) (n + length xs) ys
numbered_from-append es n [] ys = ap (λ k. numbered_from es k ys) (omega arith)
numbered_from-append es n (x ∷ xs) ys =
    numbered_from-append (added es x n) (n + 1) xs ys
    ∙ ap (λ k. numbered_from (numbered_from (added es x n) (n + 1) xs) k ys) (omega arith)

pub numbered_from-push : (es : List (Name × ℕ)) (n : ℕ) (xs : List Name) (x : Name)
    → numbered_from es n (xs ++ x ∷ []) ≡ added (numbered_from es n xs) x (n + length xs)
numbered_from-push es n xs x = numbered_from-append es n xs (x ∷ [])

-- one more name after the others
pub numbered-push : (xs : List Name) (x : Name) → numbered (xs ++ x ∷ []) ≡ added (numbered xs) x (length xs)
numbered-push xs x = numbered_from-push [] 0 xs x ∙ ap (added (numbered xs) x) (omega arith)

-- more names after the others
pub numbered-append : (xs ys : List Name) → numbered (xs ++ ys) ≡ numbered_from (numbered xs) (length xs) ys
numbered-append xs ys = numbered_from-append [] 0 xs ys ∙ ap (λ k. numbered_from (numbered xs) k ys) (omega arith)

none_suc : (o : Option ℕ) → is_some (option_map suc o) ≡ is_some o
none_suc None = refl
none_suc (Some n) = refl

-- a name has a number where it is one of them
pub number_of-is_some : (name : Name) (names : List Name) → is_some (number_of name names) ≡ is_among name names
number_of-is_some name [] = refl
number_of-is_some name (x ∷ xs) = by (same name x) (number_of-is_some name xs)
  where
    by : (b : Bool) → is_some (number_of name xs) ≡ is_among name xs
        → is_some (if b then Some 0 else option_map suc (number_of name xs)) ≡ (b || is_among name xs)
    by true e = refl
    by false e = none_suc (number_of name xs) ∙ e

not_some : {A : Type 0} (o : Option A) → is_none o ≡ not (is_some o)
not_some None = refl
not_some (Some x) = refl

-- a name without a number is none of them
pub number_of-is_none : (name : Name) (names : List Name) → is_none (number_of name names) ≡ not (is_among name names)
number_of-is_none name names = not_some (number_of name names) ∙ ap not (number_of-is_some name names)

-- the first thing of a name stands at its number
pub first_named-number : {A : Type 0} (name_of : A → Name) (name : Name) (xs : List A)
    → first_named name_of name xs ≡ option_and_then (slice_get xs) (number_of name (map name_of xs))
first_named-number name_of name [] = refl
first_named-number {A} name_of name (x ∷ xs) = by (same name (name_of x)) (number_of name (map name_of xs))
    (first_named-number name_of name xs)
  where
    by : (b : Bool) (o : Option ℕ) → first_named name_of name xs ≡ option_and_then (slice_get xs) o
        → (if b then Some x else first_named name_of name xs)
        ≡ option_and_then (slice_get (x ∷ xs)) (if b then Some 0 else option_map suc o)
    by true o e = refl
    by false None e = e
    by false (Some n) e = e

-- The last name taken back.

last_number : (xs : List Name) (x : Name) → number_of x (xs ++ x ∷ []) ≡ or_else (number_of x xs) (Some (length xs))
last_number [] x = rw (same-refl x) refl
last_number (y ∷ xs) x = by (same x y) (number_of x xs) (last_number xs x)
  where
    by : (b : Bool) (o : Option ℕ) → number_of x (xs ++ x ∷ []) ≡ or_else o (Some (length xs))
        → (if b then Some 0 else option_map suc (number_of x (xs ++ x ∷ [])))
        ≡ or_else (if b then Some 0 else option_map suc o) (Some (suc (length xs)))
    by true o e = refl
    by false None e = ap (option_map suc) e
    by false (Some n) e = ap (option_map suc) e

number_within : (name : Name) (xs : List Name) (n : ℕ) → number_of name xs ≡ Some n → n < length xs
number_within name [] n e = absurd cc
number_within name (x ∷ xs) n e = by (same name x) (number_of name xs) (number_within name xs) e
  where
    by : (b : Bool) (o : Option ℕ) → ((m : ℕ) → o ≡ Some m → m < length xs)
        → (if b then Some 0 else option_map suc o) ≡ Some n → n < suc (length xs)
    by true o rest e = let z : n ≡ 0 = cc in omega (arith, z)
    by false None rest e = absurd cc
    by false (Some m) rest e = let z : n ≡ suc m = cc in let w = rest m refl in omega (arith, z, w)

-- the last name has its place as its number: it was none of those before, and its entry is the last
pub taken_back : (es : List (Name × ℕ)) (xs : List Name) (x : Name) → es ≡ numbered (xs ++ x ∷ [])
    → find x es ≡ Some (length xs) → take (length es - 1) es ≡ numbered xs
taken_back es xs x is found = by (number_of x xs) refl
  where
    at : number_of x (xs ++ x ∷ []) ≡ Some (length xs)
    at = sym (find-numbered x (xs ++ x ∷ [])) ∙ sym (ap (find x) is) ∙ found

    by : (o : Option ℕ) → number_of x xs ≡ o → take (length es - 1) es ≡ numbered xs
    by None e =
        let new : es ≡ numbered xs ++ (x, length xs) ∷ [] = is ∙ numbered-push xs x
        ∙ ap (λ o. if is_some o then numbered xs else numbered xs ++ (x, length xs) ∷ [])
        (find-numbered x xs ∙ e) in
        rw new (take_at (numbered xs) ((x, length xs) ∷ []) _
        (omega (arith, length-append (numbered xs) ((x, length xs) ∷ []))))
    by (Some m) e =
        let same_place : Some m ≡ Some (length xs) = sym (ap (λ o. or_else o (Some (length xs))) e)
        ∙ sym (last_number xs x) ∙ at in
        let w = number_within x xs m e in
        let z : m ≡ length xs = cc in
        absurd (omega (arith, w, z))

-- the last name has another number: it was one of those before, and nothing was added
pub kept_back : (es : List (Name × ℕ)) (xs : List Name) (x : Name) → es ≡ numbered (xs ++ x ∷ [])
    → (find x es ≡ Some (length xs) → ⊥) → es ≡ numbered xs
kept_back es xs x is other = by (number_of x xs) refl
  where
    by : (o : Option ℕ) → number_of x xs ≡ o → es ≡ numbered xs
    by None e =
        absurd (other (ap (find x) is ∙ find-numbered x (xs ++ x ∷ []) ∙ last_number xs x
        ∙ ap (λ o. or_else o (Some (length xs))) e))
    by (Some m) e =
        is ∙ numbered-push xs x ∙ ap (λ o. if is_some o then numbered xs else numbered xs ++ (x, length xs) ∷ [])
        (find-numbered x xs ∙ e)

-- The names of entries are those that were numbered.

and_same : (a b : Bool) → (a ≡ true → b ≡ true) → (a && b) ≡ a
and_same true b h = h refl
and_same false b h = refl

found_holds : (p : Name → Bool) (x : Name) (es : List (Name × ℕ)) (n : ℕ) → find x es ≡ Some n
    → list_all (λ (e : Name × ℕ). p e.0) es ≡ true → p x ≡ true
found_holds p x [] n f h = absurd cc
found_holds p x (e ∷ es) n f h = by (same x e.0) refl (p e.0) refl (found_holds p x es n) f h
  where
    by : (b : Bool) → same x e.0 ≡ b → (c : Bool) → p e.0 ≡ c
        → (find x es ≡ Some n → list_all (λ (e : Name × ℕ). p e.0) es ≡ true → p x ≡ true)
        → cond b (Some e.1) (find x es) ≡ Some n → (c && list_all (λ (e : Name × ℕ). p e.0) es) ≡ true → p x ≡ true
    by b s false q rest f h = absurd cc
    by true s true q rest f h = ap p (same_text x e.0 (sym s)) ∙ q
    by false s true q rest f h = rest f h

all_added : (p : Name → Bool) (es : List (Name × ℕ)) (x : Name) (n : ℕ)
    → list_all (λ (e : Name × ℕ). p e.0) (added es x n) ≡ (list_all (λ (e : Name × ℕ). p e.0) es && p x)
all_added p es x n = by (find x es) refl
  where
    and_true : (b : Bool) → (b && true) ≡ b
    and_true true = refl
    and_true false = refl

    by : (o : Option ℕ) → find x es ≡ o → list_all (λ (e : Name × ℕ). p e.0)
        (if is_some o then es else es ++ (x, n) ∷ [])
        ≡ (list_all (λ (e : Name × ℕ). p e.0) es && p x)
    by None e =
        list_all-append (λ (e : Name × ℕ). p e.0) es ((x, n) ∷ [])
        ∙ ap (λ b. list_all (λ (e : Name × ℕ). p e.0) es && b) (and_true (p x))
    by (Some m) e = sym (and_same (list_all (λ (e : Name × ℕ). p e.0) es) (p x) (found_holds p x es m e))

all_from : (p : Name → Bool) (es : List (Name × ℕ)) (n : ℕ) (xs : List Name)
    → list_all (λ (e : Name × ℕ). p e.0) (numbered_from es n xs)
    ≡ (list_all (λ (e : Name × ℕ). p e.0) es && list_all p xs)
all_from p es n [] = sym (and_same (list_all (λ (e : Name × ℕ). p e.0) es) true (λ h. refl))
all_from p es n (x ∷ xs) =
    all_from p (added es x n) (n + 1) xs
    ∙ ap (λ b. b && list_all p xs) (all_added p es x n)
    ∙ and_assoc (list_all (λ (e : Name × ℕ). p e.0) es) (p x) (list_all p xs)
  where
    and_assoc : (a b c : Bool) → ((a && b) && c) ≡ (a && (b && c))
    and_assoc true b c = refl
    and_assoc false b c = refl

-- what holds of the names of all entries holds of all the names
pub within_numbered : (p : Name → Bool) (xs : List Name) → list_all (λ (e : Name × ℕ). p e.0) (numbered xs)
    ≡ list_all p xs
within_numbered p xs = all_from p [] 0 xs

-- without an entry there is no name
pub numbered-none : (xs : List Name) → length (numbered xs) ≡ 0 → xs ≡ []
numbered-none [] h = refl
numbered-none (x ∷ xs) h =
    let none : numbered (x ∷ xs) ≡ [] = nil_from_length (numbered (x ∷ xs)) h in
    let f : find x (numbered (x ∷ xs)) ≡ Some 0 = find-numbered x (x ∷ xs)
    ∙ ap (λ b. if b then Some 0 else option_map suc (number_of x xs)) (same-refl x) in
    let g : find x (numbered (x ∷ xs)) ≡ None = ap (find x) none in
    absurd cc

pub ruleset found = (find-numbered, number_of-is_some, number_of-is_none)

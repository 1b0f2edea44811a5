-- How far the next place is, round a list.
use Rattle.std.proofs.Common.{◌≡◌, ℕ, zero, suc, ◌+◌, ◌<◌, ◌≤◌, Bool, true, false, ◌||◌, List, [], ◌∷◌, ◌++◌, map, take, drop, length, Some, refl, sym, ap, ◌∙◌, subst, arith, true≢false, length-append, append_assoc}
use Rattle.std.proofs.lemmas.List.{append-nil, map-append}
use Rattle.std.proofs.lemmas.Bool.{ltb-false}
use Rattle.std.specs.Prelude.{nat_lt, slice_get, if◌then◌else◌}
use Rattle.std.specs.List.{list_any}
use Rattle.ob_lanes_laws.specs.Measures.{first_true, round_from}
use Rattle.ob_lanes_laws.proofs.Keeping.{none_is_some, some_same}

-- The next one that is true, round.

true_below : (bs : List Bool) → list_any (λ b. b) bs ≡ true → first_true bs < length bs
true_below [] h = absurd (true≢false (sym h))
true_below (true ∷ bs) h = omega arith
true_below (false ∷ bs) h = let l = true_below bs h in omega (arith, l)

pub true_most : (bs : List Bool) → first_true bs ≤ length bs
true_most [] = omega arith
true_most (true ∷ bs) = omega arith
true_most (false ∷ bs) = let l = true_most bs in omega (arith, l)

-- what is put behind changes nothing where one is true before
true_front : (bs cs : List Bool) → first_true bs < length bs → first_true (bs ++ cs) ≡ first_true bs
true_front [] cs h = absurd (omega (arith, h))
true_front (true ∷ bs) cs h = refl
true_front (false ∷ bs) cs h = ap suc (true_front bs cs (omega (arith, h)))

split_at : {A : Type 0} (xs : List A) (k : ℕ) (x : A) → slice_get xs k ≡ Some x → (drop k xs ≡ x ∷ drop (suc k) xs) × (take (suc k) xs ≡ take k xs ++ x ∷ [])
split_at [] k x e = absurd (none_is_some e)
split_at (y ∷ ys) zero x e = (ap (λ z. z ∷ ys) (some_same y x e), ap (λ z. z ∷ []) (some_same y x e))
split_at (y ∷ ys) (suc k) x e = let h = split_at ys k x e in (h.0, ap (λ l. y ∷ l) h.1)

-- the next place, round
drop_all : {A : Type 0} (xs : List A) (k : ℕ) → length xs ≤ k → drop k xs ≡ []
drop_all [] zero h = refl
drop_all [] (suc k) h = refl
drop_all (x ∷ xs) zero h = absurd (omega (arith, h))
drop_all (x ∷ xs) (suc k) h = drop_all xs k (omega (arith, h))

take_all : {A : Type 0} (xs : List A) (k : ℕ) → length xs ≤ k → take k xs ≡ xs
take_all [] zero h = refl
take_all [] (suc k) h = refl
take_all (x ∷ xs) zero h = absurd (omega (arith, h))
take_all (x ∷ xs) (suc k) h = ap (λ l. x ∷ l) (take_all xs k (omega (arith, h)))

pub there : {A : Type 0} (xs : List A) (k : ℕ) → k < length xs → (x : A) × (slice_get xs k ≡ Some x)
there [] k h = absurd (omega (arith, h))
there (x ∷ xs) zero h = (x, refl)
there (x ∷ xs) (suc k) h = there xs k (omega (arith, h))

plus_one : (n : ℕ) → n + 1 ≡ suc n
plus_one n = omega arith

-- the next lane, round
round_next : {A : Type 0} (xs : List A) (k : ℕ) → k < length xs → (b : Bool) → nat_lt (k + 1) (length xs) ≡ b → round_from (if b then k + 1 else 0) xs ≡ drop (suc k) xs ++ take (suc k) xs
round_next xs k h true e = ap (λ n. round_from n xs) (plus_one k)
round_next xs k h false e =
    let l = ltb-false (k + 1) (length xs) e in
    append-nil xs ∙ sym (ap (λ ys. ys ++ take (suc k) xs) (drop_all xs (suc k) (omega (arith, l, h))) ∙ take_all xs (suc k) (omega (arith, l, h)))

any_append : (bs cs : List Bool) → list_any (λ b. b) (bs ++ cs) ≡ (list_any (λ b. b) bs || list_any (λ b. b) cs)
any_append [] cs = refl
any_append (true ∷ bs) cs = refl
any_append (false ∷ bs) cs = any_append bs cs

or_swap : (b c : Bool) → b || c ≡ c || b
or_swap true true = refl
or_swap true false = refl
or_swap false true = refl
or_swap false false = refl

take_and_drop : {A : Type 0} (k : ℕ) (xs : List A) → take k xs ++ drop k xs ≡ xs
take_and_drop zero xs = refl
take_and_drop (suc k) [] = refl
take_and_drop (suc k) (x ∷ xs) = ap (λ l. x ∷ l) (take_and_drop k xs)

any_round : {A : Type 0} (f : A → Bool) (k : ℕ) (xs : List A) → list_any (λ b. b) (map f (round_from k xs)) ≡ list_any (λ b. b) (map f xs)
any_round f k xs =
    ap (list_any (λ b. b)) (map-append f (drop k xs) (take k xs)) ∙ any_append (map f (drop k xs)) (map f (take k xs)) ∙ or_swap (list_any (λ b. b) (map f (drop k xs))) (list_any (λ b. b) (map f (take k xs)))
    ∙ sym (any_append (map f (take k xs)) (map f (drop k xs))) ∙ ap (list_any (λ b. b)) (sym (map-append f (take k xs) (drop k xs))) ∙ ap (λ l. list_any (λ b. b) (map f l)) (take_and_drop k xs)

pub length_map : {A B : Type 0} (f : A → B) (xs : List A) → length (map f xs) ≡ length xs
length_map f [] = refl
length_map f (x ∷ xs) = ap suc (length_map f xs)

pub round_length : {A : Type 0} (k : ℕ) (xs : List A) → length (round_from k xs) ≡ length xs
round_length k xs = length-append (drop k xs) (take k xs) ∙ swap (length (drop k xs)) (length (take k xs)) ∙ sym (length-append (take k xs) (drop k xs)) ∙ ap length (take_and_drop k xs)
  where
    swap : (a b : ℕ) → a + b ≡ b + a
    swap a b = omega arith

-- past a lane that does nothing the next that does something is nearer
nearer_by : {A : Type 0} (f : A → Bool) (x : A) (front back : List A) → f x ≡ false → list_any (λ b. b) (map f (x ∷ (front ++ back))) ≡ true
    → first_true (map f (front ++ (back ++ x ∷ []))) < first_true (map f (x ∷ (front ++ back)))
nearer_by f x front back e h =
    let some : list_any (λ b. b) (map f (front ++ back)) ≡ true = sym (ap (λ b. b || list_any (λ c. c) (map f (front ++ back))) e) ∙ h in
    let same : first_true (map f (front ++ (back ++ x ∷ []))) ≡ first_true (map f (front ++ back)) = ap (λ l. first_true (map f l)) (sym (append_assoc front back (x ∷ []))) ∙ ap first_true (map-append f (front ++ back) (x ∷ []))
    ∙ true_front (map f (front ++ back)) (map f (x ∷ [])) (true_below (map f (front ++ back)) some) in
    let next : first_true (map f (x ∷ (front ++ back))) ≡ suc (first_true (map f (front ++ back))) = ap (λ b. if b then 0 else suc (first_true (map f (front ++ back)))) e in
    omega (arith, same, next)

pub nearer : {A : Type 0} (f : A → Bool) (xs : List A) (k : ℕ) (x : A) → k < length xs → slice_get xs k ≡ Some x → f x ≡ false → list_any (λ b. b) (map f xs) ≡ true
    → first_true (map f (round_from (if nat_lt (k + 1) (length xs) then k + 1 else 0) xs)) < first_true (map f (round_from k xs))
nearer f xs k x h e z some =
    let s = split_at xs k x e in
    let here : round_from k xs ≡ x ∷ (drop (suc k) xs ++ take k xs) = ap (λ l. l ++ take k xs) s.0 in
    let next : round_from (if nat_lt (k + 1) (length xs) then k + 1 else 0) xs ≡ drop (suc k) xs ++ (take k xs ++ x ∷ []) = round_next xs k h (nat_lt (k + 1) (length xs)) refl ∙ ap (λ l. drop (suc k) xs ++ l) s.1 in
    subst (λ l. first_true (map f l) < first_true (map f (round_from k xs))) (sym next)
    (subst (λ l. first_true (map f (drop (suc k) xs ++ (take k xs ++ x ∷ []))) < first_true (map f l)) (sym here)
    (nearer_by f x (drop (suc k) xs) (take k xs) z (ap (λ l. list_any (λ b. b) (map f l)) (sym here) ∙ any_round f k xs ∙ some)))

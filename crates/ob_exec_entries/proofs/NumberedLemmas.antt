-- A map of names, seen as a list, and the numbers that it gives.
use Rattle.std.proofs.Common.{◌≡◌, ℕ, suc, ◌+◌, ◌<◌, ◌≤◌, Bool, true, false, true≢false, List, [], ◌∷◌, ◌++◌, Option, Some, None, cond, refl, sym, ap, subst, ◌∙◌, length, take, map, get_or, not, arith}
use Rattle.std.specs.Prelude.{nat_eq, nat_lt, bytes_eq, position, option_map, is_some, if◌then◌else◌}
use Rattle.std.specs.List.{position_or_len}
use Rattle.std.specs.Cmp.Lexicographic.{pointwise}
use Rattle.std.specs.Map.{lookup}
use Rattle.std.specs.Global.{Vec}
use Rattle.std.proofs.lemmas.Slice.Eq.{bytes_eq-Decides}
use Rattle.std.proofs.lemmas.List.{take_more, take_all, length-take-le, length-map, map-append}
use Rattle.ob_exec_entries.specs.Numbered.{number_in, added, plain, IsNumbering}

pub find-plain : (name : List ℕ) (es : List (Vec ℕ × ℕ)) → lookup (λ k. pointwise nat_eq name k.items) es ≡ number_in name (plain es)
find-plain name [] = refl
find-plain name (e ∷ es) = ap (cond (bytes_eq name e.0.items) (Some e.1)) (find-plain name es)

pub plain-append : (es fs : List (Vec ℕ × ℕ)) → plain (es ++ fs) ≡ plain es ++ plain fs
plain-append [] fs = refl
plain-append (e ∷ es) fs = ap (λ r. (e.0.items, e.1) ∷ r) (plain-append es fs)

pub ruleset names = (find-plain, plain-append)

-- the first place at which a test passes, one element after another
pub position-cons : {X : Type 0} (p : X → Bool) (x : X) (xs : List X)
    → position p (x ∷ xs) ≡ cond (p x) (Some 0) (option_map suc (position p xs))
position-cons p x xs =
    elim (p x) as (λ b. cond (nat_lt (cond (not b) (1 + position_or_len p xs) 0) (suc (length xs))) (Some (cond (not b) (1 + position_or_len p xs) 0)) None
    ≡ cond b (Some 0) (option_map suc (position p xs))) [
      | true ↦ grind arith
      | false ↦ by (nat_lt (position_or_len p xs) (length xs)) refl
    ]
  where
    by : (b : Bool) → nat_lt (position_or_len p xs) (length xs) ≡ b
        → cond (nat_lt (1 + position_or_len p xs) (suc (length xs))) (Some (1 + position_or_len p xs)) None
        ≡ option_map suc (cond b (Some (position_or_len p xs)) None)
    by true e = grind arith
    by false e = grind arith

pub position-map : {X Y : Type 0} (f : X → Y) (p : Y → Bool) (xs : List X) → position p (map f xs) ≡ position (λ x. p (f x)) xs
position-map f p [] = refl
position-map f p (x ∷ xs) =
    position-cons p (f x) (map f xs) ∙ ap (λ o. cond (p (f x)) (Some 0) (option_map suc o)) (position-map f p xs)
    ∙ sym (position-cons (λ y. p (f y)) x xs)

pub position-push : {X : Type 0} (p : X → Bool) (xs : List X) (x : X)
    → position p (xs ++ x ∷ []) ≡ (if is_some (position p xs) then position p xs else if p x then Some (length xs) else None)
position-push p [] x = position-cons p x []
position-push p (y ∷ ys) x =
    position-cons p y (ys ++ x ∷ []) ∙ ap (λ o. cond (p y) (Some 0) (option_map suc o)) (position-push p ys x)
    ∙ by (p y) (position p ys) (p x)
    ∙ sym (ap (λ o. if is_some o then o else if p x then Some (suc (length ys)) else None) (position-cons p y ys))
  where
    by : (b : Bool) (o : Option ℕ) (c : Bool)
        → cond b (Some 0) (option_map suc (if is_some o then o else if c then Some (length ys) else None))
        ≡ (if is_some (cond b (Some 0) (option_map suc o)) then cond b (Some 0) (option_map suc o) else if c then Some (suc (length ys)) else None)
    by true o c = refl
    by false (Some n) c = refl
    by false None true = refl
    by false None false = refl

number_in-push : (name : List ℕ) (es : List (List ℕ × ℕ)) (e : List ℕ × ℕ)
    → number_in name (es ++ e ∷ []) ≡ (if is_some (number_in name es) then number_in name es else if bytes_eq name e.0 then Some e.1 else None)
number_in-push name [] e = refl
number_in-push name (f ∷ es) e =
    ap (λ o. if bytes_eq name f.0 then Some f.1 else o) (number_in-push name es e) ∙ by (bytes_eq name f.0)
  where
    by : (b : Bool)
        → (if b then Some f.1 else if is_some (number_in name es) then number_in name es else if bytes_eq name e.0 then Some e.1 else None)
        ≡ (if is_some (if b then Some f.1 else number_in name es) then (if b then Some f.1 else number_in name es) else if bytes_eq name e.0 then Some e.1 else None)
    by true = refl
    by false = refl

number_in-none : (name : List ℕ) (es : List (List ℕ × ℕ)) (x : List ℕ) (n : ℕ) → is_some (number_in x es) ≡ true
    → bytes_eq name x ≡ true → is_some (number_in name es) ≡ true
number_in-none name es x n h e =
    ap (λ y. is_some (number_in y es)) ((bytes_eq-Decides name x).0 e) ∙ h

-- one more name has the next number, unless it has one
pub numbering_push : (names : List (List ℕ)) (es : List (List ℕ × ℕ)) (x : List ℕ) → IsNumbering names es
    → IsNumbering (names ++ x ∷ []) (added es x (length names))
numbering_push names es x h name =
    by (is_some (number_in x es)) refl (number_in name es) refl (bytes_eq name x) refl
    ∙ ap (λ o. if is_some o then o else if bytes_eq name x then Some (length names) else None) (h name)
    ∙ sym (position-push (bytes_eq name) names x)
  where
    by : (b : Bool) → is_some (number_in x es) ≡ b → (o : Option ℕ) → number_in name es ≡ o → (c : Bool) → bytes_eq name x ≡ c
        → number_in name (if b then es else es ++ (x, length names) ∷ [])
        ≡ (if is_some (number_in name es) then number_in name es else if c then Some (length names) else None)
    by false e o f c g =
        number_in-push name es (x, length names)
        ∙ ap (λ d. if is_some (number_in name es) then number_in name es else if d then Some (length names) else None) g
    by true e (Some n) f c g = f ∙ sym (ap (λ p. if is_some p then p else if c then Some (length names) else None) f)
    by true e None f true g = absurd (true≢false (sym (number_in-none name es x 0 e g) ∙ ap is_some f))
    by true e None f false g = f ∙ sym (ap (λ p. if is_some p then p else None) f)

-- the names of the things before a place, and of the one there
pub numbering_turn : (X : Type 0) (name_of : X → List ℕ) (xs : List X) (i : ℕ) (x : X) (es : List (List ℕ × ℕ)) → i < length xs → x ≡ get_or xs i x
    → IsNumbering (map name_of (take i xs)) es → IsNumbering (map name_of (take (i + 1) xs)) (added es (name_of x) i)
numbering_turn X name_of xs i x es l is h =
    let here : take (i + 1) xs ≡ take i xs ++ x ∷ [] = take_more xs i x l ∙ ap (λ y. take i xs ++ y ∷ []) (sym is) in
    let named : map name_of (take (i + 1) xs) ≡ map name_of (take i xs) ++ name_of x ∷ [] =
    ap (map name_of) here ∙ map-append name_of (take i xs) (x ∷ []) in
    let count : length (map name_of (take i xs)) ≡ i = length-map (take i xs) name_of ∙ length-take-le i xs (omega arith) in
    subst (λ (names : List (List ℕ)). IsNumbering names (added es (name_of x) i)) (sym named)
    (subst (λ (n : ℕ). IsNumbering (map name_of (take i xs) ++ name_of x ∷ []) (added es (name_of x) n)) count
    (numbering_push (map name_of (take i xs)) es (name_of x) h))

pub numbering_end : (X : Type 0) (name_of : X → List ℕ) (xs : List X) (i : ℕ) (es : List (List ℕ × ℕ)) → length xs ≤ i
    → IsNumbering (map name_of (take i xs)) es → IsNumbering (map name_of xs) es
numbering_end X name_of xs i es l h = subst (λ (ys : List X). IsNumbering (map name_of ys) es) (take_all i xs l) h

-- The places of transactions by their names.
use Rattle.std.proofs.Common.{◌≡◌, ℕ, suc, ◌+◌, ◌<◌, ◌≤◌, Bool, true, false, true≢false, List, [], ◌∷◌, ◌++◌, Option, Some, None, cond, refl, sym, ap, subst, ◌∙◌, length, take, map, get_or, not, ◌&&◌, arith}
use Rattle.std.specs.Prelude.{nat_eq, nat_lt, bytes_eq, position, find, slice_get, option_map, is_some, if◌then◌else◌}
use Rattle.std.specs.List.{position_or_len}
use Rattle.std.specs.Option.{option_and_then, option_map_or}
use Rattle.std.specs.Cmp.Lexicographic.{pointwise}
use Rattle.std.specs.Map.{lookup}
use Rattle.std.specs.Global.{Vec}
use Rattle.std.proofs.lemmas.Slice.Eq.{bytes_eq-Decides}
use Rattle.std.proofs.lemmas.List.{take_more, take_all, length-take-le}
use Rattle.ob_code.specs.declared.image.BodyCode.{BodyCode}
use Rattle.ob_code.specs.Code.{is_constructor, is_transaction_named}
use Rattle.ob_verify.specs.Named.{place_in, added, plain, with_body, HavePlaces}

pub find-plain : (name : List ℕ) (es : List (Vec ℕ × ℕ)) → lookup (λ k. pointwise nat_eq name k.items) es ≡ place_in name (plain es)
find-plain name [] = refl
find-plain name (e ∷ es) = ap (cond (bytes_eq name e.0.items) (Some e.1)) (find-plain name es)

pub plain-append : (es fs : List (Vec ℕ × ℕ)) → plain (es ++ fs) ≡ plain es ++ plain fs
plain-append [] fs = refl
plain-append (e ∷ es) fs = ap (λ r. (e.0.items, e.1) ∷ r) (plain-append es fs)

pub ruleset names = (find-plain, plain-append)

-- The first place at which a test passes.

position-cons : {X : Type 0} (p : X → Bool) (x : X) (xs : List X) → position p (x ∷ xs) ≡ cond (p x) (Some 0) (option_map suc (position p xs))
position-cons p x xs =
    elim (p x) as (λ b. cond (nat_lt (cond (not b) (1 + position_or_len p xs) 0) (suc (length xs))) (Some (cond (not b) (1 + position_or_len p xs) 0)) None
    ≡ cond b (Some 0) (option_map suc (position p xs))) [
      | true ↦ grind arith
      | false ↦ by (nat_lt (position_or_len p xs) (length xs)) refl
    ]
  where
    by : (b : Bool) → nat_lt (position_or_len p xs) (length xs) ≡ b
        → cond (nat_lt (1 + position_or_len p xs) (suc (length xs))) (Some (1 + position_or_len p xs)) None
        ≡ option_map suc (cond b (Some (position_or_len p xs)) None)
    by true e = grind arith
    by false e = grind arith

position-push : {X : Type 0} (p : X → Bool) (xs : List X) (x : X)
    → position p (xs ++ x ∷ []) ≡ (if is_some (position p xs) then position p xs else if p x then Some (length xs) else None)
position-push p [] x = position-cons p x []
position-push p (y ∷ ys) x =
    position-cons p y (ys ++ x ∷ []) ∙ ap (λ o. cond (p y) (Some 0) (option_map suc o)) (position-push p ys x)
    ∙ by (p y) (position p ys) (p x)
    ∙ sym (ap (λ o. if is_some o then o else if p x then Some (suc (length ys)) else None) (position-cons p y ys))
  where
    by : (b : Bool) (o : Option ℕ) (c : Bool)
        → cond b (Some 0) (option_map suc (if is_some o then o else if c then Some (length ys) else None))
        ≡ (if is_some (cond b (Some 0) (option_map suc o)) then cond b (Some 0) (option_map suc o) else if c then Some (suc (length ys)) else None)
    by true o c = refl
    by false (Some n) c = refl
    by false None true = refl
    by false None false = refl

-- what a test finds first stands at the first place at which it passes
pub found_at_place : {X : Type 0} (p : X → Bool) (xs : List X) → find p xs ≡ option_and_then (slice_get xs) (position p xs)
found_at_place p [] = refl
found_at_place p (x ∷ xs) = by (p x) (position p xs) (found_at_place p xs) ∙ ap (option_and_then (slice_get (x ∷ xs))) (sym (position-cons p x xs))
  where
    by : (b : Bool) (o : Option ℕ) → find p xs ≡ option_and_then (slice_get xs) o
        → cond b (Some x) (find p xs) ≡ option_and_then (slice_get (x ∷ xs)) (cond b (Some 0) (option_map suc o))
    by true o h = refl
    by false None h = h
    by false (Some j) h = h

-- One more body.

place_in-push : (name : List ℕ) (es : List (List ℕ × ℕ)) (e : List ℕ × ℕ)
    → place_in name (es ++ e ∷ []) ≡ (if is_some (place_in name es) then place_in name es else if bytes_eq name e.0 then Some e.1 else None)
place_in-push name [] e = refl
place_in-push name (f ∷ es) e =
    ap (λ o. if bytes_eq name f.0 then Some f.1 else o) (place_in-push name es e) ∙ by (bytes_eq name f.0)
  where
    by : (b : Bool)
        → (if b then Some f.1 else if is_some (place_in name es) then place_in name es else if bytes_eq name e.0 then Some e.1 else None)
        ≡ (if is_some (if b then Some f.1 else place_in name es) then (if b then Some f.1 else place_in name es) else if bytes_eq name e.0 then Some e.1 else None)
    by true = refl
    by false = refl

place_in-same : (name : List ℕ) (es : List (List ℕ × ℕ)) (x : List ℕ) → is_some (place_in x es) ≡ true → bytes_eq name x ≡ true → is_some (place_in name es) ≡ true
place_in-same name es x h e = ap (λ y. is_some (place_in y es)) ((bytes_eq-Decides name x).0 e) ∙ h

place_in-added : (name : List ℕ) (es : List (List ℕ × ℕ)) (x : List ℕ) (n : ℕ)
    → place_in name (added es x n) ≡ (if is_some (place_in name es) then place_in name es else if bytes_eq name x then Some n else None)
place_in-added name es x n = by (is_some (place_in x es)) refl (place_in name es) refl (bytes_eq name x) refl
  where
    by : (b : Bool) → is_some (place_in x es) ≡ b → (o : Option ℕ) → place_in name es ≡ o → (c : Bool) → bytes_eq name x ≡ c
        → place_in name (if b then es else es ++ (x, n) ∷ []) ≡ (if is_some (place_in name es) then place_in name es else if c then Some n else None)
    by false e o f c g =
        place_in-push name es (x, n) ∙ ap (λ d. if is_some (place_in name es) then place_in name es else if d then Some n else None) g
    by true e (Some k) f c g = f ∙ sym (ap (λ p. if is_some p then p else if c then Some n else None) f)
    by true e None f true g = absurd (true≢false (sym (place_in-same name es x e g) ∙ ap is_some f))
    by true e None f false g = f ∙ sym (ap (λ p. if is_some p then p else None) f)

kept : (o : Option ℕ) (n : ℕ) → o ≡ (if is_some o then o else if false then Some n else None)
kept None n = refl
kept (Some k) n = refl

-- the name of one more body has the next place, unless it has one or is a constructor's
body_push : (bs : List BodyCode) (es : List (List ℕ × ℕ)) (b : BodyCode) → HavePlaces es bs → HavePlaces (with_body es b (length bs)) (bs ++ b ∷ [])
body_push bs es b h name =
    by (is_constructor b)
    ∙ ap (λ o. if is_some o then o else if is_transaction_named name b then Some (length bs) else None) (h name)
    ∙ sym (position-push (is_transaction_named name) bs b)
  where
    by : (c : Bool) → place_in name (if c then es else added es b.name (length bs))
        ≡ (if is_some (place_in name es) then place_in name es else if (not c && bytes_eq name b.name) then Some (length bs) else None)
    by true = kept (place_in name es) (length bs)
    by false = place_in-added name es b.name (length bs)

pub bodies_turn : (bs : List BodyCode) (es : List (List ℕ × ℕ)) (i : ℕ) (b : BodyCode) → i < length bs → b ≡ get_or bs i b
    → HavePlaces es (take i bs) → HavePlaces (with_body es b i) (take (i + 1) bs)
bodies_turn bs es i b l is h =
    let here : take (i + 1) bs ≡ take i bs ++ b ∷ [] = take_more bs i b l ∙ ap (λ y. take i bs ++ y ∷ []) (sym is) in
    let count : length (take i bs) ≡ i = length-take-le i bs (omega arith) in
    subst (λ ys. HavePlaces (with_body es b i) ys) (sym here)
    (subst (λ n. HavePlaces (with_body es b n) (take i bs ++ b ∷ [])) count (body_push (take i bs) es b h))

pub bodies_end : (bs : List BodyCode) (es : List (List ℕ × ℕ)) (i : ℕ) → length bs ≤ i → HavePlaces es (take i bs) → HavePlaces es bs
bodies_end bs es i l h = subst (λ ys. HavePlaces es ys) (take_all i bs l) h

-- what is found by a place is what is found by its name
pub found_by : (bs : List BodyCode) (es : List (List ℕ × ℕ)) (name : List ℕ) → HavePlaces es bs → find (is_transaction_named name) bs ≡ option_and_then (slice_get bs) (place_in name es)
found_by bs es name h = found_at_place (is_transaction_named name) bs ∙ ap (option_and_then (slice_get bs)) (sym (h name))

pub ruleset found = (found_by)

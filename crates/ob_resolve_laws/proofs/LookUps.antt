-- Names, numbers and what stands at them.
use Rattle.std.proofs.Common.{◌≡◌, ℕ, zero, suc, ◌<◌, Bool, true, false, List, [], ◌∷◌, map, length, get_or, Option, Some, None, refl, sym, ap, subst, arith, ◌∙◌, cond}
use Rattle.std.specs.Prelude.{◌||◌, option_map, option_and_then, slice_get, is_some}
use Rattle.std.proofs.lemmas.List.{length-map}
use Rattle.ob_tree.specs.Members.{Contract}
use Rattle.ob_table_spec.specs.Names.{Name, same, is_among, number_of, first_named}
use Rattle.ob_resolve_spec.specs.Declarations.{Program, number_of_contract, declared_contract}
use Rattle.ob_resolve_spec.specs.Kinds.{contract_of_name}
use Rattle.ob_resolve_laws.proofs.NameFacts.{same_is}

-- an option that isn't None has a value
pub some_value : {A : Type 0} (o : Option A) → is_some o ≡ true → (x : A) × (o ≡ Some x)
some_value None h = absurd cc
some_value (Some x) h = (x, refl)

pub slice_get-map : {A B : Type 0} (f : A → B) (xs : List A) (n : ℕ)
    → slice_get (map f xs) n ≡ option_map f (slice_get xs n)
slice_get-map f [] n = refl
slice_get-map f (x ∷ xs) zero = refl
slice_get-map f (x ∷ xs) (suc n) = slice_get-map f xs n

pub slice_get_bound : {A : Type 0} (xs : List A) (n : ℕ) (x : A) → slice_get xs n ≡ Some x → n < length xs
slice_get_bound [] n x e = absurd cc
slice_get_bound (y ∷ xs) zero x e = omega arith
slice_get_bound (y ∷ xs) (suc n) x e = let r = slice_get_bound xs n x e in omega (arith, r)

pub slice_get_within : {A : Type 0} (xs : List A) (n : ℕ) → n < length xs → (x : A) × (slice_get xs n ≡ Some x)
slice_get_within [] n l = absurd (omega arith)
slice_get_within (x ∷ xs) zero l = (x, refl)
slice_get_within (x ∷ xs) (suc n) l = slice_get_within xs n (omega arith)

some_step : (name : Name) (o : Option ℕ) (n : ℕ) → option_map suc o ≡ Some n → (m : ℕ) × (o ≡ Some m) × (n ≡ suc m)
some_step name None n e = absurd cc
some_step name (Some m) n e = (m, refl, cc)

-- at the number of a name stands that name
pub number_at : (name : Name) (xs : List Name) (n : ℕ) → number_of name xs ≡ Some n → slice_get xs n ≡ Some name
number_at name [] n e = absurd cc
number_at name (x ∷ xs) n e = at (same name x) refl (number_at name xs) e
  where
    at : (b : Bool) → same name x ≡ b → ((m : ℕ) → number_of name xs ≡ Some m → slice_get xs m ≡ Some name)
        → cond b (Some 0) (option_map suc (number_of name xs)) ≡ Some n → slice_get (x ∷ xs) n ≡ Some name
    at true s rest e = let z : n ≡ 0 = cc in rw z (ap Some (sym (same_is name x s)))
    at false s rest e = let r = some_step name (number_of name xs) n e in rw r.2 (rest r.0 r.1)

pub number_is_some : (name : Name) (xs : List Name) → is_some (number_of name xs) ≡ is_among name xs
number_is_some name [] = refl
number_is_some name (x ∷ xs) = at (same name x) (number_is_some name xs)
  where
    through : (o : Option ℕ) → is_some (option_map suc o) ≡ is_some o
    through None = refl
    through (Some m) = refl

    at : (b : Bool) → is_some (number_of name xs) ≡ is_among name xs
        → is_some (cond b (Some 0) (option_map suc (number_of name xs))) ≡ (b || is_among name xs)
    at true r = refl
    at false r = through (number_of name xs) ∙ r

-- a name among others has a number
pub among_number : (name : Name) (xs : List Name) → is_among name xs ≡ true → (n : ℕ) × (number_of name xs ≡ Some n)
among_number name xs h = some_value (number_of name xs) (number_is_some name xs ∙ h)

-- the contract at the number of its name
pub contract_found : (program : Program) (name : Name) (n : ℕ) → number_of_contract program name ≡ Some n
    → (c : Contract) × (declared_contract program n ≡ Some c) × (c.name ≡ name) × (contract_of_name program name ≡ Some c)
contract_found program name n e =
    let at = number_at name (map (λ c. c.name) program) n e in
    let w = slice_get_within program n (subst (λ k. n < k) (length-map program (λ c. c.name))
    (slice_get_bound (map (λ c. c.name) program) n name at)) in
    let m = sym (slice_get-map (λ c. c.name) program n) ∙ at in
    (w.0, w.1, named w.0 w.1 m, ap (option_and_then (declared_contract program)) e ∙ w.1)
  where
    named : (c : Contract) → slice_get program n ≡ Some c → option_map (λ c. c.name) (slice_get program n) ≡ Some name
        → c.name ≡ name
    named c a b = let s : Some c.name ≡ Some name = sym (ap (option_map (λ c. c.name)) a) ∙ b in cc

-- the first thing of a name stands at its number
pub first_at : {A : Type 0} (name_of : A → Name) (name : Name) (xs : List A) (n : ℕ)
    → number_of name (map name_of xs) ≡ Some n
    → (x : A) × (slice_get xs n ≡ Some x) × (first_named name_of name xs ≡ Some x) × (name_of x ≡ name)
first_at name_of name [] n e = absurd cc
first_at {A} name_of name (x ∷ xs) n e = at (same name (name_of x)) refl (first_at name_of name xs) e
  where
    at : (b : Bool) → same name (name_of x) ≡ b
        → ((m : ℕ) → number_of name (map name_of xs) ≡ Some m
        → (y : A) × (slice_get xs m ≡ Some y) × (first_named name_of name xs ≡ Some y) × (name_of y ≡ name))
        → cond b (Some 0) (option_map suc (number_of name (map name_of xs))) ≡ Some n
        → (y : A) × (slice_get (x ∷ xs) n ≡ Some y) × (cond b (Some x) (first_named name_of name xs) ≡ Some y)
        × (name_of y ≡ name)
    at true s rest e = let z : n ≡ 0 = cc in (x, ap (slice_get (x ∷ xs)) z, refl, sym (same_is name (name_of x) s))
    at false s rest e =
        let r = some_step name (number_of name (map name_of xs)) n e in
        let w = rest r.0 r.1 in
        (w.0, ap (slice_get (x ∷ xs)) r.2 ∙ w.1, w.2, w.3)

pub get_or_at : {A : Type 0} (xs : List A) (i : ℕ) (x d : A) → slice_get xs i ≡ Some x → get_or xs i d ≡ x
get_or_at [] i x d e = absurd cc
get_or_at (y ∷ xs) zero x d e = cc
get_or_at (y ∷ xs) (suc i) x d e = get_or_at xs i x d e

-- the first thing of a name stands somewhere, and has that name
pub named_at : {A : Type 0} (name_of : A → Name) (name : Name) (xs : List A) (x : A)
    → first_named name_of name xs ≡ Some x → (n : ℕ) × (slice_get xs n ≡ Some x) × (name_of x ≡ name)
named_at name_of name [] x e = absurd cc
named_at {A} name_of name (y ∷ xs) x e = at (same name (name_of y)) refl (named_at name_of name xs x) e
  where
    at : (b : Bool) → same name (name_of y) ≡ b
        → (first_named name_of name xs ≡ Some x → (n : ℕ) × (slice_get xs n ≡ Some x) × (name_of x ≡ name))
        → cond b (Some y) (first_named name_of name xs) ≡ Some x
        → (n : ℕ) × (slice_get (y ∷ xs) n ≡ Some x) × (name_of x ≡ name)
    at true s rest e = let z : y ≡ x = cc in (0, e, ap name_of (sym z) ∙ sym (same_is name (name_of y) s))
    at false s rest e = let r = rest e in (suc r.0, r.1, r.2)

-- the number of the first thing of a name
pub first_number : {A : Type 0} (name_of : A → Name) (name : Name) (xs : List A) (x : A)
    → first_named name_of name xs ≡ Some x → (n : ℕ) × (number_of name (map name_of xs) ≡ Some n)
    × (slice_get xs n ≡ Some x)
first_number name_of name [] x e = absurd cc
first_number {A} name_of name (y ∷ xs) x e = at (same name (name_of y)) (first_number name_of name xs x) e
  where
    at : (b : Bool) → (first_named name_of name xs ≡ Some x
        → (n : ℕ) × (number_of name (map name_of xs) ≡ Some n) × (slice_get xs n ≡ Some x))
        → cond b (Some y) (first_named name_of name xs) ≡ Some x
        → (n : ℕ) × (cond b (Some 0) (option_map suc (number_of name (map name_of xs))) ≡ Some n)
        × (slice_get (y ∷ xs) n ≡ Some x)
    at true rest e = (0, refl, e)
    at false rest e = let r = rest e in (suc r.0, ap (option_map suc) r.1, r.2)

-- Calls one behind the other.
use Rattle.std.proofs.Common.{◌≡◌, ℕ, ◌+◌, ◌≤◌, List, [], ◌∷◌, ◌++◌, length, take, drop, Option, None, Some, refl, sym, ◌∙◌, ap, subst, arith, append_assoc, length-append, length-take-le, take-add, take_all}
use Rattle.std.proofs.lemmas.List.{append-nil}
use Rattle.ob_io_std.specs.Calls.{Call, Adds, AddsSome}
use Rattle.ob_io_std.specs.Ranges.{Cover, CoverFront}

pub adds_none : (a : Option (List Call)) → Adds a a []
adds_none None = tt
adds_none (Some calls) = sym (append-nil calls)

pub adds_then : (a b c : Option (List Call)) (x y : List Call) → Adds a b x → Adds b c y → Adds a c (x ++ y)
adds_then a b None x y p q = tt
adds_then None None (Some zs) x y p q = absurd q
adds_then (Some xs) None (Some zs) x y p q = absurd q
adds_then None (Some ys) (Some zs) x y p q = absurd p
adds_then (Some xs) (Some ys) (Some zs) x y p q = q ∙ ap (λ (l : List Call). l ++ y) p ∙ append_assoc xs x y

-- nothing is covered by no call
pub cover_none : (call : ℕ → List ℕ → Call) (at : ℕ) → Cover call at [] []
cover_none call at = refl

-- one piece more
pub cover_more : (call : ℕ → List ℕ → Call) (at : ℕ) (bytes piece : List ℕ) (calls : List Call) → Cover call at bytes calls
    → Cover call at (bytes ++ piece) (calls ++ call (at + length bytes) piece ∷ [])
cover_more call at bytes piece [] is =
    subst (λ (l : List ℕ). Cover call at (l ++ piece) (call (at + length l) piece ∷ [])) (sym is)
    (subst (λ (n : ℕ). Cover call at piece (call n piece ∷ [])) (omega arith) (piece, [], sym (append-nil piece), refl, refl))
cover_more call at bytes piece (made ∷ calls) (front, rest, split, is, more) =
    let next : Cover call (at + length front) (rest ++ piece) (calls ++ call (at + length front + length rest) piece ∷ []) = cover_more call (at + length front) rest piece calls more in
    let place : at + length front + length rest ≡ at + length bytes = omega (arith, ap (λ (l : List ℕ). length l) split, length-append front rest) in (
      front,
      rest ++ piece,
      ap (λ (l : List ℕ). l ++ piece) split ∙ append_assoc front rest piece,
      is,
      subst (λ (n : ℕ). Cover call (at + length front) (rest ++ piece) (calls ++ call n piece ∷ [])) place next,
    )

-- a call that did nothing
pub adds_same : (a b c : Option (List Call)) (x : List Call) → Adds a b x → Adds b c [] → Adds a c x
adds_same a b c x p q = subst (λ (l : List Call). Adds a c l) (append-nil x) (adds_then a b c x [] p q)

-- one piece more of the front of a range
pub front_more : (call : ℕ → List ℕ → Call) (at done n : ℕ) (bytes : List ℕ) (calls : List Call) → done ≤ length bytes → Cover call at (take done bytes) calls
    → Cover call at (take (done + n) bytes) (calls ++ call (at + done) (take n (drop done bytes)) ∷ [])
front_more call at done n bytes calls le is =
    let piece : List ℕ = take n (drop done bytes) in
    subst (λ (l : List ℕ). Cover call at l (calls ++ call (at + done) piece ∷ [])) (sym (take-add done n bytes))
    (subst (λ (k : ℕ). Cover call at (take done bytes ++ piece) (calls ++ call (at + k) piece ∷ [])) (length-take-le done bytes le) (cover_more call at (take done bytes) piece calls is))

-- the whole range
pub front_whole : (call : ℕ → List ℕ → Call) (at done : ℕ) (bytes : List ℕ) (calls : List Call) → done ≤ length bytes → length bytes ≤ done → Cover call at (take done bytes) calls → Cover call at bytes calls
front_whole call at done bytes calls le ge is = subst (λ (l : List ℕ). Cover call at l calls) (take_all done bytes ge) is

-- and what the calls are then
pub piece_more : (call : ℕ → List ℕ → Call) (at done n : ℕ) (bytes : List ℕ) (old mid new : Option (List Call)) (calls : List Call) → done ≤ length bytes → Cover call at (take done bytes) calls
    → Adds old mid calls → Adds mid new (call (at + done) (take n (drop done bytes)) ∷ [])
    → (more : List Call) × Cover call at (take (done + n) bytes) more × Adds old new more
piece_more call at done n bytes old mid new calls le is was next =
    (calls ++ call (at + done) (take n (drop done bytes)) ∷ [], front_more call at done n bytes calls le is, adds_then old mid new calls (call (at + done) (take n (drop done bytes)) ∷ []) was next)

-- no byte of a range was taken
pub front_none : (call : ℕ → List ℕ → Call) (at : ℕ) (bytes : List ℕ) (a : Option (List Call)) → AddsSome a a (CoverFront call at bytes)
front_none call at bytes a = ([], (0, omega arith, refl), adds_none a)

-- Where the first newline is, and how the parts of a line join.
use Rattle.std.proofs.Common.{◌≡◌, ℕ, zero, suc, ◌+◌, ◌-◌, ◌<◌, ◌≤◌, ◌==◌, nat_lt, not, inl, inr, Bool, true, false, List, [], ◌∷◌, ◌++◌, length, get_or, take, drop, Option, Some, None, refl, sym, ◌∙◌, ap, subst, arith, slice_range, length-drop, length-take, length-append, take-append-drop, append_assoc}
use Rattle.std.specs.List.{position, position_or_len}
use Rattle.std.proofs.lemmas.List.{drop_more, drop-take, drop-drop, append-nil}
use Rattle.std.proofs.lemmas.List.Quantifiers.{position-Some}
use Rattle.std.proofs.lemmas.List.Folds.{list_any-append}
use Rattle.std.proofs.lemmas.Bool.Decides.{nat_tests}
use Rattle.std.proofs.lemmas.List.Sums.{prefix_len-le-length}
use Rattle.std.specs.Io.KnownBytes.{prepend_known}
use Rattle.ob_base.specs.Limits.{longest_line}
use Rattle.ob_base.proofs.OptionalLemmas.{by_cases}
use Rattle.ob_io.specs.Told.{Takes, TakesFrom}
use Rattle.ob_io.specs.Views.{SourceView}
use Rattle.ob_io.proofs.ToldLemmas.{takes_then, takes_from_none, takes_from_then}
use Rattle.ob_io.specs.Lines.{has_newline, IsSoFar}

none_below : (xs : List ℕ) (n : ℕ) → ((k : ℕ) → k < n → (get_or xs k 0 == 10) ≡ false) → has_newline (take n xs) ≡ false
none_below xs zero h = refl
none_below [] (suc n) h = refl
none_below (x ∷ xs) (suc n) h =
    let first : (x == 10) ≡ false = h 0 (omega arith) in
    rw first (none_below xs n (λ k lt. h (suc k) (omega arith)))

-- what stands before the first newline has none, and the newline and the rest follow
pub newline_at : (xs : List ℕ) (at : ℕ) → position (λ b. b == 10) xs ≡ Some at → (at < length xs) × (has_newline (take at xs) ≡ false) × (xs ≡ take at xs ++ 10 ∷ drop (at + 1) xs)
newline_at xs at found =
    let p = position-Some (λ b. b == 10) xs at 0 found in
    let is : get_or xs at 0 ≡ 10 = grind (arith, nat_tests, p.1) in
    (p.0, none_below xs at p.2, sym (take-append-drop at xs) ∙ ap (λ (l : List ℕ). take at xs ++ l) (drop_more xs at 0 p.0 ∙ ap (λ (b : ℕ). b ∷ drop (at + 1) xs) is))

all_before : (xs : List ℕ) → position_or_len (λ b. b == 10) xs ≡ length xs → has_newline xs ≡ false
all_before [] h = refl
all_before (x ∷ xs) h = elim (by_cases (x == 10)) [
  | inl is ↦ let same : position_or_len (λ b. b == 10) (x ∷ xs) ≡ 0 = rw is refl in absurd (omega (arith, same, h))
  | inr isnt ↦ let same : position_or_len (λ b. b == 10) (x ∷ xs) ≡ 1 + position_or_len (λ b. b == 10) xs = rw isnt refl in rw isnt (all_before xs (omega (arith, same, h)))
]

pub no_newline : (xs : List ℕ) → position (λ b. b == 10) xs ≡ None → has_newline xs ≡ false
no_newline xs none = elim (by_cases (nat_lt (position_or_len (λ b. b == 10) xs) (length xs))) [
  | inl is ↦ let some : position (λ b. b == 10) xs ≡ Some (position_or_len (λ b. b == 10) xs) = rw is refl in cc
  | inr isnt ↦ all_before xs (let le = prefix_len-le-length (λ x. not (x == 10)) xs in grind (arith, nat_tests))
]

-- the rest of a range
pub drop-range : (xs : List ℕ) (a b n : ℕ) → n ≤ b - a → drop n (slice_range xs a b) ≡ slice_range xs (a + n) b
drop-range xs a b n le =
    let m : b - a ≡ n + (b - (a + n)) = omega arith in
    rw m (drop-take n (b - (a + n)) (drop a xs) ∙ ap (λ (l : List ℕ). take (b - (a + n)) l) (drop-drop n a xs))

pub length-range : (xs : List ℕ) (a b : ℕ) → length (slice_range xs a b) ≤ b - a
length-range xs a b = omega (arith, length-take (b - a) (drop a xs))

pub length-held : (xs : List ℕ) (a b : ℕ) → b ≤ length xs → length (slice_range xs a b) ≡ b - a
length-held xs a b le = omega (arith, length-take (b - a) (drop a xs), length-drop a xs)

pub held_after : (xs : List ℕ) (a b at : ℕ) → at < length (slice_range xs a b) → drop (at + 1) (slice_range xs a b) ≡ slice_range xs (a + (at + 1)) b
held_after xs a b at lt = drop-range xs a b (at + 1) (omega (arith, length-range xs a b))

pub range_nil : (xs : List ℕ) (a : ℕ) → slice_range xs a a ≡ []
range_nil xs a = let z : a - a ≡ 0 = omega arith in rw z refl

pub no_newline_join : (a b : List ℕ) → has_newline a ≡ false → has_newline b ≡ false → has_newline (a ++ b) ≡ false
no_newline_join a b p q = list_any-append (λ x. x == 10) a b ∙ rw (p, q) refl

pub so_far_short : (long : Bool) (line part : List ℕ) → IsSoFar long line part → length line ≤ longest_line
so_far_short true line part so = rw so.0 (omega arith)
so_far_short false line part so = rw so.0 so.1

-- one piece more, up to a newline
pub whole_step : (told left : Option (List ℕ)) (held held' part piece : List ℕ) → Takes told (prepend_known held left) part → held ≡ piece ++ 10 ∷ held' → Takes told (prepend_known held' left) ((part ++ piece) ++ 10 ∷ [])
whole_step None None held held' part piece took is = tt
whole_step None (Some rest) held held' part piece took is = absurd took
whole_step (Some text) None held held' part piece took is = absurd took
whole_step (Some text) (Some rest) held held' part piece took is =
    took ∙ ap (λ (l : List ℕ). part ++ (l ++ rest)) is ∙ simp append_assoc

-- one piece more, all that is held
pub part_step : (told left : Option (List ℕ)) (held held' part piece : List ℕ) → Takes told (prepend_known held left) part → held ≡ piece → held' ≡ [] → Takes told (prepend_known held' left) (part ++ piece)
part_step None None held held' part piece took is none = tt
part_step None (Some rest) held held' part piece took is none = absurd took
part_step (Some text) None held held' part piece took is none = absurd took
part_step (Some text) (Some rest) held held' part piece took is none =
    took ∙ ap (λ (l : List ℕ). part ++ (l ++ rest)) is ∙ sym (append_assoc part piece rest) ∙ ap (λ (l : List ℕ). (part ++ piece) ++ (l ++ rest)) (sym none)

-- what is held is nothing, so what is to come is what is left
pub nothing_held : (left : Option (List ℕ)) (held : List ℕ) → held ≡ [] → prepend_known held left ≡ left
nothing_held None held none = refl
nothing_held (Some rest) held none = ap (λ (l : List ℕ). Some (l ++ rest)) none

-- one piece more, and then the source's next bytes
pub refilled : (told left after : Option (List ℕ)) (held held' part piece : List ℕ) → Takes told (prepend_known held left) part → held ≡ piece → held' ≡ [] → Takes left after [] → Takes told after (part ++ piece)
refilled told left after held held' part piece took is none next =
    let here : Takes told left (part ++ piece) = subst (λ (l : Option (List ℕ)). Takes told l (part ++ piece)) (nothing_held left held' none) (part_step told left held held' part piece took is none) in
    subst (λ (l : List ℕ). Takes told after l) (append-nil (part ++ piece)) (takes_then told left after (part ++ piece) [] here next)

-- a reader that took nothing more
pub drawn_same : (from now : SourceView) (a b c : ℕ) → (bytes : List ℕ) × TakesFrom from now bytes × (b ≡ a + length bytes) → c ≡ b → (bytes : List ℕ) × TakesFrom from now bytes × (c ≡ a + length bytes)
drawn_same from now a b c was same = (was.0, was.1, same ∙ was.2)

-- and one that did
pub drawn_then : (from mid now : SourceView) (a b c d : ℕ) → (bytes : List ℕ) × TakesFrom from mid bytes × (b ≡ a + length bytes) → c ≡ b → (bytes : List ℕ) × TakesFrom mid now bytes × (d ≡ c + length bytes)
    → (bytes : List ℕ) × TakesFrom from now bytes × (d ≡ a + length bytes)
drawn_then from mid now a b c d was same more = (was.0 ++ more.0, takes_from_then from mid now was.0 more.0 was.1 more.1, omega (arith, was.2, same, more.2, length-append was.0 more.0))

pub drawn_none : (from : SourceView) (a : ℕ) → (bytes : List ℕ) × TakesFrom from from bytes × (a ≡ a + length bytes)
drawn_none from a = ([], takes_from_none from, omega arith)

pub joined_length : (part piece rest : List ℕ) (old mid new : ℕ) → mid ≡ old + length part → new ≡ mid + length piece + length rest → new ≡ old + length ((part ++ piece) ++ rest)
joined_length part piece rest old mid new p q = omega (arith, length-append (part ++ piece) rest, length-append part piece)

-- Lists of which the elements at some places are the same.
use Rattle.std.proofs.Common.{◌≡◌, ◌≢◌, ℕ, zero, suc, ◌+◌, ◌<◌, ◌≤◌, inr, List, [], ◌∷◌, ◌++◌, length, Contains, Some, None, refl, sym, ap, ◌∙◌, subst, arith, true≢false, length-append, length-set}
use Rattle.std.proofs.lemmas.List.Elements.{Contains-append_right}
use Rattle.std.specs.Prelude.{slice_get, slice_set, is_some, unwrap_or}
use Rattle.ob_heap_spec.specs.Objects.{Object}
use Rattle.ob_heap_spec.specs.Worlds.{ReadItem, next_item, AllRead}
use Rattle.ob_request_run_laws.specs.Locality.{Setting, IsKnown, Alike}

pub all_read_self : (r : List ReadItem) → AllRead r r
all_read_self r = λ i c. c

pub all_read_on : (a b c : List ReadItem) → AllRead a b → AllRead b c → AllRead a c
all_read_on a b c f g = λ i h. g i (f i h)

pub all_read_more : (item : ReadItem) (r : List ReadItem) → AllRead r (item ∷ r)
all_read_more item r = λ i c. Contains-append_right (item ∷ []) r i c

pub none_is_some : {A : Type 0} {a : A} → None ≡ Some a → ⊥
none_is_some e = true≢false (sym (ap is_some e))

pub some_is_none : {A : Type 0} {a : A} → Some a ≡ None → ⊥
some_is_none e = true≢false (ap is_some e)

-- what is put at one place of two lists leaves them alike at another
set_alike : {A : Type 0} (xs ys : List A) (k : ℕ) (x : A) (n : ℕ) → slice_get ys n ≡ slice_get xs n → slice_get (slice_set ys k x) n ≡ slice_get (slice_set xs k x) n
set_alike [] [] k x n e = refl
set_alike [] (y ∷ ys) k x zero e = absurd (some_is_none e)
set_alike [] (y ∷ ys) zero x (suc n) e = e
set_alike [] (y ∷ ys) (suc k) x (suc n) e = set_alike [] ys k x n e
set_alike (z ∷ xs) [] k x zero e = absurd (none_is_some e)
set_alike (z ∷ xs) [] zero x (suc n) e = e
set_alike (z ∷ xs) [] (suc k) x (suc n) e = set_alike xs [] k x n e
set_alike (z ∷ xs) (y ∷ ys) zero x zero e = refl
set_alike (z ∷ xs) (y ∷ ys) zero x (suc n) e = e
set_alike (z ∷ xs) (y ∷ ys) (suc k) x zero e = e
set_alike (z ∷ xs) (y ∷ ys) (suc k) x (suc n) e = set_alike xs ys k x n e

pub set_elsewhere : {A : Type 0} (xs : List A) (k n : ℕ) (x : A) → n ≢ k → slice_get (slice_set xs k x) n ≡ slice_get xs n
set_elsewhere [] k n x h = refl
set_elsewhere (y ∷ ys) zero zero x h = absurd (h refl)
set_elsewhere (y ∷ ys) zero (suc n) x h = refl
set_elsewhere (y ∷ ys) (suc k) zero x h = refl
set_elsewhere (y ∷ ys) (suc k) (suc n) x h = set_elsewhere ys k n x (λ e. h (ap suc e))

pub is_below : {A : Type 0} (xs : List A) (n : ℕ) (o : A) → slice_get xs n ≡ Some o → n < length xs
is_below [] n o e = absurd (none_is_some e)
is_below (x ∷ xs) zero o e = omega arith
is_below (x ∷ xs) (suc n) o e = let h = is_below xs n o e in omega (arith, h)

before_end : {A : Type 0} (xs : List A) (n : ℕ) (x : A) → n < length xs → slice_get (xs ++ x ∷ []) n ≡ slice_get xs n
before_end [] n x lt = absurd (omega arith)
before_end (y ∷ ys) zero x lt = refl
before_end (y ∷ ys) (suc n) x lt = before_end ys n x (omega arith)

append_alike : {A : Type 0} (xs ys : List A) (n : ℕ) (x : A) → length ys ≡ length xs → slice_get ys n ≡ slice_get xs n → slice_get (ys ++ x ∷ []) n ≡ slice_get (xs ++ x ∷ []) n
append_alike [] [] n x l e = refl
append_alike [] (y ∷ ys) n x l e = absurd (omega (arith, l))
append_alike (z ∷ xs) [] n x l e = absurd (omega (arith, l))
append_alike (z ∷ xs) (y ∷ ys) zero x l e = e
append_alike (z ∷ xs) (y ∷ ys) (suc n) x l e = append_alike xs ys n x (omega (arith, l)) e

pub past_end : {A : Type 0} (xs : List A) (n : ℕ) → length xs ≤ n → slice_get xs n ≡ None
past_end [] n h = refl
past_end (x ∷ xs) zero h = absurd (omega (arith, h))
past_end (x ∷ xs) (suc n) h = past_end xs n (omega (arith, h))

pub there_is : {A : Type 0} (xs : List A) (n : ℕ) → n < length xs → (o : A) × (slice_get xs n ≡ Some o)
there_is [] n h = absurd (omega (arith, h))
there_is (x ∷ xs) zero h = (x, refl)
there_is (x ∷ xs) (suc n) h = there_is xs n (omega (arith, h))

pub some_is : {A : Type 0} (a b : A) → Some a ≡ Some b → a ≡ b
some_is a b e = ap (λ o. unwrap_or o a) e

-- Two lists of objects.

-- what is edited or made so is alike again
pub alike_set : (s : Setting) (xs ys : List Object) (k : ℕ) (o : Object) → IsKnown s k → Alike s xs ys → Alike s (slice_set xs k o) (slice_set ys k o)
alike_set s xs ys k o known a = record {
  known = λ n h. set_alike xs ys k o n (a.known n h);
  others = λ n h. set_elsewhere ys k n o (λ e. h (subst (λ m. IsKnown s m) (sym e) known)) ∙ a.others n h;
  next = λ h. length-set ys k o ∙ a.next h ∙ sym (length-set xs k o);
}

below_if : (count n l : ℕ) → (count ≤ n → ⊥) → count ≤ l → n < l
below_if count n l h c = omega (arith, c, h)

pub alike_made : (s : Setting) (xs ys : List Object) (o : Object) → Contains s.items next_item → s.count ≤ length xs → Alike s xs ys → Alike s (xs ++ o ∷ []) (ys ++ o ∷ [])
alike_made s xs ys o next count a = record {
  known = λ n h. append_alike xs ys n o (a.next next) (a.known n h);
  others = λ n h. before_end ys n o (below_if s.count n (length ys) (λ l. h (inr (next, l))) (subst (λ k. s.count ≤ k) (sym (a.next next)) count)) ∙ a.others n h;
  next = λ h. length-append ys (o ∷ []) ∙ ap (λ k. k + 1) (a.next h) ∙ sym (length-append xs (o ∷ []));
}

-- What a run has of a content, taken off it and laid over another.
use Rattle.std.proofs.Common.{◌≡◌, ℕ, zero, suc, ◌+◌, ◌-◌, ◌<◌, ◌≤◌, ◌⊎◌, inl, inr, Bool, true, false, List, [], ◌∷◌, ◌++◌, length, drop, Contains, Option, Some, None, refl, sym, ap, ◌∙◌, subst, arith, length-append, take, eq-eqb, ltb-true, ltb-false}
use Rattle.std.proofs.lemmas.List.{append-nil}
use Rattle.std.proofs.lemmas.Bool.{eqb-true}
use Rattle.std.specs.Prelude.{⊤, nat_eq, nat_lt, slice_get, slice_index_or, option_map, if◌then◌else◌}
use Rattle.std.specs.Option.{unwrap_or}
use Rattle.ob_heap_spec.specs.Objects.{Object}
use Rattle.ob_heap_spec.specs.Contents.{object_at}
use Rattle.ob_heap_spec.specs.Worlds.{ReadItem, object_item, next_item, handle_item, handles_full_item, World, AllRead}
use Rattle.ob_request_run_laws.specs.Locality.{Setting, IsKnown, Alike, onto, IsGood}
use Rattle.ob_request_run_laws.proofs.Lists.{none_is_some, all_read_more, past_end, there_is}
use Rattle.ob_request_run_laws.specs.Held.{Held, with_held, held_of, held_by, found, laid_from, laid_over}

-- Lists.

pub lists_same : {A : Type 0} (xs ys : List A) → ((n : ℕ) → slice_get ys n ≡ slice_get xs n) → ys ≡ xs
lists_same [] [] h = refl
lists_same [] (y ∷ ys) h = absurd (none_is_some (sym (h zero)))
lists_same (x ∷ xs) [] h = absurd (none_is_some (h zero))
lists_same (x ∷ xs) (y ∷ ys) h = ap (λ z. z ∷ ys) (some_same y x (h zero)) ∙ ap (λ zs. x ∷ zs) (lists_same xs ys (λ n. h (suc n)))
  where
    some_same : {A : Type 0} (a b : A) → Some a ≡ Some b → a ≡ b
    some_same a b e = ap (λ o. unwrap_or o a) e

drop_all : {A : Type 0} (xs : List A) (k : ℕ) → length xs ≤ k → drop k xs ≡ []
drop_all [] zero h = refl
drop_all [] (suc k) h = refl
drop_all (x ∷ xs) zero h = absurd (omega (arith, h))
drop_all (x ∷ xs) (suc k) h = drop_all xs k (omega (arith, h))

pub drops_same : {A : Type 0} (k : ℕ) (xs ys : List A) → ((n : ℕ) → k ≤ n → slice_get ys n ≡ slice_get xs n) → drop k ys ≡ drop k xs
drops_same zero xs ys h = lists_same xs ys (λ n. h n (omega arith))
drops_same (suc k) [] [] h = refl
drops_same {A = A} (suc k) [] (y ∷ ys) h = drops_same k [] ys (λ n l. h (suc n) (omega (arith, l))) ∙ drop_all [] k (omega arith)
drops_same {A = A} (suc k) (x ∷ xs) [] h = sym (drop_all [] k (omega arith)) ∙ drops_same k xs [] (λ n l. h (suc n) (omega (arith, l)))
drops_same (suc k) (x ∷ xs) (y ∷ ys) h = drops_same k xs ys (λ n l. h (suc n) (omega (arith, l)))

pub length_drop : {A : Type 0} (xs : List A) (k : ℕ) → length (drop k xs) ≡ length xs - k
length_drop [] zero = refl
length_drop [] (suc k) = omega arith
length_drop (x ∷ xs) zero = omega arith
length_drop (x ∷ xs) (suc k) = let e = length_drop xs k in omega (arith, e)

appends_same : {A : Type 0} (xs ys m : List A) (n : ℕ) → length ys ≡ length xs → slice_get ys n ≡ slice_get xs n → slice_get (ys ++ m) n ≡ slice_get (xs ++ m) n
appends_same [] [] m n l e = refl
appends_same [] (y ∷ ys) m n l e = absurd (omega (arith, l))
appends_same (x ∷ xs) [] m n l e = absurd (omega (arith, l))
appends_same (x ∷ xs) (y ∷ ys) m zero l e = e
appends_same (x ∷ xs) (y ∷ ys) m (suc n) l e = appends_same xs ys m n (omega (arith, l)) e

append_front : {A : Type 0} (xs m : List A) (n : ℕ) → n < length xs → slice_get (xs ++ m) n ≡ slice_get xs n
append_front [] m n h = absurd (omega (arith, h))
append_front (x ∷ xs) m zero h = refl
append_front (x ∷ xs) m (suc n) h = append_front xs m n (omega (arith, h))

-- Laying over.

laid_length_from : (held : List (ℕ × Object)) (k : ℕ) (base : List Object) → length (laid_from held k base) ≡ length base
laid_length_from held k [] = refl
laid_length_from held k (o ∷ os) = let e = laid_length_from held (suc k) os in omega (arith, e)

pub laid_length : (base : List Object) (h : Held) → length (laid_over base h) ≡ length base + length h.made
laid_length base h = length-append (laid_from h.read 0 base) h.made ∙ ap (λ n. n + length h.made) (laid_length_from h.read 0 base)

laid_get : (held : List (ℕ × Object)) (k : ℕ) (base : List Object) (n : ℕ) → slice_get (laid_from held k base) n ≡ option_map (λ o. unwrap_or (found (k + n) held) o) (slice_get base n)
laid_get held k [] n = refl
laid_get held k (o ∷ os) zero = ap (λ m. Some (unwrap_or (found m held) o)) (omega arith)
laid_get held k (o ∷ os) (suc n) = laid_get held (suc k) os n ∙ ap (λ m. option_map (λ p. unwrap_or (found m held) p) (slice_get os n)) (omega arith)

laid_at : (held : List (ℕ × Object)) (base : List Object) (n : ℕ) → slice_get (laid_from held 0 base) n ≡ option_map (λ o. unwrap_or (found n held) o) (slice_get base n)
laid_at held base n = laid_get held 0 base n ∙ ap (λ m. option_map (λ o. unwrap_or (found m held) o) (slice_get base n)) (omega arith)

same_option : {A : Type 0} (o : Option A) → option_map (λ x. x) o ≡ o
same_option None = refl
same_option (Some x) = refl

-- a run has of a content only what it has read
pub record IsHeld (reads : List ReadItem) (h : Held) : Type 0 where
  pub read : (n : ℕ) (o : Object) → found n h.read ≡ Some o → Contains reads (object_item n)
  pub made : 0 < length h.made → Contains reads next_item

-- where nothing is laid at a number it is the base's
pub laid_unread : (held : List (ℕ × Object)) (base : List Object) (n : ℕ) (x : Option Object) → found n held ≡ x → (x ≡ None) → slice_get (laid_from held 0 base) n ≡ slice_get base n
laid_unread held base n x e f = laid_at held base n ∙ ap (λ y. option_map (λ o. unwrap_or y o) (slice_get base n)) (e ∙ f) ∙ same_option (slice_get base n)

unread : (x : Option Object) → ((o : Object) → x ≡ Some o → ⊥) → x ≡ None
unread None h = refl
unread (Some o) h = absurd (h o refl)

-- what isn't held of the base is the base's
pub laid_unheld : (base : List Object) (h : Held) (n : ℕ) → n < length base → ((o : Object) → found n h.read ≡ Some o → ⊥) → slice_get (laid_over base h) n ≡ slice_get base n
laid_unheld base h n below none =
    append_front (laid_from h.read 0 base) h.made n (subst (λ l. n < l) (sym (laid_length_from h.read 0 base)) below) ∙ laid_unread h.read base n (found n h.read) refl (unread (found n h.read) none)

pub made_none : (m : List Object) → length m ≡ 0 → m ≡ []
made_none [] e = refl
made_none (o ∷ m) e = absurd (omega (arith, e))

same_laid : (held : List (ℕ × Object)) (xs ys : List Object) (n : ℕ) → slice_get ys n ≡ slice_get xs n → slice_get (laid_from held 0 ys) n ≡ slice_get (laid_from held 0 xs) n
same_laid held xs ys n e = laid_at held ys n ∙ ap (option_map (λ o. unwrap_or (found n held) o)) e ∙ sym (laid_at held xs n)

-- where the number of objects was read
alike_next : (s : Setting) (reads : List ReadItem) (xs : List Object) (h : Held) → s.count ≡ length xs → AllRead reads s.items → IsHeld reads h
    → ((n : ℕ) → Contains s.items (object_item n) → object_at s.others n ≡ object_at xs n) → length s.others ≡ length xs → Contains s.items next_item
    → Alike s (laid_over xs h) (laid_over s.others h)
alike_next s reads xs h count all held objects next reads_next = record {
  known = λ n k. appends_same (laid_from h.read 0 xs) (laid_from h.read 0 s.others) h.made n (laid_length_from h.read 0 s.others ∙ next ∙ sym (laid_length_from h.read 0 xs)) (same_laid h.read xs s.others n (same_at n k));
  others = λ n k. append_front (laid_from h.read 0 s.others) h.made n (subst (λ l. n < l) (sym (laid_length_from h.read 0 s.others ∙ next ∙ sym count)) (below s.count n (λ l. k (inr (reads_next, l)))))
      ∙ laid_unread h.read s.others n (found n h.read) refl (unread (found n h.read) (λ o e. k (inl (all (object_item n) (held.read n o e)))));
  next = λ k. laid_length s.others h ∙ ap (λ l. l + length h.made) next ∙ sym (laid_length xs h);
}
  where
    below : (count n : ℕ) → (count ≤ n → ⊥) → n < count
    below count n h = omega (arith, h)

    same_at : (n : ℕ) → IsKnown s n → object_at s.others n ≡ object_at xs n
    same_at n (inl c) = objects n c
    same_at n (inr c) = past_end s.others n (subst (λ l. l ≤ n) (count ∙ sym next) c.1) ∙ sym (past_end xs n (subst (λ l. l ≤ n) count c.1))

-- where nothing was made
alike_unmade : (s : Setting) (reads : List ReadItem) (xs : List Object) (h : Held) → s.count ≡ length xs → AllRead reads s.items → IsHeld reads h
    → ((n : ℕ) → Contains s.items (object_item n) → object_at s.others n ≡ object_at xs n) → (Contains s.items next_item → length s.others ≡ length xs)
    → h.made ≡ [] → Alike s (laid_over xs h) (laid_over s.others h)
alike_unmade s reads xs h count all held objects next none = record {
  known = λ n k. alone s.others n ∙ same_laid h.read xs s.others n (same_at n k) ∙ sym (alone xs n);
  others = λ n k. alone s.others n ∙ laid_unread h.read s.others n (found n h.read) refl (unread (found n h.read) (λ o e. k (inl (all (object_item n) (held.read n o e)))));
  next = λ k. laid_length s.others h ∙ ap (λ l. l + length h.made) (next k) ∙ sym (laid_length xs h);
}
  where
    alone : (base : List Object) (n : ℕ) → slice_get (laid_over base h) n ≡ slice_get (laid_from h.read 0 base) n
    alone base n = ap (λ m. slice_get (laid_from h.read 0 base ++ m) n) none ∙ ap (λ l. slice_get l n) (append-nil (laid_from h.read 0 base))

    same_at : (n : ℕ) → IsKnown s n → object_at s.others n ≡ object_at xs n
    same_at n (inl c) = objects n c
    same_at n (inr c) = past_end s.others n (subst (λ l. l ≤ n) (count ∙ sym (next c.0)) c.1) ∙ sym (past_end xs n (subst (λ l. l ≤ n) count c.1))

-- what a run has of a content is alike when it is laid over another content that agrees with the first
pub laid_alike : (s : Setting) (reads : List ReadItem) (xs : List Object) (h : Held) → s.count ≡ length xs → AllRead reads s.items → IsHeld reads h
    → ((n : ℕ) → Contains s.items (object_item n) → object_at s.others n ≡ object_at xs n) → (Contains s.items next_item → length s.others ≡ length xs)
    → Alike s (laid_over xs h) (laid_over s.others h)
laid_alike s reads xs h count all held objects next = by_made (length h.made) refl
  where
    by_made : (k : ℕ) → length h.made ≡ k → Alike s (laid_over xs h) (laid_over s.others h)
    by_made zero e = alike_unmade s reads xs h count all held objects next (made_none h.made e)
    by_made (suc k) e = let c = all next_item (held.made (omega (arith, e))) in alike_next s reads xs h count all held objects (next c) c

-- Taking off.

found_with : (n m : ℕ) (x : Option Object) (held : List (ℕ × Object)) (o : Object) → found n (with_held m x held) ≡ Some o → (n ≡ m) ⊎ (found n held ≡ Some o)
found_with n m None held o e = inr e
found_with n m (Some p) held o e = by (nat_eq n m) refl e
  where
    by : (b : Bool) → nat_eq n m ≡ b → (if b then Some p else found n held) ≡ Some o → (n ≡ m) ⊎ (found n held ≡ Some o)
    by true h f = inl (eqb-true n m h)
    by false h f = inr f

read_from : (items : List ReadItem) (n m : ℕ) (held : List (ℕ × Object)) (o : Object) → (found n held ≡ Some o → Contains items (object_item n)) → (n ≡ m) ⊎ (found n held ≡ Some o) → Contains (object_item m ∷ items) (object_item n)
read_from items n m held o ih (inl e) = subst (λ k. Contains (object_item m ∷ items) (object_item k)) (sym e) (0, omega arith, refl)
read_from items n m held o ih (inr f) = all_read_more (object_item m) items (object_item n) (ih f)

pub held_read : (reads : List ReadItem) (objects : List Object) (n : ℕ) (o : Object) → found n (held_of reads objects) ≡ Some o → Contains reads (object_item n)
held_read [] objects n o e = absurd (none_is_some e)
held_read (object_item m ∷ items) objects n o e = read_from items n m (held_of items objects) o (held_read items objects n o) (found_with n m (object_at objects m) (held_of items objects) o e)
held_read (next_item ∷ items) objects n o e = all_read_more next_item items (object_item n) (held_read items objects n o e)
held_read (handle_item h ∷ items) objects n o e = all_read_more (handle_item h) items (object_item n) (held_read items objects n o e)
held_read (handles_full_item ∷ items) objects n o e = all_read_more handles_full_item items (object_item n) (held_read items objects n o e)

pub held_made : (count : ℕ) (w : World) → IsGood count w → length (held_by w).made ≡ w.made
held_made count w good = length_drop w.objects (length w.objects - w.made) ∙ omega (arith, good.objects)

pub held_is : (count : ℕ) (w : World) → IsGood count w → IsHeld w.reads (held_by w)
held_is count w good = record {
  read = λ n o e. held_read w.reads w.objects n o e;
  made = λ l. good.next (subst (λ k. 0 < k) (held_made count w good) l);
}

held_same : (reads : List ReadItem) (xs ys : List Object) → ((n : ℕ) → Contains reads (object_item n) → object_at ys n ≡ object_at xs n) → held_of reads ys ≡ held_of reads xs
held_same [] xs ys h = refl
held_same (object_item n ∷ items) xs ys h =
    ap (λ o. with_held n o (held_of items ys)) (h n (0, omega arith, refl)) ∙ ap (with_held n (object_at xs n)) (held_same items xs ys (λ m c. h m (all_read_more (object_item n) items (object_item m) c)))
held_same (next_item ∷ items) xs ys h = held_same items xs ys (λ m c. h m (all_read_more next_item items (object_item m) c))
held_same (handle_item k ∷ items) xs ys h = held_same items xs ys (λ m c. h m (all_read_more (handle_item k) items (object_item m) c))
held_same (handles_full_item ∷ items) xs ys h = held_same items xs ys (λ m c. h m (all_read_more handles_full_item items (object_item m) c))

made_off : (s : Setting) (w : World) (ys : List Object) → IsGood s.count w → AllRead w.reads s.items → Alike s w.objects ys → (k : ℕ) → w.made ≡ k → drop (length ys - w.made) ys ≡ drop (length w.objects - w.made) w.objects
made_off s w ys good all a zero e = drop_all ys (length ys - w.made) (omega (arith, e)) ∙ sym (drop_all w.objects (length w.objects - w.made) (omega (arith, e)))
made_off s w ys good all a (suc k) e =
    let c = all next_item (good.next (omega (arith, e))) in
    ap (λ l. drop (l - w.made) ys) (a.next c) ∙ drops_same (length w.objects - w.made) w.objects ys (λ n l. a.known n (inr (c, omega (arith, l, good.objects))))

-- what is taken off the two is the same
pub held_alike : (s : Setting) (w : World) (ys : List Object) → IsGood s.count w → AllRead w.reads s.items → Alike s w.objects ys → held_by (onto ys w) ≡ held_by w
held_alike s w ys good all a =
    ap (λ r. record { read = r; made = drop (length ys - w.made) ys }) (held_same w.reads w.objects ys (λ n c. a.known n (inl (all (object_item n) c))))
    ∙ ap (λ m. record { read = held_of w.reads w.objects; made = m }) (made_off s w ys good all a w.made refl)

-- What is laid over the content from which it was taken.

-- what a run hasn't read is its content's
pub record IsKept (c : List Object) (w : World) : Type 0 where
  pub same : (n : ℕ) → n < length c → (Contains w.reads (object_item n) → ⊥) → object_at w.objects n ≡ object_at c n

abbrev item_number : ReadItem → ℕ
item_number (object_item n) = n
item_number next_item = 0
item_number (handle_item h) = 0
item_number handles_full_item = 0

abbrev is_object : ReadItem → Type 0
is_object (object_item n) = ⊤
is_object next_item = ⊥
is_object (handle_item h) = ⊥
is_object handles_full_item = ⊥

not_with : (n m : ℕ) (x : Option Object) (held : List (ℕ × Object)) → found n (with_held m x held) ≡ None → found n held ≡ None
not_with n m None held e = e
not_with n m (Some p) held e = by (nat_eq n m) e
  where
    by : (b : Bool) → (if b then Some p else found n held) ≡ None → found n held ≡ None
    by true f = absurd (none_is_some (sym f))
    by false f = f

not_here : (n m : ℕ) (o : Object) (held : List (ℕ × Object)) → m ≡ n → found n (with_held m (Some o) held) ≡ None → ⊥
not_here n m o held e f = none_is_some (sym f ∙ here)
  where
    here : found n (with_held m (Some o) held) ≡ Some o
    here = rw (eq-eqb n m (sym e)) refl

not_found : (reads : List ReadItem) (xs : List Object) (n : ℕ) (o : Object) → object_at xs n ≡ Some o → found n (held_of reads xs) ≡ None → (k : ℕ) → k < length reads → slice_index_or reads k (object_item n) ≡ object_item n → ⊥
not_found [] xs n o e f k l h = omega (arith, l)
not_found (object_item m ∷ items) xs n o e f zero l h =
    let same : m ≡ n = ap item_number h in
    not_here n m o (held_of items xs) same (subst (λ x. found n (with_held m x (held_of items xs)) ≡ None) (ap (object_at xs) same ∙ e) f)
not_found (object_item m ∷ items) xs n o e f (suc k) l h = not_found items xs n o e (not_with n m (object_at xs m) (held_of items xs) f) k (omega (arith, l)) h
not_found (next_item ∷ items) xs n o e f zero l h = subst is_object (sym h) tt
not_found (next_item ∷ items) xs n o e f (suc k) l h = not_found items xs n o e f k (omega (arith, l)) h
not_found (handle_item i ∷ items) xs n o e f zero l h = subst is_object (sym h) tt
not_found (handle_item i ∷ items) xs n o e f (suc k) l h = not_found items xs n o e f k (omega (arith, l)) h
not_found (handles_full_item ∷ items) xs n o e f zero l h = subst is_object (sym h) tt
not_found (handles_full_item ∷ items) xs n o e f (suc k) l h = not_found items xs n o e f k (omega (arith, l)) h

found_by : (items : List ReadItem) (xs : List Object) (n m : ℕ) (o : Object) (x : Option Object) → object_at xs m ≡ x → (found n (held_of items xs) ≡ Some o → object_at xs n ≡ Some o) → found n (with_held m x (held_of items xs)) ≡ Some o → object_at xs n ≡ Some o
found_by items xs n m o None h ih e = ih e
found_by items xs n m o (Some p) h ih e = by (nat_eq n m) refl e
  where
    by : (b : Bool) → nat_eq n m ≡ b → (if b then Some p else found n (held_of items xs)) ≡ Some o → object_at xs n ≡ Some o
    by true f g = ap (object_at xs) (eqb-true n m f) ∙ h ∙ g
    by false f g = ih g

found_is : (reads : List ReadItem) (xs : List Object) (n : ℕ) (o : Object) → found n (held_of reads xs) ≡ Some o → object_at xs n ≡ Some o
found_is [] xs n o e = absurd (none_is_some e)
found_is (object_item m ∷ items) xs n o e = found_by items xs n m o (object_at xs m) refl (found_is items xs n o) e
found_is (next_item ∷ items) xs n o e = found_is items xs n o e
found_is (handle_item i ∷ items) xs n o e = found_is items xs n o e
found_is (handles_full_item ∷ items) xs n o e = found_is items xs n o e

get_take : {A : Type 0} (k : ℕ) (xs : List A) (n : ℕ) → n < k → slice_get (take k xs) n ≡ slice_get xs n
get_take zero xs n h = absurd (omega (arith, h))
get_take (suc k) [] n h = refl
get_take (suc k) (x ∷ xs) zero h = refl
get_take (suc k) (x ∷ xs) (suc n) h = get_take k xs n (omega (arith, h))

past_take : {A : Type 0} (k : ℕ) (xs : List A) (n : ℕ) → k ≤ n → slice_get (take k xs) n ≡ None
past_take zero xs n h = refl
past_take (suc k) [] n h = refl
past_take (suc k) (x ∷ xs) zero h = absurd (omega (arith, h))
past_take (suc k) (x ∷ xs) (suc n) h = past_take k xs n (omega (arith, h))

take_and_drop : {A : Type 0} (k : ℕ) (xs : List A) → take k xs ++ drop k xs ≡ xs
take_and_drop zero xs = refl
take_and_drop (suc k) [] = refl
take_and_drop (suc k) (x ∷ xs) = ap (λ l. x ∷ l) (take_and_drop k xs)

below_or : (n m : ℕ) (b : Bool) → nat_lt n m ≡ b → (n < m) ⊎ (m ≤ n)
below_or n m true e = inl (ltb-true n m e)
below_or n m false e = inr (omega (arith, ltb-false n m e))

back_at : (c : List Object) (w : World) (n : ℕ) (o : Object) (x : Option Object) → IsKept c w → n < length c → object_at w.objects n ≡ Some o → found n (held_of w.reads w.objects) ≡ x → slice_get (laid_from (held_of w.reads w.objects) 0 c) n ≡ object_at w.objects n
back_at c w n o None kept l e f = laid_unread (held_of w.reads w.objects) c n None f refl ∙ sym (kept.same n l (λ k. not_found w.reads w.objects n o e f k.0 k.1 k.2))
back_at c w n o (Some p) kept l e f =
    laid_at (held_of w.reads w.objects) c n ∙ ap (option_map (λ q. unwrap_or (found n (held_of w.reads w.objects)) q)) (there_is c n l).1 ∙ ap (λ y. Some (unwrap_or y (there_is c n l).0)) f ∙ sym (found_is w.reads w.objects n p f)

back_from : (c : List Object) (w : World) (n : ℕ) → IsGood (length c) w → IsKept c w → (n < length c) ⊎ (length c ≤ n) → slice_get (laid_from (held_of w.reads w.objects) 0 c) n ≡ slice_get (take (length c) w.objects) n
back_from c w n good kept (inl l) =
    let there = there_is w.objects n (omega (arith, l, good.objects)) in
    back_at c w n there.0 (found n (held_of w.reads w.objects)) kept l there.1 refl ∙ sym (get_take (length c) w.objects n l)
back_from c w n good kept (inr l) = past_end (laid_from (held_of w.reads w.objects) 0 c) n (subst (λ k. k ≤ n) (sym (laid_length_from (held_of w.reads w.objects) 0 c)) l) ∙ sym (past_take (length c) w.objects n l)

pub laid_back : (c : List Object) (w : World) → IsGood (length c) w → IsKept c w → laid_over c (held_by w) ≡ w.objects
laid_back c w good kept =
    ap (λ l. l ++ drop (length w.objects - w.made) w.objects) (lists_same (take (length c) w.objects) (laid_from (held_of w.reads w.objects) 0 c) (λ n. back_from c w n good kept (below_or n (length c) (nat_lt n (length c)) refl)))
    ∙ ap (λ k. take (length c) w.objects ++ drop k w.objects) (omega (arith, good.objects)) ∙ take_and_drop (length c) w.objects

-- Changes laid over the objects of a base.
use Rattle.std.proofs.Common.{◌≡◌, ℕ, zero, suc, ◌+◌, ◌-◌, ◌<◌, ◌≤◌, Bool, true, false, cond, List, [], ◌∷◌, ◌++◌, length, Option, None, Some, refl, sym, ap, subst, ◌∙◌, arith, set, get_or, eq-eqb, eqb→eq, length-append, zero-add}
use Rattle.std.specs.Prelude.{nat_eq, nat_lt, slice_get, ◌||◌, if◌then◌else◌}
use Rattle.std.specs.List.{list_any}
use lib.Dec.{T, eqb}
use Rattle.std.specs.Option.{unwrap_or, option_map, option_eq}
use Rattle.std.specs.Map.{lookup}
use Rattle.std.specs.Result.{OnOk}
use Rattle.std.specs.Prelude.{Result, Ok, Err}
use Rattle.std.specs.Ordering.{nat_cmp, is_eq}
use Rattle.std.specs.declared.cmp.Ordering.TheVariants.{Less, Equal, Greater}
use Rattle.ob_heap.specs.declared.object.Object.{Object}
use Rattle.ob_heap.specs.declared.edit.Edit.{Edit}
use Rattle.ob_heap.specs.Edits.{with_edit, IsEdited}
use Rattle.ob_heap.specs.Overlays.{changed_at, IsPut, IsEditedOver, laid_from, laid_over, with_number, Changes}

clash : (m n : ℕ) → nat_lt m n ≡ true → nat_eq m n ≡ true → ⊥
clash m n e f = grind arith

same_test : (m n : ℕ) → is_eq (nat_cmp m n) ≡ nat_eq m n
same_test m n = by (nat_lt m n) (nat_eq m n) refl refl
  where
    by : (b c : Bool) → nat_lt m n ≡ b → nat_eq m n ≡ c → is_eq (cond b Less (cond c Equal Greater)) ≡ c
    by true true e f = absurd (clash m n e f)
    by true false e f = refl
    by false true e f = refl
    by false false e f = refl

pub lookup_changed : (n : ℕ) (es : List (ℕ × Object)) → lookup (λ k. is_eq (nat_cmp n k)) es ≡ changed_at n es
lookup_changed n [] = refl
lookup_changed n (e ∷ es) = ap (λ b. cond b (Some e.1) (lookup (λ k. is_eq (nat_cmp n k)) es)) (same_test n e.0)
    ∙ ap (cond (nat_eq n e.0) (Some e.1)) (lookup_changed n es)

differs : (m n : ℕ) → m < n → nat_eq m n ≡ false
differs m n h = grind arith

differs_above : (m n : ℕ) → n < m → nat_eq m n ≡ false
differs_above m n h = grind arith

-- the same changes from a number on give the same objects
pub laid_same : (old new : List (ℕ × Object)) (n : ℕ) (os : List Object) → ((m : ℕ) → n ≤ m → changed_at m new ≡ changed_at m old)
    → laid_from new n os ≡ laid_from old n os
laid_same old new n [] h = refl
laid_same old new n (o ∷ os) h =
    ap (λ r. unwrap_or r o ∷ laid_from new (suc n) os) (h n (omega arith))
    ∙ ap (λ r. unwrap_or (changed_at n old) o ∷ r) (laid_same old new (suc n) os (λ m l. h m (omega arith)))

-- the object of a number with the changes laid over it
pub laid_get : (es : List (ℕ × Object)) (n i : ℕ) (os : List Object)
    → slice_get (laid_from es n os) i ≡ option_map (λ o. unwrap_or (changed_at (n + i) es) o) (slice_get os i)
laid_get es n i [] = refl
laid_get es n zero (o ∷ os) = let e : n ≡ n + 0 = omega arith in ap (λ m. Some (unwrap_or (changed_at m es) o)) e
laid_get es n (suc i) (o ∷ os) =
    let e : suc n + i ≡ n + suc i = omega arith in
    laid_get es (suc n) i os ∙ ap (λ m. option_map (λ x. unwrap_or (changed_at m es) x) (slice_get os i)) e

pub length-laid : (es : List (ℕ × Object)) (n : ℕ) (os : List Object) → length (laid_from es n os) ≡ length os
length-laid es n [] = refl
length-laid es n (o ∷ os) = ap suc (length-laid es (suc n) os)

-- one more change sets the object of its number
pub laid_put : (k : ℕ) (x : Object) (old new : List (ℕ × Object)) → IsPut k x old new → (n i : ℕ) (os : List Object) → n + i ≡ k
    → laid_from new n os ≡ set (laid_from old n os) i x
laid_put k x old new put n i [] e = refl
laid_put k x old new put n zero (o ∷ os) e =
    let s : k ≡ n = omega arith in
    ap (λ r. unwrap_or r o ∷ laid_from new (suc n) os) (put n ∙ ap (λ b. if b then Some x else changed_at n old) (eq-eqb k n s))
    ∙ ap (λ r. x ∷ r) (laid_same old new (suc n) os (λ m l. put m ∙ ap (λ b. if b then Some x else changed_at m old) (differs k m (omega arith))))
laid_put k x old new put n (suc i) (o ∷ os) e =
    ap (λ r. unwrap_or r o ∷ laid_from new (suc n) os) (put n ∙ ap (λ b. if b then Some x else changed_at n old) (differs_above k n (omega arith)))
    ∙ ap (λ r. unwrap_or (changed_at n old) o ∷ r) (laid_put k x old new put (suc n) i os (omega arith))

-- what a map says of its update
pub updated : (k : ℕ) (w : Option Object) (old new : List (ℕ × Object))
    → ((q : ℕ) → lookup (λ j. is_eq (nat_cmp q j)) new ≡ cond (is_eq (nat_cmp k q)) w (lookup (λ j. is_eq (nat_cmp q j)) old))
    → (m : ℕ) → changed_at m new ≡ (if nat_eq k m then w else changed_at m old)
updated k w old new h m = sym (lookup_changed m new) ∙ h m
    ∙ ap (λ b. cond b w (lookup (λ j. is_eq (nat_cmp m j)) old)) (same_test k m)
    ∙ ap (λ r. if nat_eq k m then w else r) (lookup_changed m old)

pub length_over : (base : List Object) (c : Changes) → length (laid_over base c) ≡ length base + length c.made
length_over base c = length-append (laid_from c.changed 0 base) c.made ∙ ap (λ n. n + length c.made) (length-laid c.changed 0 base)

slice_get_left : (xs ys : List Object) (n : ℕ) → n < length xs → slice_get (xs ++ ys) n ≡ slice_get xs n
slice_get_left [] ys n h = absurd (omega arith)
slice_get_left (x ∷ xs) ys zero h = refl
slice_get_left (x ∷ xs) ys (suc n) h = slice_get_left xs ys n (omega arith)

slice_get_right : (xs ys : List Object) (n : ℕ) → length xs ≤ n → slice_get (xs ++ ys) n ≡ slice_get ys (n - length xs)
slice_get_right [] ys n h = let e : n ≡ n - 0 = omega arith in ap (slice_get ys) e
slice_get_right (x ∷ xs) ys zero h = absurd (omega arith)
slice_get_right (x ∷ xs) ys (suc n) h = let e : suc n - suc (length xs) ≡ n - length xs = omega arith in slice_get_right xs ys n (omega arith) ∙ ap (slice_get ys) (sym e)

set_left : (xs ys : List Object) (n : ℕ) (o : Object) → n < length xs → set (xs ++ ys) n o ≡ set xs n o ++ ys
set_left [] ys n o h = absurd (omega arith)
set_left (x ∷ xs) ys zero o h = refl
set_left (x ∷ xs) ys (suc n) o h = ap (λ r. x ∷ r) (set_left xs ys n o (omega arith))

set_right : (xs ys : List Object) (n : ℕ) (o : Object) → length xs ≤ n → set (xs ++ ys) n o ≡ xs ++ set ys (n - length xs) o
set_right [] ys n o h = let e : n ≡ n - 0 = omega arith in ap (λ m. set ys m o) e
set_right (x ∷ xs) ys zero o h = absurd (omega arith)
set_right (x ∷ xs) ys (suc n) o h =
    let e : suc n - suc (length xs) ≡ n - length xs = omega arith in
    ap (λ r. x ∷ r) (set_right xs ys n o (omega arith)) ∙ ap (λ m. x ∷ (xs ++ set ys m o)) (sym e)

there : (xs : List Object) (n : ℕ) → n < length xs → (x : Object) × (slice_get xs n ≡ Some x)
there [] n h = absurd (omega arith)
there (x ∷ xs) zero h = (x, refl)
there (x ∷ xs) (suc n) h = there xs n (omega arith)

over_base : (base : List Object) (c : Changes) (n : ℕ) → n < length base
    → slice_get (laid_over base c) n ≡ option_map (λ o. unwrap_or (changed_at n c.changed) o) (slice_get base n)
over_base base c n h =
    let l : n < length (laid_from c.changed 0 base) = subst (λ (m : ℕ). n < m) (sym (length-laid c.changed 0 base)) h in
    slice_get_left (laid_from c.changed 0 base) c.made n l ∙ laid_get c.changed 0 n base
    ∙ ap (λ m. option_map (λ o. unwrap_or (changed_at m c.changed) o) (slice_get base n)) (zero-add n)

-- an object of the base that was changed, that wasn't, and one that was made
pub look_changed : (base : List Object) (c : Changes) (n : ℕ) (o : Object) → n < length base → changed_at n c.changed ≡ Some o
    → Some o ≡ slice_get (laid_over base c) n
look_changed base c n o h e =
    let x = there base n h in
    sym (over_base base c n h ∙ ap (option_map (λ y. unwrap_or (changed_at n c.changed) y)) x.1 ∙ ap (λ r. Some (unwrap_or r x.0)) e)

pub look_kept : (base : List Object) (c : Changes) (n : ℕ) → n < length base → changed_at n c.changed ≡ None
    → slice_get base n ≡ slice_get (laid_over base c) n
look_kept base c n h e =
    let x = there base n h in
    x.1 ∙ sym (over_base base c n h ∙ ap (option_map (λ y. unwrap_or (changed_at n c.changed) y)) x.1 ∙ ap (λ r. Some (unwrap_or r x.0)) e)

pub look_made : (base : List Object) (c : Changes) (n : ℕ) → length base ≤ n
    → slice_get c.made (n - length base) ≡ slice_get (laid_over base c) n
look_made base c n h =
    let l : length (laid_from c.changed 0 base) ≡ length base = length-laid c.changed 0 base in
    sym (slice_get_right (laid_from c.changed 0 base) c.made n (omega arith) ∙ ap (λ m. slice_get c.made (n - m)) l)

pub set_in_base : (base : List Object) (k : ℕ) (o : Object) (changed new : List (ℕ × Object)) (made : List Object) → k < length base
    → IsPut k o changed new → laid_from new 0 base ++ made ≡ set (laid_from changed 0 base ++ made) k o
set_in_base base k o changed new made h put =
    let l : k < length (laid_from changed 0 base) = subst (λ (m : ℕ). k < m) (sym (length-laid changed 0 base)) h in
    ap (λ r. r ++ made) (laid_put k o changed new put 0 k base (zero-add k)) ∙ sym (set_left (laid_from changed 0 base) made k o l)

pub set_in_made : (base : List Object) (k : ℕ) (o : Object) (changed : List (ℕ × Object)) (made : List Object) → length base ≤ k
    → laid_from changed 0 base ++ set made (k - length base) o ≡ set (laid_from changed 0 base ++ made) k o
set_in_made base k o changed made h =
    let l : length (laid_from changed 0 base) ≡ length base = length-laid changed 0 base in
    sym (set_right (laid_from changed 0 base) made k o (omega arith) ∙ ap (λ m. laid_from changed 0 base ++ set made (k - m) o) l)

-- what is done to an object of the base, and to one that was made
pub edited_in_base : {E : Type 0} (r : Result Unit E) (base : List Object) (k : ℕ) (e : Edit) (changed new : List (ℕ × Object)) (made : List Object)
    → k < length base → OnOk r (IsEditedOver base k e changed new) → OnOk r (IsEdited k e (laid_from changed 0 base ++ made) (laid_from new 0 base ++ made))
edited_in_base (Err x) base k e changed new made h edited = tt
edited_in_base (Ok u) base k e changed new made h edited = λ o at.
    let x = there base k h in
    let c : Changes = record { changed = changed; made = made; reads = []; next = false } in
    let is : unwrap_or (changed_at k changed) x.0 ≡ o =
    ap (λ r. unwrap_or r o) (sym (over_base base c k h ∙ ap (option_map (λ y. unwrap_or (changed_at k changed) y)) x.1) ∙ at) in
    set_in_base base k (with_edit e o) changed new made h (subst (λ y. IsPut k (with_edit e y) changed new) is (edited x.0 x.1))

pub edited_in_made : {E : Type 0} (r : Result Unit E) (base : List Object) (k : ℕ) (e : Edit) (changed : List (ℕ × Object)) (made new : List Object)
    → length base ≤ k → OnOk r (IsEdited (k - length base) e made new) → OnOk r (IsEdited k e (laid_from changed 0 base ++ made) (laid_from changed 0 base ++ new))
edited_in_made (Err x) base k e changed made new h edited = tt
edited_in_made (Ok u) base k e changed made new h edited = λ o at.
    let c : Changes = record { changed = changed; made = made; reads = []; next = false } in
    ap (λ r. laid_from changed 0 base ++ r) (edited o (look_made base c k h ∙ at)) ∙ set_in_made base k (with_edit e o) changed made h

-- what is done to an object that the map has, and to a copy of one that it hasn't
pub edited_there : (n : ℕ) (e : Edit) (base : List Object) (old new : List (ℕ × Object)) (x y : Object) → changed_at n old ≡ Some x → y ≡ with_edit e x
    → ((q : ℕ) → lookup (λ j. is_eq (nat_cmp q j)) new ≡ cond (is_eq (nat_cmp n q)) (Some y) (lookup (λ j. is_eq (nat_cmp q j)) old))
    → IsEditedOver base n e old new
edited_there n e base old new x y at is h = λ o b m. updated n (Some y) old new h m
    ∙ ap (λ z. if nat_eq n m then Some z else changed_at m old) (is ∙ ap (λ r. with_edit e (unwrap_or r o)) (sym at))

pub edited_there_ok : {E : Type 0} (r : Result Unit E) (n : ℕ) (e : Edit) (base : List Object) (old new : List (ℕ × Object)) (x y : Object)
    → changed_at n old ≡ Some x → OnOk r (y ≡ with_edit e x)
    → ((q : ℕ) → lookup (λ j. is_eq (nat_cmp q j)) new ≡ cond (is_eq (nat_cmp n q)) (Some y) (lookup (λ j. is_eq (nat_cmp q j)) old))
    → OnOk r (IsEditedOver base n e old new)
edited_there_ok (Err u) n e base old new x y at is h = tt
edited_there_ok (Ok u) n e base old new x y at is h = edited_there n e base old new x y at is h

pub edited_copy : {E : Type 0} (r : Result Unit E) (n : ℕ) (e : Edit) (base : List Object) (old new : List (ℕ × Object)) (x y : Object) → changed_at n old ≡ None
    → x ≡ get_or base n x → n < length base → y ≡ with_edit e x → OnOk r (IsPut n y old new) → OnOk r (IsEditedOver base n e old new)
edited_copy (Err u) n e base old new x y none is h by put = tt
edited_copy (Ok u) n e base old new x y none is h by put = λ o b m.
    let same : x ≡ o = ap (λ r. unwrap_or r o) (sym (found base n x h is) ∙ b) in
    put m ∙ ap (λ z. if nat_eq n m then Some z else changed_at m old) (by ∙ ap (with_edit e) (same ∙ ap (λ r. unwrap_or r o) (sym none)))
  where
    found : (xs : List Object) (m : ℕ) (x : Object) → m < length xs → x ≡ get_or xs m x → slice_get xs m ≡ Some x
    found [] m x l f = absurd (omega arith)
    found (y ∷ ys) zero x l f = ap Some (sym f)
    found (y ∷ ys) (suc m) x l f = found ys m x (omega arith) f

pub read_last : (r : Option ℕ) (n : ℕ) → option_eq eqb r (Some n) ≡ true → r ≡ Some n
read_last None n e = absurd cc
read_last (Some m) n e = ap Some (eqb→eq m n (subst T (sym e) tt))

or_true : (b : Bool) {c : Bool} → c ≡ true → (b || c) ≡ true
or_true true e = refl
or_true false e = e

-- an object that was read last is read once more
pub read_again : (n : ℕ) (ns : List ℕ) → slice_get ns (length ns - 1) ≡ Some n → with_number n ns ≡ ns
read_again n ns e = ap (λ b. if b then ns else ns ++ n ∷ []) (among ns e)
  where
    itself : (n : ℕ) → nat_eq n n ≡ true
    itself n = grind arith

    after : (m : ℕ) (ms : List ℕ) → length (m ∷ ms) - 1 ≡ length ms
    after m ms = omega arith

    by : (m : ℕ) (ms : List ℕ) → slice_get (m ∷ ms) (length ms) ≡ Some n → (nat_eq n m || list_any (nat_eq n) ms) ≡ true
    by m [] f = ap (λ r. nat_eq n (unwrap_or r n) || false) f ∙ ap (λ b. b || false) (itself n)
    by m (k ∷ ks) f = or_true (nat_eq n m) (by k ks f)

    among : (ns : List ℕ) → slice_get ns (length ns - 1) ≡ Some n → list_any (nat_eq n) ns ≡ true
    among [] f = absurd cc
    among (m ∷ ms) f = by m ms (sym (ap (slice_get (m ∷ ms)) (after m ms)) ∙ f)

pub ruleset over = (length_over)

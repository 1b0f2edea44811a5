-- Lists of places in order, with places more and with places less.
use Rattle.std.proofs.Common.{◌≡◌, ℕ, Bool, true, false, List, [], ◌∷◌, ◌++◌, refl, sym, ap, subst, ◌∙◌, true≢false}
use Rattle.std.specs.Prelude.{⊤, ◌||◌, ◌&&◌, not, if◌then◌else◌}
use Rattle.std.specs.Ordering.{nat_cmp, ordering_then, ordering_reverse, is_lt, is_eq}
use Rattle.std.specs.FinMap.{nat_cmp-IsAntisymmetric}
use Rattle.std.specs.Cmp.{IsTotalOrder}
use Rattle.std.proofs.lemmas.Cmp.{nat_cmp_total, on_total, then_total, tied_itself}
use Rattle.std.specs.declared.cmp.Ordering.{Ordering}
use Rattle.std.specs.declared.cmp.Ordering.TheVariants.{Less, Equal, Greater}
use Rattle.ob_heap_spec.proofs.Names.{names_total, one_name}
use Rattle.ob_rest_spec.specs.Incoming.{StorePlace, stored_field, stored_handle}
use Rattle.ob_owners.specs.Order.{place_order, with_place, without_place}
use Rattle.ob_owners.specs.Owning.{OwningPlace}
use Rattle.ob_owners.proofs.OwnersLemmas.{changes_by, placed}

-- The order of places.

fields_total : IsTotalOrder (λ (a b : ℕ × ℕ). ordering_then (nat_cmp a.0 b.0) (nat_cmp a.1 b.1))
fields_total = then_total (on_total (λ (a : ℕ × ℕ). a.0) nat_cmp_total) (on_total (λ (a : ℕ × ℕ). a.1) nat_cmp_total)

turned : (p q : StorePlace) → place_order p q ≡ ordering_reverse (place_order q p)
turned (stored_field a k) (stored_field b j) = fields_total.antisymm (a, k) (b, j)
turned (stored_field a k) (stored_handle n) = refl
turned (stored_handle m) (stored_field b j) = refl
turned (stored_handle m) (stored_handle n) = names_total.antisymm m n

onward : (p q r : StorePlace) → place_order p q ≡ Less → place_order q r ≡ Less → place_order p r ≡ Less
onward (stored_field a k) (stored_field b j) (stored_field c i) e f = fields_total.trans (a, k) (b, j) (c, i) e f
onward (stored_field a k) (stored_field b j) (stored_handle n) e f = refl
onward (stored_field a k) (stored_handle m) (stored_field c i) e f = cc
onward (stored_field a k) (stored_handle m) (stored_handle n) e f = refl
onward (stored_handle l) (stored_field b j) r e f = cc
onward (stored_handle l) (stored_handle m) (stored_field c i) e f = cc
onward (stored_handle l) (stored_handle m) (stored_handle n) e f = names_total.trans l m n e f

both_equal : (a b : Ordering) → ordering_then a b ≡ Equal → (a ≡ Equal) × (b ≡ Equal)
both_equal Less b is = absurd cc
both_equal Equal b is = (refl, is)
both_equal Greater b is = absurd cc

pub one_place : (p q : StorePlace) → place_order p q ≡ Equal → p ≡ q
one_place (stored_field a k) (stored_field b j) e =
    let parts = both_equal (nat_cmp a b) (nat_cmp k j) e in
    ap (λ n. stored_field n k) (nat_cmp-IsAntisymmetric a b parts.0) ∙ ap (stored_field b) (nat_cmp-IsAntisymmetric k j parts.1)
one_place (stored_field a k) (stored_handle n) e = cc
one_place (stored_handle m) (stored_field b j) e = cc
one_place (stored_handle m) (stored_handle n) e = ap stored_handle (one_name m n e)

pub itself : (p : StorePlace) → place_order p p ≡ Equal
itself (stored_field a k) = tied_itself fields_total (a, k)
itself (stored_handle n) = tied_itself names_total n

pub is_itself : (p : StorePlace) → is_eq (place_order p p) ≡ true
is_itself p = ap is_eq (itself p)

equal_from : (o : Ordering) → is_eq o ≡ true → o ≡ Equal
equal_from Less e = absurd (true≢false (sym e))
equal_from Equal e = refl
equal_from Greater e = absurd (true≢false (sym e))

pub same_place : (p q : StorePlace) → is_eq (place_order p q) ≡ true → p ≡ q
same_place p q e = one_place p q (equal_from (place_order p q) e)

-- Whether a list has a place, and lists in order.

abbrev pub has : StorePlace → List StorePlace → Bool
has p [] = false
has p (q ∷ qs) = is_eq (place_order p q) || has p qs

abbrev pub IsBeforeAll : StorePlace → List StorePlace → Type 0
IsBeforeAll p [] = ⊤
IsBeforeAll p (q ∷ qs) = (place_order p q ≡ Less) × IsBeforeAll p qs

abbrev pub IsOrdered : List StorePlace → Type 0
IsOrdered [] = ⊤
IsOrdered (p ∷ ps) = IsBeforeAll p ps × IsOrdered ps

before_from : (p q : StorePlace) (qs : List StorePlace) → place_order p q ≡ Less → IsBeforeAll q qs → IsBeforeAll p qs
before_from p q [] e b = tt
before_from p q (r ∷ qs) e b = (onward p q r e b.0, before_from p q qs e b.1)

pub not_has : (p : StorePlace) (qs : List StorePlace) → IsBeforeAll p qs → has p qs ≡ false
not_has p [] b = refl
not_has p (q ∷ qs) b = ap (λ o. is_eq o || has p qs) b.0 ∙ not_has p qs b.1

has_own : (p : StorePlace) (ps : List StorePlace) → has p (p ∷ ps) ≡ true
has_own p ps = ap (λ b. b || has p ps) (is_itself p)

pub has_append : (p : StorePlace) (xs ys : List StorePlace) → has p (xs ++ ys) ≡ (has p xs || has p ys)
has_append p [] ys = refl
has_append p (x ∷ xs) ys = ap (λ b. is_eq (place_order p x) || b) (has_append p xs ys) ∙ by (is_eq (place_order p x))
  where
    by : (b : Bool) → (b || (has p xs || has p ys)) ≡ ((b || has p xs) || has p ys)
    by true = refl
    by false = refl

-- the least place of a list isn't in one whose places come all after it
clash : (p q : StorePlace) (ps qs : List StorePlace) → place_order p q ≡ Less → IsBeforeAll q qs → has p (p ∷ ps) ≡ has p (q ∷ qs) → ⊥
clash p q ps qs e b h = true≢false (sym (has_own p ps) ∙ h ∙ not_has p (q ∷ qs) (e, before_from p q qs e b))

-- lists in order that have the same places are one
pub one_list : (xs ys : List StorePlace) → IsOrdered xs → IsOrdered ys → ((p : StorePlace) → has p xs ≡ has p ys) → xs ≡ ys
one_list [] [] a b h = refl
one_list [] (y ∷ ys) a b h = absurd (true≢false (sym (has_own y ys) ∙ sym (h y)))
one_list (x ∷ xs) [] a b h = absurd (true≢false (sym (has_own x xs) ∙ h x))
one_list (x ∷ xs) (y ∷ ys) a b h = by (place_order x y) refl (λ k. one_list xs ys a.1 b.1 k)
  where
    rest : x ≡ y → (p : StorePlace) → has p xs ≡ has p ys
    rest e p = at (is_eq (place_order p x)) refl
      where
        at : (c : Bool) → is_eq (place_order p x) ≡ c → has p xs ≡ has p ys
        at true is =
            let this : p ≡ x = same_place p x is in
            ap (λ q. has q xs) this ∙ not_has x xs a.0 ∙ sym (ap (λ q. has q ys) (this ∙ e) ∙ not_has y ys b.0)
        at false is =
            sym (ap (λ c. c || has p xs) is) ∙ h p ∙ ap (λ c. c || has p ys) (sym (ap (λ z. is_eq (place_order p z)) e) ∙ is)

    by : (o : Ordering) → place_order x y ≡ o → (((p : StorePlace) → has p xs ≡ has p ys) → xs ≡ ys) → x ∷ xs ≡ y ∷ ys
    by Less is later = absurd (clash x y xs ys is b.0 (h x))
    by Equal is later = let e = one_place x y is in ap (λ z. z ∷ xs) e ∙ ap (λ zs. y ∷ zs) (later (rest e))
    by Greater is later = absurd (clash y x ys xs (turned y x ∙ ap ordering_reverse is) a.0 (sym (h y)))

-- A place more.

swapped : (a b c : Bool) → (a || (b || c)) ≡ (b || (a || c))
swapped true true c = refl
swapped true false c = refl
swapped false b c = refl

has_with : (q p : StorePlace) (xs : List StorePlace) → has q (with_place p xs) ≡ (is_eq (place_order q p) || has q xs)
has_with q p [] = refl
has_with q p (y ∷ ys) = by (is_lt (place_order p y)) (has_with q p ys)
  where
    by : (b : Bool) → has q (with_place p ys) ≡ (is_eq (place_order q p) || has q ys)
        → has q (if b then p ∷ y ∷ ys else y ∷ with_place p ys) ≡ (is_eq (place_order q p) || (is_eq (place_order q y) || has q ys))
    by true rest = refl
    by false rest = ap (λ c. is_eq (place_order q y) || c) rest ∙ swapped (is_eq (place_order q y)) (is_eq (place_order q p)) (has q ys)

before_with : (y p : StorePlace) (ys : List StorePlace) → place_order y p ≡ Less → IsBeforeAll y ys → IsBeforeAll y (with_place p ys)
before_with y p [] e b = (e, tt)
before_with y p (z ∷ zs) e b = by (is_lt (place_order p z)) (before_with y p zs e b.1)
  where
    by : (c : Bool) → IsBeforeAll y (with_place p zs) → IsBeforeAll y (if c then p ∷ z ∷ zs else z ∷ with_place p zs)
    by true rest = (e, b)
    by false rest = (b.0, rest)

ordered_with : (p : StorePlace) (xs : List StorePlace) → IsOrdered xs → has p xs ≡ false → IsOrdered (with_place p xs)
ordered_with p [] o h = (tt, tt)
ordered_with p (y ∷ ys) o h = by (place_order p y) refl (λ k. ordered_with p ys o.1 k)
  where
    later : (b : Bool) → (b || has p ys) ≡ false → has p ys ≡ false
    later true e = absurd (true≢false e)
    later false e = e

    by : (r : Ordering) → place_order p y ≡ r → (has p ys ≡ false → IsOrdered (with_place p ys)) → IsOrdered (if is_lt (place_order p y) then p ∷ y ∷ ys else y ∷ with_place p ys)
    by Less is rest = subst (λ r. IsOrdered (if is_lt r then p ∷ y ∷ ys else y ∷ with_place p ys)) (sym is) ((is, before_from p y ys is o.0), o)
    by Equal is rest = absurd (true≢false (sym (ap (λ r. is_eq r || has p ys) is) ∙ h))
    by Greater is rest =
        subst (λ r. IsOrdered (if is_lt r then p ∷ y ∷ ys else y ∷ with_place p ys)) (sym is)
        (before_with y p ys (turned y p ∙ ap ordering_reverse is) o.0, rest (later (is_eq (place_order p y)) h))

either : (a b c : Bool) → (a || (b || c)) ≡ ((a || b) || c)
either true b c = refl
either false b c = refl

pub has_puts : (q : StorePlace) (ps : List OwningPlace) (xs : List StorePlace) → has q (changes_by with_place ps xs) ≡ (has q (placed ps) || has q xs)
has_puts q [] xs = refl
has_puts q (p ∷ ps) xs =
    has_with q p.place (changes_by with_place ps xs) ∙ ap (λ b. is_eq (place_order q p.place) || b) (has_puts q ps xs)
    ∙ either (is_eq (place_order q p.place)) (has q (placed ps)) (has q xs)

pub ordered_puts : (ps : List OwningPlace) (xs : List StorePlace) → IsOrdered (placed ps) → IsOrdered xs → ((q : StorePlace) → has q (placed ps) ≡ true → has q xs ≡ false)
    → IsOrdered (changes_by with_place ps xs)
ordered_puts [] xs a b apart = b
ordered_puts (p ∷ ps) xs a b apart =
    ordered_with p.place (changes_by with_place ps xs) (ordered_puts ps xs a.1 b (λ q h. apart q (later (is_eq (place_order q p.place)) (has q (placed ps)) h)))
    (has_puts p.place ps xs ∙ ap (λ c. c || has p.place xs) (not_has p.place (placed ps) a.0) ∙ apart p.place (has_own p.place (placed ps)))
  where
    later : (c d : Bool) → d ≡ true → (c || d) ≡ true
    later true d h = refl
    later false d h = h

-- A place less.

before_without : (y p : StorePlace) (ys : List StorePlace) → IsBeforeAll y ys → IsBeforeAll y (without_place p ys)
before_without y p [] b = tt
before_without y p (z ∷ zs) b = by (is_eq (place_order p z)) (before_without y p zs b.1)
  where
    by : (c : Bool) → IsBeforeAll y (without_place p zs) → IsBeforeAll y (if c then zs else z ∷ without_place p zs)
    by true rest = b.1
    by false rest = (b.0, rest)

ordered_without : (p : StorePlace) (xs : List StorePlace) → IsOrdered xs → IsOrdered (without_place p xs)
ordered_without p [] o = tt
ordered_without p (y ∷ ys) o = by (is_eq (place_order p y)) (ordered_without p ys o.1)
  where
    by : (c : Bool) → IsOrdered (without_place p ys) → IsOrdered (if c then ys else y ∷ without_place p ys)
    by true rest = o.1
    by false rest = (before_without y p ys o.0, rest)

has_without : (q p : StorePlace) (xs : List StorePlace) → IsOrdered xs → has q (without_place p xs) ≡ (not (is_eq (place_order q p)) && has q xs)
has_without q p [] o = by (is_eq (place_order q p))
  where
    by : (b : Bool) → false ≡ (not b && false)
    by true = refl
    by false = refl
has_without q p (y ∷ ys) o = by (is_eq (place_order p y)) refl (has_without q p ys o.1)
  where
    gone : p ≡ y → (b : Bool) → is_eq (place_order q y) ≡ b → has q ys ≡ (not b && (b || has q ys))
    gone e true is = ap (λ z. has z ys) (same_place q y is) ∙ not_has y ys o.0
    gone e false is = refl

    kept : is_eq (place_order p y) ≡ false → (b c : Bool) → is_eq (place_order q y) ≡ b → is_eq (place_order q p) ≡ c → (b || (not c && has q ys)) ≡ (not c && (b || has q ys))
    kept ne true true is it = absurd (true≢false (sym (ap (λ z. is_eq (place_order z y)) (sym (same_place q p it)) ∙ is) ∙ ne))
    kept ne true false is it = refl
    kept ne false c is it = refl

    by : (c : Bool) → is_eq (place_order p y) ≡ c → has q (without_place p ys) ≡ (not (is_eq (place_order q p)) && has q ys)
        → has q (if c then ys else y ∷ without_place p ys) ≡ (not (is_eq (place_order q p)) && (is_eq (place_order q y) || has q ys))
    by true is rest =
        let e = same_place p y is in
        gone e (is_eq (place_order q y)) refl
        ∙ ap (λ z. not (is_eq (place_order q z)) && (is_eq (place_order q y) || has q ys)) (sym e)
    by false is rest =
        ap (λ b. is_eq (place_order q y) || b) rest ∙ kept is (is_eq (place_order q y)) (is_eq (place_order q p)) refl refl

pub ordered_takes : (ps : List OwningPlace) (xs : List StorePlace) → IsOrdered xs → IsOrdered (changes_by without_place ps xs)
ordered_takes [] xs o = o
ordered_takes (p ∷ ps) xs o = ordered_without p.place (changes_by without_place ps xs) (ordered_takes ps xs o)

pub has_takes : (q : StorePlace) (ps : List OwningPlace) (xs : List StorePlace) → IsOrdered xs → has q (changes_by without_place ps xs) ≡ (not (has q (placed ps)) && has q xs)
has_takes q [] xs o = refl
has_takes q (p ∷ ps) xs o =
    has_without q p.place (changes_by without_place ps xs) (ordered_takes ps xs o)
    ∙ ap (λ b. not (is_eq (place_order q p.place)) && b) (has_takes q ps xs o)
    ∙ by (is_eq (place_order q p.place)) (has q (placed ps))
  where
    by : (b c : Bool) → (not b && (not c && has q xs)) ≡ (not (b || c) && has q xs)
    by true c = refl
    by false c = refl

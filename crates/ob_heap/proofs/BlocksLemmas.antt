-- Handles in blocks.
use Rattle.std.proofs.Common.{◌≡◌, ℕ, zero, suc, ◌+◌, ◌-◌, ◌<◌, ◌≤◌, Bool, true, false, cond, List, [], ◌∷◌, ◌++◌, length, None, Some, refl, sym, ap, ◌∙◌, true≢false, arith, get_or, set, take, drop, subst}
use Rattle.std.specs.Prelude.{⊤, nat_eq, not, is_some, if◌then◌else◌}
use Rattle.std.specs.List.{insert, remove}
use Rattle.std.proofs.lemmas.Bool.{eqb-true}
use Rattle.std.proofs.lemmas.List.{append_assoc}
use Rattle.std.proofs.lemmas.List.Elements.{filter-append}
use Rattle.std.specs.Ordering.{is_eq, is_gt, eq_by_cmp, ordering_reverse}
use Rattle.std.specs.FinMap.Entries.{by_order}
use Rattle.std.specs.declared.cmp.Ordering.{Ordering}
use Rattle.std.specs.declared.cmp.Ordering.TheVariants.{Less, Equal, Greater}
use Rattle.ob_base.specs.declared.name.Label.{Label}
use Rattle.ob_heap.specs.declared.object.Handle.{Handle}
use Rattle.ob_heap.specs.Blocks.{joined, block_place, start_after, starts_after, AreFilled}
use Rattle.ob_heap.specs.Contents.{name_of, handle_at, IsInOrder, IsBeforeAll}
use Rattle.ob_heap.specs.Deltas.{label_order, with_handle, without_handle}
use Rattle.ob_heap.proofs.HandlesLemmas.{names_total}
use Rattle.ob_heap.proofs.DeltasLemmas.{Held, turned, before_from, before_same, kept_all}

-- Parts of a list in order.

order_right : (xs ys : List Held) → IsInOrder (xs ++ ys) → IsInOrder ys
order_right [] ys o = o
order_right (x ∷ xs) ys o = order_right xs ys o.1

before_left : (n : Label × Label) (xs ys : List Held) → IsBeforeAll n (xs ++ ys) → IsBeforeAll n xs
before_left n [] ys b = tt
before_left n (x ∷ xs) ys b = (b.0, before_left n xs ys b.1)

before_right : (n : Label × Label) (xs ys : List Held) → IsBeforeAll n (xs ++ ys) → IsBeforeAll n ys
before_right n [] ys b = b
before_right n (x ∷ xs) ys b = before_right n xs ys b.1

order_left : (xs ys : List Held) → IsInOrder (xs ++ ys) → IsInOrder xs
order_left [] ys o = tt
order_left (x ∷ xs) ys o = (before_left x.0 xs ys o.0, order_left xs ys o.1)

-- all of these names come before one
abbrev pub AreBefore : Label × Label → List Held → Type 0
AreBefore n [] = ⊤
AreBefore n (h ∷ hs) = (label_order n h.0 ≡ Greater) × AreBefore n hs

are_before-append : (n : Label × Label) (xs ys : List Held) → AreBefore n xs → AreBefore n ys → AreBefore n (xs ++ ys)
are_before-append n [] ys a b = b
are_before-append n (x ∷ xs) ys a b = (a.0, are_before-append n xs ys a.1 b)

greater_is : (o : Ordering) → is_gt o ≡ true → o ≡ Greater
greater_is Less h = absurd (true≢false (sym h))
greater_is Equal h = absurd (true≢false (sym h))
greater_is Greater h = refl

-- the names before one that doesn't come after this
up_to : (n : Label × Label) (xs : List Held) (y : Held) (ys : List Held) → IsInOrder (xs ++ y ∷ ys) → is_gt (label_order y.0 n) ≡ false → AreBefore n xs
up_to n [] y ys o s = tt
up_to n (x ∷ xs) y ys o s = (by (label_order y.0 n) refl s, up_to n xs y ys o.1 s)
  where
    less : label_order x.0 y.0 ≡ Less
    less = (before_right x.0 xs (y ∷ ys) o.0).0

    by : (q : Ordering) → label_order y.0 n ≡ q → is_gt q ≡ false → label_order n x.0 ≡ Greater
    by Less is s = turned n x.0 ∙ ap ordering_reverse (names_total.trans (name_of x.0) (name_of y.0) (name_of n) less is)
    by Equal is s = sym (names_total.congr (name_of y.0) (name_of n) (name_of x.0) is) ∙ turned y.0 x.0 ∙ ap ordering_reverse less
    by Greater is s = absurd (true≢false s)

from_on : (n : Label × Label) (y : Held) (ys : List Held) → IsInOrder (y ∷ ys) → is_gt (label_order y.0 n) ≡ true → IsBeforeAll n (y ∷ ys)
from_on n y ys o s =
    let less : label_order n y.0 ≡ Less = turned n y.0 ∙ ap ordering_reverse (greater_is _ s) in
    (less, before_from n y.0 ys less o.0)

-- What is done to two lists that are joined is done to the one that the name belongs into.

with_first : (n : Label × Label) (h : Handle) (xs ys : List Held) → IsBeforeAll n ys → with_handle n h (xs ++ ys) ≡ with_handle n h xs ++ ys
with_first n h [] [] b = refl
with_first n h [] (y ∷ ys) b = ap (λ q. by_order q ((n, h) ∷ y ∷ ys) ((y.0, h) ∷ ys) (y ∷ with_handle n h ys)) b.0
with_first n h (x ∷ xs) ys b = by (label_order n x.0) (with_first n h xs ys b)
  where
    by : (q : Ordering) → with_handle n h (xs ++ ys) ≡ with_handle n h xs ++ ys
        → by_order q ((n, h) ∷ x ∷ (xs ++ ys)) ((x.0, h) ∷ (xs ++ ys)) (x ∷ with_handle n h (xs ++ ys))
        ≡ by_order q ((n, h) ∷ x ∷ xs) ((x.0, h) ∷ xs) (x ∷ with_handle n h xs) ++ ys
    by Less rest = refl
    by Equal rest = refl
    by Greater rest = ap (λ r. x ∷ r) rest

with_second : (n : Label × Label) (h : Handle) (xs ys : List Held) → AreBefore n xs → with_handle n h (xs ++ ys) ≡ xs ++ with_handle n h ys
with_second n h [] ys b = refl
with_second n h (x ∷ xs) ys b =
    ap (λ q. by_order q ((n, h) ∷ x ∷ (xs ++ ys)) ((x.0, h) ∷ (xs ++ ys)) (x ∷ with_handle n h (xs ++ ys))) b.0
    ∙ ap (λ r. x ∷ r) (with_second n h xs ys b.1)

kept_before : (n : Label × Label) (hs : List Held) → AreBefore n hs → without_handle n hs ≡ hs
kept_before n [] b = refl
kept_before n (y ∷ hs) b =
    ap (λ o. cond (not (is_eq o)) (y ∷ without_handle n hs) (without_handle n hs)) b.0 ∙ ap (λ r. y ∷ r) (kept_before n hs b.1)

without-append : (n : Label × Label) (xs ys : List Held) → without_handle n (xs ++ ys) ≡ without_handle n xs ++ without_handle n ys
without-append n xs ys = filter-append (λ e. not (eq_by_cmp label_order n e.0)) xs ys

none_before : (n : Label × Label) (hs : List Held) → IsBeforeAll n hs → handle_at (name_of n) hs ≡ None
none_before n [] b = refl
none_before n (y ∷ hs) b =
    ap (λ q. if is_eq q then Some y.1 else handle_at (name_of n) hs) (turned y.0 n ∙ ap ordering_reverse b.0) ∙ none_before n hs b.1

at_first : (n : Label × Label) (xs ys : List Held) → IsBeforeAll n ys → handle_at (name_of n) (xs ++ ys) ≡ handle_at (name_of n) xs
at_first n [] ys b = none_before n ys b
at_first n (x ∷ xs) ys b = ap (λ r. if is_eq (label_order x.0 n) then Some x.1 else r) (at_first n xs ys b)

at_second : (n : Label × Label) (xs ys : List Held) → AreBefore n xs → handle_at (name_of n) (xs ++ ys) ≡ handle_at (name_of n) ys
at_second n [] ys b = refl
at_second n (x ∷ xs) ys b =
    ap (λ q. if is_eq q then Some x.1 else handle_at (name_of n) (xs ++ ys)) (turned x.0 n ∙ ap ordering_reverse b.0) ∙ at_second n xs ys b.1

-- The blocks before the one of a name, and those behind it.

up_to_blocks : (n : Label × Label) (b : List Held) (bs : List (List Held)) → IsInOrder (b ++ joined bs) → AreFilled bs → start_after (name_of n) bs ≡ false → AreBefore n b
up_to_blocks n b [] o f e = absurd (true≢false e)
up_to_blocks n b ([] ∷ cs) o f e = let none = f.0 in absurd (omega arith)
up_to_blocks n b ((y ∷ ys) ∷ cs) o f e = up_to n b y (ys ++ joined cs) o e

from_blocks : (n : Label × Label) (bs : List (List Held)) → IsInOrder (joined bs) → AreFilled bs → start_after (name_of n) bs ≡ true → IsBeforeAll n (joined bs)
from_blocks n [] o f e = tt
from_blocks n ([] ∷ cs) o f e = let none = f.0 in absurd (omega arith)
from_blocks n ((y ∷ ys) ∷ cs) o f e = from_on n y (ys ++ joined cs) o e

before_blocks : (n : Label × Label) (bs : List (List Held)) → IsInOrder (joined bs) → AreFilled bs → AreBefore n (joined (take (block_place (name_of n) bs) bs))
before_blocks n [] o f = tt
before_blocks n (b ∷ bs) o f = by (start_after (name_of n) bs) refl (before_blocks n bs (order_right b (joined bs) o) f.1)
  where
    by : (s : Bool) → start_after (name_of n) bs ≡ s → AreBefore n (joined (take (block_place (name_of n) bs) bs))
        → AreBefore n (joined (take (if s then 0 else suc (block_place (name_of n) bs)) (b ∷ bs)))
    by true e rest = tt
    by false e rest = are_before-append n b (joined (take (block_place (name_of n) bs) bs)) (up_to_blocks n b bs o f.1 e) rest

after_blocks : (n : Label × Label) (bs : List (List Held)) → IsInOrder (joined bs) → AreFilled bs → IsBeforeAll n (joined (drop (suc (block_place (name_of n) bs)) bs))
after_blocks n [] o f = tt
after_blocks n (b ∷ bs) o f = by (start_after (name_of n) bs) refl (after_blocks n bs (order_right b (joined bs) o) f.1)
  where
    by : (s : Bool) → start_after (name_of n) bs ≡ s → IsBeforeAll n (joined (drop (suc (block_place (name_of n) bs)) bs))
        → IsBeforeAll n (joined (drop (suc (if s then 0 else suc (block_place (name_of n) bs))) (b ∷ bs)))
    by true e rest = from_blocks n bs (order_right b (joined bs) o) f.1 e
    by false e rest = rest

set_joined : (bs : List (List Held)) (p : ℕ) (b : List Held) → p < length bs → joined (set bs p b) ≡ joined (take p bs) ++ (b ++ joined (drop (suc p) bs))
set_joined [] p b h = absurd (omega arith)
set_joined (c ∷ bs) zero b h = refl
set_joined (c ∷ bs) (suc p) b h = ap (λ r. c ++ r) (set_joined bs p b (omega arith)) ∙ sym (append_assoc c (joined (take p bs)) (b ++ joined (drop (suc p) bs)))

split_joined : (bs : List (List Held)) (p : ℕ) (b : List Held) → p < length bs → b ≡ get_or bs p b → joined bs ≡ joined (take p bs) ++ (b ++ joined (drop (suc p) bs))
split_joined [] p b h g = absurd (omega arith)
split_joined (c ∷ bs) zero b h g = ap (λ r. r ++ joined bs) (sym g)
split_joined (c ∷ bs) (suc p) b h g = ap (λ r. c ++ r) (split_joined bs p b (omega arith) g) ∙ sym (append_assoc c (joined (take p bs)) (b ++ joined (drop (suc p) bs)))

-- What is done to the block of a name is done to all handles.

-- a block at a place is the one of a name
pub record IsBlockOf (n : Label × Label) (bs : List (List Held)) (p : ℕ) (b : List Held) : Type 0 where
  pub order : IsInOrder (joined bs)
  pub filled : AreFilled bs
  pub place : p ≡ block_place (name_of n) bs
  pub within : p < length bs
  pub block : b ≡ get_or bs p b

before_at : (n : Label × Label) (bs : List (List Held)) (p : ℕ) (b : List Held) → IsBlockOf n bs p b → AreBefore n (joined (take p bs))
before_at n bs p b i = subst (λ q. AreBefore n (joined (take q bs))) (sym i.place) (before_blocks n bs i.order i.filled)

after_at : (n : Label × Label) (bs : List (List Held)) (p : ℕ) (b : List Held) → IsBlockOf n bs p b → IsBeforeAll n (joined (drop (suc p) bs))
after_at n bs p b i = subst (λ q. IsBeforeAll n (joined (drop (suc q) bs))) (sym i.place) (after_blocks n bs i.order i.filled)

pub order_at : (n : Label × Label) (bs : List (List Held)) (p : ℕ) (b : List Held) → IsBlockOf n bs p b → IsInOrder b
order_at n bs p b i =
    let pre = joined (take p bs) in
    let post = joined (drop (suc p) bs) in
    order_left b post (order_right pre (b ++ post) (subst IsInOrder (split_joined bs p b i.within i.block) i.order))

pub find_at : (n : Label × Label) (bs : List (List Held)) (p : ℕ) (b : List Held) → IsBlockOf n bs p b → handle_at (name_of n) b ≡ handle_at (name_of n) (joined bs)
find_at n bs p b i =
    let pre = joined (take p bs) in
    let post = joined (drop (suc p) bs) in
    sym (ap (handle_at (name_of n)) (split_joined bs p b i.within i.block) ∙ at_second n pre (b ++ post) (before_at n bs p b i)
    ∙ at_first n b post (after_at n bs p b i))

pub put_at : (n : Label × Label) (h : Handle) (bs : List (List Held)) (p : ℕ) (b : List Held) → IsBlockOf n bs p b
    → joined (set bs p (with_handle n h b)) ≡ with_handle n h (joined bs)
put_at n h bs p b i =
    let pre = joined (take p bs) in
    let post = joined (drop (suc p) bs) in
    set_joined bs p (with_handle n h b) i.within
    ∙ sym (ap (with_handle n h) (split_joined bs p b i.within i.block) ∙ with_second n h pre (b ++ post) (before_at n bs p b i)
    ∙ ap (λ r. pre ++ r) (with_first n h b post (after_at n bs p b i)))

pub remove_at : (n : Label × Label) (bs : List (List Held)) (p : ℕ) (b : List Held) → IsBlockOf n bs p b
    → joined (set bs p (without_handle n b)) ≡ without_handle n (joined bs)
remove_at n bs p b i =
    let pre = joined (take p bs) in
    let post = joined (drop (suc p) bs) in
    set_joined bs p (without_handle n b) i.within
    ∙ sym (ap (without_handle n) (split_joined bs p b i.within i.block) ∙ without-append n pre (b ++ post)
    ∙ ap (λ r. r ++ without_handle n (b ++ post)) (kept_before n pre (before_at n bs p b i))
    ∙ ap (λ r. pre ++ r) (without-append n b post ∙ ap (λ r. without_handle n b ++ r) (kept_all n post (after_at n bs p b i))))

-- a block in two
pub insert_joined : (bs : List (List Held)) (p : ℕ) (x y : List Held) → p < length bs → joined (insert (set bs p x) (suc p) y) ≡ joined (set bs p (x ++ y))
insert_joined [] p x y h = absurd (omega arith)
insert_joined (b ∷ bs) zero x y h = sym (append_assoc x y (joined bs))
insert_joined (b ∷ bs) (suc p) x y h = ap (λ r. b ++ r) (insert_joined bs p x y (omega arith))

-- one without a handle goes
pub remove_joined : (bs : List (List Held)) (p : ℕ) (x : List Held) → x ≡ [] → p < length bs → joined (remove (set bs p x) p) ≡ joined (set bs p x)
remove_joined [] p x e h = absurd (omega arith)
remove_joined (b ∷ bs) zero x e h = sym (ap (λ r. r ++ joined bs) e)
remove_joined (b ∷ bs) (suc p) x e h = ap (λ r. b ++ r) (remove_joined bs p x e (omega arith))

pub filled_set : (bs : List (List Held)) (p : ℕ) (b : List Held) → AreFilled bs → 0 < length b → AreFilled (set bs p b)
filled_set [] p b f h = tt
filled_set (c ∷ bs) zero b f h = (h, f.1)
filled_set (c ∷ bs) (suc p) b f h = (f.0, filled_set bs p b f.1 h)

pub filled_insert : (bs : List (List Held)) (p : ℕ) (b : List Held) → AreFilled bs → 0 < length b → AreFilled (insert bs p b)
filled_insert bs zero b f h = (h, f)
filled_insert [] (suc p) b f h = (h, tt)
filled_insert (c ∷ bs) (suc p) b f h = (f.0, filled_insert bs p b f.1 h)

pub filled_remove : (bs : List (List Held)) (p : ℕ) (x : List Held) → AreFilled bs → AreFilled (remove (set bs p x) p)
filled_remove [] zero x f = tt
filled_remove [] (suc p) x f = tt
filled_remove (c ∷ bs) zero x f = f.1
filled_remove (c ∷ bs) (suc p) x f = (f.0, filled_remove bs p x f.1)

pub put_filled : (n : Label × Label) (h : Handle) (hs : List Held) → 0 < length (with_handle n h hs)
put_filled n h [] = omega arith
put_filled n h (y ∷ hs) =
    elim (label_order n y.0) as (λ q. 0 < length (by_order q ((n, h) ∷ y ∷ hs) ((y.0, h) ∷ hs) (y ∷ with_handle n h hs))) [
      | Less ↦ omega arith
      | Equal ↦ omega arith
      | Greater ↦ omega arith
    ]

pub none_of : (b : List Held) → nat_eq (length b) 0 ≡ true → b ≡ []
none_of [] h = refl
none_of (x ∷ b) h = let e = eqb-true (length (x ∷ b)) 0 h in absurd (omega arith)

pub some_of : (b : List Held) → nat_eq (length b) 0 ≡ false → 0 < length b
some_of [] h = absurd (true≢false h)
some_of (x ∷ b) h = omega arith

-- The halves of a block.

pub put_upper : (n : Label × Label) (h : Handle) (xs ys all : List Held) → xs ++ ys ≡ all → IsInOrder all → 0 < length ys → starts_after (name_of n) ys ≡ false
    → xs ++ with_handle n h ys ≡ with_handle n h all
put_upper n h xs [] all e o f s = absurd (omega arith)
put_upper n h xs (y ∷ ys) all e o f s =
    let b = up_to n xs y ys (subst IsInOrder (sym e) o) s in
    sym (with_second n h xs (y ∷ ys) b) ∙ ap (with_handle n h) e

pub put_lower : (n : Label × Label) (h : Handle) (xs ys all : List Held) → xs ++ ys ≡ all → IsInOrder all → starts_after (name_of n) ys ≡ true
    → with_handle n h xs ++ ys ≡ with_handle n h all
put_lower n h xs [] all e o s = absurd (true≢false (sym s))
put_lower n h xs (y ∷ ys) all e o s =
    let b = from_on n y ys (order_right xs (y ∷ ys) (subst IsInOrder (sym e) o)) s in
    sym (with_first n h xs (y ∷ ys) b) ∙ ap (with_handle n h) e

pub lower_order : (xs ys all : List Held) → xs ++ ys ≡ all → IsInOrder all → IsInOrder xs
lower_order xs ys all e o = order_left xs ys (subst IsInOrder (sym e) o)

pub upper_order : (xs ys all : List Held) → xs ++ ys ≡ all → IsInOrder all → IsInOrder ys
upper_order xs ys all e o = order_right xs ys (subst IsInOrder (sym e) o)

-- The search for the block of a name.

-- blocks behind those whose names come after one
later_start : (m n : Label × Label) (bs : List (List Held)) (i : ℕ) (x : List Held) → IsBeforeAll m (joined bs) → AreFilled bs → i < length bs → x ≡ get_or bs i x
    → starts_after (name_of n) x ≡ false → is_gt (label_order m n) ≡ false
later_start m n [] i x b f h e s = absurd (omega arith)
later_start m n ([] ∷ bs) i x b f h e s = let none = f.0 in absurd (omega arith)
later_start m n ((y ∷ ys) ∷ bs) zero x b f h e s = by (label_order y.0 n) refl (sym (ap (starts_after (name_of n)) e) ∙ s)
  where
    by : (q : Ordering) → label_order y.0 n ≡ q → is_gt q ≡ false → is_gt (label_order m n) ≡ false
    by Less is s = ap is_gt (names_total.trans (name_of m) (name_of y.0) (name_of n) b.0 is)
    by Equal is s = ap is_gt (turned m n ∙ ap ordering_reverse (sym (names_total.congr (name_of y.0) (name_of n) (name_of m) is) ∙ turned y.0 m ∙ ap ordering_reverse b.0))
    by Greater is s = absurd (true≢false s)
later_start m n ((y ∷ ys) ∷ bs) (suc i) x b f h e s = later_start m n bs i x (before_right m (y ∷ ys) (joined bs) b) f.1 (omega arith) e s

-- no block starts after a name before one that doesn't
start_before : (n : Label × Label) (bs : List (List Held)) (i : ℕ) (x : List Held) → IsInOrder (joined bs) → AreFilled bs → i < length bs → x ≡ get_or bs i x
    → starts_after (name_of n) x ≡ false → start_after (name_of n) bs ≡ false
start_before n [] i x o f h e s = absurd (omega arith)
start_before n (b ∷ bs) zero x o f h e s = sym (ap (starts_after (name_of n)) e) ∙ s
start_before n ([] ∷ bs) (suc i) x o f h e s = let none = f.0 in absurd (omega arith)
start_before n ((y ∷ ys) ∷ bs) (suc i) x o f h e s = later_start y.0 n bs i x (before_right y.0 ys (joined bs) o.0) f.1 (omega arith) e s

-- the place of the block of a name isn't before that of one that doesn't start after it
pub before_place : (n : Label × Label) (bs : List (List Held)) (i : ℕ) (x : List Held) → IsInOrder (joined bs) → AreFilled bs → i < length bs → x ≡ get_or bs i x
    → starts_after (name_of n) x ≡ false → i ≤ block_place (name_of n) bs
before_place n [] i x o f h e s = absurd (omega arith)
before_place n (b ∷ bs) zero x o f h e s = omega arith
before_place n (b ∷ bs) (suc i) x o f h e s =
    let rest = before_place n bs i x (order_right b (joined bs) o) f.1 (omega arith) e s in
    let c = start_before n bs i x (order_right b (joined bs) o) f.1 (omega arith) e s in
    subst (λ (d : Bool). suc i ≤ (if d then 0 else suc (block_place (name_of n) bs))) (sym c) (omega arith)

-- and it is before that of one that does, behind the first
pub after_place : (n : Label × Label) (bs : List (List Held)) (i : ℕ) (x : List Held) → 0 < i → i < length bs → x ≡ get_or bs i x
    → starts_after (name_of n) x ≡ true → block_place (name_of n) bs ≤ i - 1
after_place n bs zero x p h e s = absurd (omega arith)
after_place n [] (suc i) x p h e s = absurd (omega arith)
after_place n (b ∷ []) (suc i) x p h e s = absurd (omega arith)
after_place n (b ∷ c ∷ bs) (suc zero) x p h e s =
    let t : starts_after (name_of n) c ≡ true = sym (ap (starts_after (name_of n)) e) ∙ s in
    let l : block_place (name_of n) (b ∷ c ∷ bs) ≤ 0 =
    subst (λ (d : Bool). (if d then 0 else suc (block_place (name_of n) (c ∷ bs))) ≤ 0) (sym t) (omega arith) in
    omega arith
after_place n (b ∷ c ∷ bs) (suc (suc i)) x p h e s =
    let rest = after_place n (c ∷ bs) (suc i) x (omega arith) (omega arith) e s in
    let l : (if starts_after (name_of n) c then 0 else suc (block_place (name_of n) (c ∷ bs))) ≤ suc i =
    elim (starts_after (name_of n) c) as (λ d. (if d then 0 else suc (block_place (name_of n) (c ∷ bs))) ≤ suc i) [ true ↦ omega arith | false ↦ omega arith ] in
    let m : block_place (name_of n) (b ∷ c ∷ bs) ≤ suc i = l in
    omega arith

pub block_place-le : (n : Label × Label) (bs : List (List Held)) → block_place (name_of n) bs ≤ length bs - 1
block_place-le n [] = omega arith
block_place-le n (b ∷ []) = omega arith
block_place-le n (b ∷ c ∷ bs) =
    let rest = block_place-le n (c ∷ bs) in
    let l : (if starts_after (name_of n) c then 0 else suc (block_place (name_of n) (c ∷ bs))) ≤ suc (length bs) =
    elim (starts_after (name_of n) c) as (λ d. (if d then 0 else suc (block_place (name_of n) (c ∷ bs))) ≤ suc (length bs)) [ true ↦ omega arith | false ↦ omega arith ] in
    let m : block_place (name_of n) (b ∷ c ∷ bs) ≤ suc (length bs) = l in
    omega arith

-- where there is no block of a name there is none
pub no_blocks : (n : Label × Label) (bs : List (List Held)) → length bs ≤ block_place (name_of n) bs → bs ≡ []
no_blocks n [] h = refl
no_blocks n (b ∷ bs) h = let l = block_place-le n (b ∷ bs) in absurd (omega arith)

-- How many handles there are.

pub more_by : (n : Label × Label) (h : Handle) (hs : List Held) → is_some (handle_at (name_of n) hs) ≡ false → length (with_handle n h hs) ≡ suc (length hs)
more_by n h [] e = refl
more_by n h (y ∷ hs) e = ap (λ q. length (by_order q ((n, h) ∷ y ∷ hs) ((y.0, h) ∷ hs) (y ∷ with_handle n h hs))) (turned n y.0)
    ∙ by (label_order y.0 n) (more_by n h hs) e
  where
    by : (q : Ordering) → (is_some (handle_at (name_of n) hs) ≡ false → length (with_handle n h hs) ≡ suc (length hs))
        → is_some (if is_eq q then Some y.1 else handle_at (name_of n) hs) ≡ false
        → length (by_order (ordering_reverse q) ((n, h) ∷ y ∷ hs) ((y.0, h) ∷ hs) (y ∷ with_handle n h hs)) ≡ suc (suc (length hs))
    by Less rest e = ap suc (rest e)
    by Equal rest e = absurd (true≢false e)
    by Greater rest e = refl

pub same_by : (n : Label × Label) (h : Handle) (hs : List Held) → IsInOrder hs → is_some (handle_at (name_of n) hs) ≡ true → length (with_handle n h hs) ≡ length hs
same_by n h [] o e = absurd (true≢false (sym e))
same_by n h (y ∷ hs) o e = ap (λ q. length (by_order q ((n, h) ∷ y ∷ hs) ((y.0, h) ∷ hs) (y ∷ with_handle n h hs))) (turned n y.0)
    ∙ by (label_order y.0 n) refl (same_by n h hs o.1) e
  where
    by : (q : Ordering) → label_order y.0 n ≡ q → (is_some (handle_at (name_of n) hs) ≡ true → length (with_handle n h hs) ≡ length hs)
        → is_some (if is_eq q then Some y.1 else handle_at (name_of n) hs) ≡ true
        → length (by_order (ordering_reverse q) ((n, h) ∷ y ∷ hs) ((y.0, h) ∷ hs) (y ∷ with_handle n h hs)) ≡ suc (length hs)
    by Less is rest e = ap suc (rest e)
    by Equal is rest e = refl
    by Greater is rest e = absurd (true≢false (sym e ∙ ap is_some (none_before n hs (before_from n y.0 hs (turned n y.0 ∙ ap ordering_reverse is) o.0))))

pub less_by : (n : Label × Label) (hs : List Held) → IsInOrder hs → is_some (handle_at (name_of n) hs) ≡ true → suc (length (without_handle n hs)) ≡ length hs
less_by n [] o e = absurd (true≢false (sym e))
less_by n (y ∷ hs) o e = ap (λ q. suc (length (cond (not (is_eq q)) (y ∷ without_handle n hs) (without_handle n hs)))) (turned n y.0)
    ∙ by (label_order y.0 n) refl (less_by n hs o.1) e
  where
    by : (q : Ordering) → label_order y.0 n ≡ q → (is_some (handle_at (name_of n) hs) ≡ true → suc (length (without_handle n hs)) ≡ length hs)
        → is_some (if is_eq q then Some y.1 else handle_at (name_of n) hs) ≡ true
        → suc (length (cond (not (is_eq (ordering_reverse q))) (y ∷ without_handle n hs) (without_handle n hs))) ≡ suc (length hs)
    by Less is rest e = ap suc (rest e)
    by Equal is rest e = ap (λ (r : List Held). suc (length r)) (kept_all n hs (before_same y.0 n hs is o.0))
    by Greater is rest e = ap suc (rest e)

pub kept_by : (n : Label × Label) (hs : List Held) → is_some (handle_at (name_of n) hs) ≡ false → length (without_handle n hs) ≡ length hs
kept_by n [] e = refl
kept_by n (y ∷ hs) e = ap (λ q. length (cond (not (is_eq q)) (y ∷ without_handle n hs) (without_handle n hs))) (turned n y.0)
    ∙ by (label_order y.0 n) (kept_by n hs) e
  where
    by : (q : Ordering) → (is_some (handle_at (name_of n) hs) ≡ false → length (without_handle n hs) ≡ length hs)
        → is_some (if is_eq q then Some y.1 else handle_at (name_of n) hs) ≡ false
        → length (cond (not (is_eq (ordering_reverse q))) (y ∷ without_handle n hs) (without_handle n hs)) ≡ suc (length hs)
    by Less rest e = ap suc (rest e)
    by Equal rest e = absurd (true≢false e)
    by Greater rest e = ap suc (rest e)

-- Contents after deltas.
use Rattle.std.proofs.Common.{◌≡◌, ℕ, zero, suc, ◌+◌, ◌-◌, ◌<◌, ◌≤◌, Bool, true, false, cond, List, [], ◌∷◌, ◌++◌, length, refl, sym, ap, ◌∙◌, true≢false, arith, get_or, set, drop, length-append}
use Rattle.std.specs.Prelude.{nat_lt, not, if◌then◌else◌}
use Rattle.std.specs.List.{insert, remove}
use Rattle.std.proofs.lemmas.List.{drop_more, drop_all}
use Rattle.std.specs.Ordering.{is_eq, is_lt, ordering_reverse}
use Rattle.std.specs.FinMap.Entries.{by_order}
use Rattle.std.specs.declared.cmp.Ordering.{Ordering}
use Rattle.std.specs.declared.cmp.Ordering.TheVariants.{Less, Equal, Greater}
use Rattle.ob_base.specs.declared.id.ObjectId.{ObjectId}
use Rattle.ob_base.specs.declared.name.Label.{Label}
use Rattle.ob_heap.specs.declared.object.Object.{Object}
use Rattle.ob_heap.specs.declared.object.Handle.{Handle}
use Rattle.ob_heap.specs.Contents.{name_of, place_of_name, IsInOrder, IsBeforeAll}
use Rattle.ob_heap.specs.Deltas.{label_order, is_name_at, with_handle, without_handle}
use Rattle.ob_heap.specs.Differences.{with_objects}
use Rattle.ob_heap_spec.specs.Contents.{HandleName}
use Rattle.ob_heap.proofs.HandlesLemmas.{names_total, place_of_name-le}

-- how many objects there are after changes of so many
abbrev pub count_after : ℕ → List (ObjectId × Object) → ℕ
count_after count [] = count
count_after count (e ∷ es) = count_after (if nat_lt e.0.0 count then count else suc count) es

length-set : (os : List Object) (i : ℕ) (o : Object) → length (set os i o) ≡ length os
length-set [] i o = refl
length-set (x ∷ os) zero o = refl
length-set (x ∷ os) (suc i) o = ap suc (length-set os i o)

pub length-with_objects : (os : List Object) (es : List (ObjectId × Object)) → length (with_objects os es) ≡ count_after (length os) es
length-with_objects os [] = refl
length-with_objects os (e ∷ es) =
    length-with_objects (if nat_lt e.0.0 (length os) then set os e.0.0 e.1 else os ++ e.1 ∷ []) es
    ∙ ap (λ n. count_after n es) (by (nat_lt e.0.0 (length os)))
  where
    by : (b : Bool) → length (if b then set os e.0.0 e.1 else os ++ e.1 ∷ []) ≡ (if b then length os else suc (length os))
    by true = length-set os e.0.0 e.1
    by false = let l = length-append os (e.1 ∷ []) in omega arith

pub count_after-le : (n : ℕ) (es : List (ObjectId × Object)) → n ≤ count_after n es
count_after-le n [] = omega arith
count_after-le n (e ∷ es) =
    let same = count_after-le n es in
    let more = count_after-le (suc n) es in
    elim (nat_lt e.0.0 n) as (λ b. n ≤ count_after (if b then n else suc n) es) [ true ↦ same | false ↦ omega arith ]

pub with_objects-le : (os : List Object) (es : List (ObjectId × Object)) → length os ≤ length (with_objects os es)
with_objects-le os es = let a = length-with_objects os es in let b = count_after-le (length os) es in omega arith

pub count_turn : (n : ℕ) (es : List (ObjectId × Object)) (i : ℕ) (x : ObjectId × Object) → i < length es → x ≡ get_or es i x
    → count_after n (drop i es) ≡ count_after n (x ∷ drop (i + 1) es)
count_turn n es i x h e = ap (count_after n) (drop_more es i x h) ∙ ap (λ y. count_after n (y ∷ drop (i + 1) es)) (sym e)

pub count_end : (n : ℕ) (es : List (ObjectId × Object)) (i : ℕ) → length es ≤ i → count_after n (drop i es) ≡ n
count_end n es i h = ap (count_after n) (drop_all i es h)

-- where all fit, the first does
pub first_fits : (os : List Object) (e : ObjectId × Object) (es : List (ObjectId × Object)) (n m : ℕ) → length (with_objects os (e ∷ es)) ≤ n → n ≤ m
    → length (with_objects os (e ∷ [])) ≤ m
first_fits os e es n m h l = let a = with_objects-le (with_objects os (e ∷ [])) es in omega arith

pub room_after : (os new : List Object) (es : List (ObjectId × Object)) (count len cap : ℕ) → count ≡ length (with_objects os es) → len ≡ length os
    → length new + (count - len) ≤ cap → new ≡ os → length (with_objects new es) ≤ length new + (cap - length new)
room_after os new es count len cap e n ok same =
    let a = with_objects-le os es in
    let b : length new ≡ length os = ap length same in
    let d : length (with_objects new es) ≡ length (with_objects os es) = ap (λ xs. length (with_objects xs es)) same in
    omega arith

pub ruleset counts = (length-with_objects, with_objects-le, count_turn, count_end, first_fits)

-- Handles.

abbrev pub Held : Type 0
Held = (Label × Label) × Handle

pub turned : (a b : Label × Label) → label_order a b ≡ ordering_reverse (label_order b a)
turned a b = names_total.antisymm (name_of a) (name_of b)

pub at_below : (n : HandleName) (hs : List Held) (i : ℕ) → is_name_at n hs i ≡ true → i < length hs
at_below n [] i h = absurd (true≢false (sym h))
at_below n (y ∷ hs) zero h = omega arith
at_below n (y ∷ hs) (suc i) h = let rest = at_below n hs i h in omega arith

-- a handle takes the place of the one of its name
pub with_handle_set : (n : Label × Label) (h : Handle) (hs : List Held) (x : Held) → is_name_at (name_of n) hs (place_of_name (name_of n) hs) ≡ true
    → x ≡ get_or hs (place_of_name (name_of n) hs) x → set hs (place_of_name (name_of n) hs) (x.0, h) ≡ with_handle n h hs
with_handle_set n h [] x b f = absurd (true≢false (sym b))
with_handle_set n h (y ∷ hs) x b f = by (label_order y.0 n) refl (with_handle_set n h hs x) b f
    ∙ sym (ap (λ q. by_order q ((n, h) ∷ y ∷ hs) ((y.0, h) ∷ hs) (y ∷ with_handle n h hs)) (turned n y.0))
  where
    by : (o : Ordering) → label_order y.0 n ≡ o
        → (is_name_at (name_of n) hs (place_of_name (name_of n) hs) ≡ true → x ≡ get_or hs (place_of_name (name_of n) hs) x
        → set hs (place_of_name (name_of n) hs) (x.0, h) ≡ with_handle n h hs)
        → is_name_at (name_of n) (y ∷ hs) (if is_lt o then suc (place_of_name (name_of n) hs) else 0) ≡ true
        → x ≡ get_or (y ∷ hs) (if is_lt o then suc (place_of_name (name_of n) hs) else 0) x
        → set (y ∷ hs) (if is_lt o then suc (place_of_name (name_of n) hs) else 0) (x.0, h)
        ≡ by_order (ordering_reverse o) ((n, h) ∷ y ∷ hs) ((y.0, h) ∷ hs) (y ∷ with_handle n h hs)
    by Less is rest b f = ap (λ r. y ∷ r) (rest b f)
    by Equal is rest b f = ap (λ (z : Held). (z.0, h) ∷ hs) f
    by Greater is rest b f = absurd (true≢false (sym b ∙ ap is_eq is))

-- or goes in there
pub with_handle_insert : (n : Label × Label) (h : Handle) (hs : List Held) → is_name_at (name_of n) hs (place_of_name (name_of n) hs) ≡ false
    → insert hs (place_of_name (name_of n) hs) (n, h) ≡ with_handle n h hs
with_handle_insert n h [] b = refl
with_handle_insert n h (y ∷ hs) b = by (label_order y.0 n) refl (with_handle_insert n h hs) b
    ∙ sym (ap (λ q. by_order q ((n, h) ∷ y ∷ hs) ((y.0, h) ∷ hs) (y ∷ with_handle n h hs)) (turned n y.0))
  where
    by : (o : Ordering) → label_order y.0 n ≡ o
        → (is_name_at (name_of n) hs (place_of_name (name_of n) hs) ≡ false → insert hs (place_of_name (name_of n) hs) (n, h) ≡ with_handle n h hs)
        → is_name_at (name_of n) (y ∷ hs) (if is_lt o then suc (place_of_name (name_of n) hs) else 0) ≡ false
        → insert (y ∷ hs) (if is_lt o then suc (place_of_name (name_of n) hs) else 0) (n, h)
        ≡ by_order (ordering_reverse o) ((n, h) ∷ y ∷ hs) ((y.0, h) ∷ hs) (y ∷ with_handle n h hs)
    by Less is rest b = ap (λ r. y ∷ r) (rest b)
    by Equal is rest b = absurd (true≢false (sym (ap is_eq is) ∙ b))
    by Greater is rest b = refl

length-insert-at : (hs : List Held) (i : ℕ) (x : Held) → i ≤ length hs → length (insert hs i x) ≡ suc (length hs)
length-insert-at hs zero x h = refl
length-insert-at [] (suc i) x h = absurd (omega arith)
length-insert-at (y ∷ hs) (suc i) x h = ap suc (length-insert-at hs i x (omega arith))

pub with_handle_longer : (n : Label × Label) (h : Handle) (hs : List Held) → is_name_at (name_of n) hs (place_of_name (name_of n) hs) ≡ false
    → length (with_handle n h hs) ≡ suc (length hs)
with_handle_longer n h hs b = sym (ap length (with_handle_insert n h hs b))
    ∙ length-insert-at hs (place_of_name (name_of n) hs) (n, h) (place_of_name-le (name_of n) hs)

pub before_from : (m n : Label × Label) (hs : List Held) → label_order m n ≡ Less → IsBeforeAll n hs → IsBeforeAll m hs
before_from m n [] l b = tt
before_from m n (y ∷ hs) l b = (names_total.trans (name_of m) (name_of n) (name_of y.0) l b.0, before_from m n hs l b.1)

pub before_same : (m n : Label × Label) (hs : List Held) → label_order m n ≡ Equal → IsBeforeAll m hs → IsBeforeAll n hs
before_same m n [] e b = tt
before_same m n (y ∷ hs) e b = (sym (names_total.congr (name_of m) (name_of n) (name_of y.0) e) ∙ b.0, before_same m n hs e b.1)

-- nothing goes where all the names come after this one
pub kept_all : (n : Label × Label) (hs : List Held) → IsBeforeAll n hs → without_handle n hs ≡ hs
kept_all n [] b = refl
kept_all n (y ∷ hs) b = ap (λ o. cond (not (is_eq o)) (y ∷ without_handle n hs) (without_handle n hs)) b.0 ∙ ap (λ r. y ∷ r) (kept_all n hs b.1)

pub without_handle_remove : (n : Label × Label) (hs : List Held) → IsInOrder hs → is_name_at (name_of n) hs (place_of_name (name_of n) hs) ≡ true
    → remove hs (place_of_name (name_of n) hs) ≡ without_handle n hs
without_handle_remove n [] o b = absurd (true≢false (sym b))
without_handle_remove n (y ∷ hs) o b = by (label_order y.0 n) refl (without_handle_remove n hs o.1) b
    ∙ sym (ap (λ q. cond (not (is_eq q)) (y ∷ without_handle n hs) (without_handle n hs)) (turned n y.0))
  where
    by : (q : Ordering) → label_order y.0 n ≡ q
        → (is_name_at (name_of n) hs (place_of_name (name_of n) hs) ≡ true → remove hs (place_of_name (name_of n) hs) ≡ without_handle n hs)
        → is_name_at (name_of n) (y ∷ hs) (if is_lt q then suc (place_of_name (name_of n) hs) else 0) ≡ true
        → remove (y ∷ hs) (if is_lt q then suc (place_of_name (name_of n) hs) else 0)
        ≡ cond (not (is_eq (ordering_reverse q))) (y ∷ without_handle n hs) (without_handle n hs)
    by Less is rest b = ap (λ r. y ∷ r) (rest b)
    by Equal is rest b = sym (kept_all n hs (before_same y.0 n hs is o.0))
    by Greater is rest b = absurd (true≢false (sym b ∙ ap is_eq is))

pub without_handle_none : (n : Label × Label) (hs : List Held) → IsInOrder hs → is_name_at (name_of n) hs (place_of_name (name_of n) hs) ≡ false
    → hs ≡ without_handle n hs
without_handle_none n [] o b = refl
without_handle_none n (y ∷ hs) o b = by (label_order y.0 n) refl (without_handle_none n hs o.1) b
    ∙ sym (ap (λ q. cond (not (is_eq q)) (y ∷ without_handle n hs) (without_handle n hs)) (turned n y.0))
  where
    by : (q : Ordering) → label_order y.0 n ≡ q
        → (is_name_at (name_of n) hs (place_of_name (name_of n) hs) ≡ false → hs ≡ without_handle n hs)
        → is_name_at (name_of n) (y ∷ hs) (if is_lt q then suc (place_of_name (name_of n) hs) else 0) ≡ false
        → y ∷ hs ≡ cond (not (is_eq (ordering_reverse q))) (y ∷ without_handle n hs) (without_handle n hs)
    by Less is rest b = ap (λ r. y ∷ r) (rest b)
    by Equal is rest b = absurd (true≢false (sym (ap is_eq is) ∙ b))
    by Greater is rest b =
        let less : label_order n y.0 ≡ Less = turned n y.0 ∙ ap ordering_reverse is in
        ap (λ r. y ∷ r) (sym (kept_all n hs (before_from n y.0 hs less o.0)))

before_with : (m n : Label × Label) (h : Handle) (hs : List Held) → label_order m n ≡ Less → IsBeforeAll m hs → IsBeforeAll m (with_handle n h hs)
before_with m n h [] l b = (l, tt)
before_with m n h (y ∷ hs) l b =
    let rest = before_with m n h hs l b.1 in
    elim (label_order n y.0) as (λ q. IsBeforeAll m (by_order q ((n, h) ∷ y ∷ hs) ((y.0, h) ∷ hs) (y ∷ with_handle n h hs))) [
      | Less ↦ (l, b)
      | Equal ↦ b
      | Greater ↦ (b.0, rest)
    ]

-- the names stay in order
pub with_handle_order : (n : Label × Label) (h : Handle) (hs : List Held) → IsInOrder hs → IsInOrder (with_handle n h hs)
with_handle_order n h [] o = (tt, tt)
with_handle_order n h (y ∷ hs) o = by (label_order n y.0) refl (with_handle_order n h hs o.1)
  where
    by : (q : Ordering) → label_order n y.0 ≡ q → IsInOrder (with_handle n h hs)
        → IsInOrder (by_order q ((n, h) ∷ y ∷ hs) ((y.0, h) ∷ hs) (y ∷ with_handle n h hs))
    by Less is rest = ((is, before_from n y.0 hs is o.0), o)
    by Equal is rest = o
    by Greater is rest = (before_with y.0 n h hs (turned y.0 n ∙ ap ordering_reverse is) o.0, rest)

before_without : (m n : Label × Label) (hs : List Held) → IsBeforeAll m hs → IsBeforeAll m (without_handle n hs)
before_without m n [] b = tt
before_without m n (y ∷ hs) b =
    let rest = before_without m n hs b.1 in
    elim (not (is_eq (label_order n y.0))) as (λ q. IsBeforeAll m (cond q (y ∷ without_handle n hs) (without_handle n hs))) [
      | true ↦ (b.0, rest)
      | false ↦ rest
    ]

pub without_handle_order : (n : Label × Label) (hs : List Held) → IsInOrder hs → IsInOrder (without_handle n hs)
without_handle_order n [] o = tt
without_handle_order n (y ∷ hs) o =
    let rest = without_handle_order n hs o.1 in
    let before = before_without y.0 n hs o.0 in
    elim (not (is_eq (label_order n y.0))) as (λ q. IsInOrder (cond q (y ∷ without_handle n hs) (without_handle n hs))) [
      | true ↦ (before, rest)
      | false ↦ rest
    ]

-- one that is put makes at most one more, and none more where one goes
pub with_handle-le : (n : Label × Label) (h : Handle) (hs : List Held) → length (with_handle n h hs) ≤ suc (length hs)
with_handle-le n h [] = omega arith
with_handle-le n h (y ∷ hs) =
    let rest = with_handle-le n h hs in
    elim (label_order n y.0) as (λ q. length (by_order q ((n, h) ∷ y ∷ hs) ((y.0, h) ∷ hs) (y ∷ with_handle n h hs)) ≤ suc (suc (length hs))) [
      | Less ↦ omega arith
      | Equal ↦ omega arith
      | Greater ↦ omega arith
    ]

pub without_handle-le : (n : Label × Label) (hs : List Held) → length (without_handle n hs) ≤ length hs
without_handle-le n [] = omega arith
without_handle-le n (y ∷ hs) =
    let rest = without_handle-le n hs in
    elim (not (is_eq (label_order n y.0))) as (λ q. length (cond q (y ∷ without_handle n hs) (without_handle n hs)) ≤ suc (length hs)) [
      | true ↦ omega arith
      | false ↦ omega arith
    ]

pub ruleset changes = (place_of_name-le, at_below, with_handle_insert, without_handle_remove, without_handle_none, with_handle_order, with_handle-le, without_handle-le)

-- Handles in the order of their names.
use Rattle.std.proofs.Common.{◌≡◌, ℕ, zero, suc, ◌<◌, ◌≤◌, Bool, true, false, List, [], ◌∷◌, length, None, Some, refl, sym, ap, subst, ◌∙◌, true≢false, arith, get_or}
use Rattle.std.specs.Prelude.{if◌then◌else◌}
use Rattle.std.specs.Ordering.{is_eq, is_lt, ordering_reverse}
use Rattle.std.specs.declared.cmp.Ordering.{Ordering}
use Rattle.std.specs.declared.cmp.Ordering.TheVariants.{Less, Equal, Greater}
use Rattle.std.specs.Cmp.{IsTotalOrder}
use Rattle.std.proofs.lemmas.List.{get_or_default}
use Rattle.std.proofs.lemmas.Cmp.{then_total, on_total, nat_list_cmp_total}
use Rattle.ob_base.specs.declared.name.Label.{Label}
use Rattle.ob_heap.specs.declared.object.Handle.{Handle}
use Rattle.ob_heap_spec.specs.Contents.{HandleName, name_order}
use Rattle.ob_heap.specs.Contents.{name_of, handle_at, place_of_name, IsInOrder, IsBeforeAll}

pub names_total : IsTotalOrder name_order
names_total = then_total (on_total (λ (p : HandleName). p.who) nat_list_cmp_total) (on_total (λ (p : HandleName). p.name) nat_list_cmp_total)

less_is : (o : Ordering) → is_lt o ≡ true → o ≡ Less
less_is Less h = refl
less_is Equal h = absurd (true≢false (sym h))
less_is Greater h = absurd (true≢false (sym h))

pub equal_is : (o : Ordering) → is_eq o ≡ true → o ≡ Equal
equal_is Less h = absurd (true≢false (sym h))
equal_is Equal h = refl
equal_is Greater h = absurd (true≢false (sym h))

before_at : (n : Label × Label) (hs : List ((Label × Label) × Handle)) (i : ℕ) (x : (Label × Label) × Handle) → IsBeforeAll n hs → i < length hs
    → x ≡ get_or hs i x → name_order (name_of n) (name_of x.0) ≡ Less
before_at n [] i x b h e = absurd (omega arith)
before_at n (y ∷ hs) zero x b h e = ap (λ (z : (Label × Label) × Handle). name_order (name_of n) (name_of z.0)) e ∙ b.0
before_at n (y ∷ hs) (suc i) x b h e = before_at n hs i x b.1 (omega arith) e

-- a handle whose name comes before this one is before the place
pub before_place : (k : HandleName) (hs : List ((Label × Label) × Handle)) (i : ℕ) (x : (Label × Label) × Handle) → IsInOrder hs → i < length hs
    → x ≡ get_or hs i x → is_lt (name_order (name_of x.0) k) ≡ true → i < place_of_name k hs
before_place k [] i x o h e b = absurd (omega arith)
before_place k (y ∷ hs) zero x o h e b =
    let c : is_lt (name_order (name_of y.0) k) ≡ true = sym (ap (λ (z : (Label × Label) × Handle). is_lt (name_order (name_of z.0) k)) e) ∙ b in
    subst (λ (d : Bool). 0 < (if d then suc (place_of_name k hs) else 0)) (sym c) (omega arith)
before_place k (y ∷ hs) (suc i) x o h e b =
    let rest = before_place k hs i x o.1 (omega arith) e b in
    let less = before_at y.0 hs i x o.0 (omega arith) e in
    let c : is_lt (name_order (name_of y.0) k) ≡ true = ap is_lt (names_total.trans (name_of y.0) (name_of x.0) k less (less_is _ b)) in
    subst (λ (d : Bool). suc i < (if d then suc (place_of_name k hs) else 0)) (sym c) (omega arith)

-- the place isn't past one whose name doesn't
pub after_place : (k : HandleName) (hs : List ((Label × Label) × Handle)) (i : ℕ) (x : (Label × Label) × Handle) → i < length hs
    → x ≡ get_or hs i x → is_lt (name_order (name_of x.0) k) ≡ false → place_of_name k hs ≤ i
after_place k [] i x h e b = absurd (omega arith)
after_place k (y ∷ hs) zero x h e b =
    let c : is_lt (name_order (name_of y.0) k) ≡ false = sym (ap (λ (z : (Label × Label) × Handle). is_lt (name_order (name_of z.0) k)) e) ∙ b in
    subst (λ (d : Bool). (if d then suc (place_of_name k hs) else 0) ≤ 0) (sym c) (omega arith)
after_place k (y ∷ hs) (suc i) x h e b =
    let rest = after_place k hs i x (omega arith) e b in
    elim (is_lt (name_order (name_of y.0) k)) as (λ (d : Bool). (if d then suc (place_of_name k hs) else 0) ≤ suc i) [ true ↦ omega arith | false ↦ omega arith ]

pub place_of_name-le : (k : HandleName) (hs : List ((Label × Label) × Handle)) → place_of_name k hs ≤ length hs
place_of_name-le k [] = omega arith
place_of_name-le k (y ∷ hs) =
    let rest = place_of_name-le k hs in
    elim (is_lt (name_order (name_of y.0) k)) as (λ (d : Bool). (if d then suc (place_of_name k hs) else 0) ≤ suc (length hs)) [ true ↦ omega arith | false ↦ omega arith ]

pub ruleset places = (before_place, after_place, place_of_name-le)

-- behind a name that comes after this one there is no handle of it
apart_after : (k : HandleName) (n m : HandleName) → name_order n k ≡ Greater → name_order n m ≡ Less → is_eq (name_order m k) ≡ false
apart_after k n m g l = by (is_eq (name_order m k)) refl
  where
    by : (b : Bool) → is_eq (name_order m k) ≡ b → b ≡ false
    by false e = refl
    by true e =
        let same = names_total.congr m k n (equal_is _ e) in
        let f : name_order n m ≡ name_order n k = names_total.antisymm n m ∙ ap ordering_reverse same ∙ sym (names_total.antisymm n k) in
        let clash : Less ≡ Greater = sym l ∙ f ∙ g in cc

none_after : (k : HandleName) (n : Label × Label) (hs : List ((Label × Label) × Handle)) → name_order (name_of n) k ≡ Greater → IsBeforeAll n hs → handle_at k hs ≡ None
none_after k n [] g b = refl
none_after k n (y ∷ hs) g b = ap (λ (d : Bool). if d then Some y.1 else handle_at k hs) (apart_after k (name_of n) (name_of y.0) g b.0) ∙ none_after k n hs g b.1

-- the handle at the place, where it has the name, and else none
pub handle_found : (k : HandleName) (hs : List ((Label × Label) × Handle)) (x : (Label × Label) × Handle) → place_of_name k hs < length hs
    → x ≡ get_or hs (place_of_name k hs) x → is_eq (name_order (name_of x.0) k) ≡ true → Some x.1 ≡ handle_at k hs
handle_found k [] x h e b = absurd (omega arith)
handle_found k (y ∷ hs) x h e b = by (name_order (name_of y.0) k) refl (handle_found k hs x) h e
  where
    by : (o : Ordering) → name_order (name_of y.0) k ≡ o
        → (place_of_name k hs < length hs → x ≡ get_or hs (place_of_name k hs) x → is_eq (name_order (name_of x.0) k) ≡ true → Some x.1 ≡ handle_at k hs)
        → (if is_lt o then suc (place_of_name k hs) else 0) < suc (length hs) → x ≡ get_or (y ∷ hs) (if is_lt o then suc (place_of_name k hs) else 0) x
        → Some x.1 ≡ (if is_eq o then Some y.1 else handle_at k hs)
    by Less is rest l f = rest (omega arith) f b
    by Equal is rest l f = ap (λ (z : (Label × Label) × Handle). Some z.1) f
    by Greater is rest l f =
        let g : name_order (name_of x.0) k ≡ Greater = ap (λ (z : (Label × Label) × Handle). name_order (name_of z.0) k) f ∙ is in
        absurd (true≢false (sym b ∙ ap is_eq g))

pub handle_missing : (k : HandleName) (hs : List ((Label × Label) × Handle)) → IsInOrder hs
    → ((x : (Label × Label) × Handle) → place_of_name k hs < length hs → x ≡ get_or hs (place_of_name k hs) x → is_eq (name_order (name_of x.0) k) ≡ false)
    → None ≡ handle_at k hs
handle_missing k [] o h = refl
handle_missing k (y ∷ hs) o h = by (name_order (name_of y.0) k) refl (handle_missing k hs o.1) h
  where
    by : (r : Ordering) → name_order (name_of y.0) k ≡ r
        → (((x : (Label × Label) × Handle) → place_of_name k hs < length hs → x ≡ get_or hs (place_of_name k hs) x → is_eq (name_order (name_of x.0) k) ≡ false) → None ≡ handle_at k hs)
        → ((x : (Label × Label) × Handle) → (if is_lt r then suc (place_of_name k hs) else 0) < suc (length hs)
        → x ≡ get_or (y ∷ hs) (if is_lt r then suc (place_of_name k hs) else 0) x → is_eq (name_order (name_of x.0) k) ≡ false)
        → None ≡ (if is_eq r then Some y.1 else handle_at k hs)
    by Less is rest g = rest (λ x l e. g x (omega arith) e)
    by Equal is rest g = absurd (true≢false (sym (ap is_eq is) ∙ g y (omega arith) refl))
    by Greater is rest g = sym (none_after k y.0 hs is o.0)

pub find_found : (k : HandleName) (hs : List ((Label × Label) × Handle)) (p : ℕ) (x : (Label × Label) × Handle) → p ≡ place_of_name k hs → p < length hs
    → x ≡ get_or hs p x → is_eq (name_order (name_of x.0) k) ≡ true → Some x.1 ≡ handle_at k hs
find_found k hs p x s h e b =
    handle_found k hs x (subst (λ (n : ℕ). n < length hs) s h) (subst (λ (n : ℕ). x ≡ get_or hs n x) s e) b

pub find_other : (k : HandleName) (hs : List ((Label × Label) × Handle)) (p : ℕ) (x : (Label × Label) × Handle) → IsInOrder hs → p ≡ place_of_name k hs → p < length hs
    → x ≡ get_or hs p x → is_eq (name_order (name_of x.0) k) ≡ false → None ≡ handle_at k hs
find_other k hs p x o s h e b = handle_missing k hs o (λ y l f.
    let at : y ≡ x = f ∙ get_or_default hs (place_of_name k hs) y x l ∙ sym (subst (λ (n : ℕ). x ≡ get_or hs n x) s e) in
    subst (λ (z : (Label × Label) × Handle). is_eq (name_order (name_of z.0) k) ≡ false) (sym at) b)

pub find_none : (k : HandleName) (hs : List ((Label × Label) × Handle)) (p : ℕ) → IsInOrder hs → p ≡ place_of_name k hs → length hs ≤ p → None ≡ handle_at k hs
find_none k hs p o s h = handle_missing k hs o (λ y l f. absurd (omega arith))

-- Whether what a delta says may be said of a content, by one after another of its parts.
use Rattle.std.proofs.Common.{◌≡◌, ◌∙◌, ℕ, suc, ◌+◌, ◌-◌, ◌<◌, ◌≤◌, Bool, true, false, List, [], ◌∷◌, length, map, drop, get_or, refl, sym, ap, subst, arith, true≢false}
use Rattle.std.specs.Prelude.{nat_le, nat_lt, T, ⊤, ◌&&◌, Option, IsTrue, if◌then◌else◌}
use Rattle.std.specs.List.{list_all, enumerate_from}
use Rattle.std.specs.Ordering.{is_lt}
use Rattle.std.specs.Str.{IsUtf8, is_utf8}
use Rattle.std.specs.FinMap.Entries.{below_all, is_sorted}
use Rattle.std.specs.declared.cmp.Ordering.{Ordering}
use Rattle.std.specs.declared.cmp.Ordering.TheVariants.{Less, Equal, Greater}
use Rattle.std.proofs.lemmas.List.{get_or_default}
use Rattle.std.proofs.lemmas.Str.{is_utf8-from_IsUtf8}
use Rattle.ob_base.specs.Limits.{longest_name, longest_string}
use Rattle.ob_base.specs.Names.{is_label, is_text}
use Rattle.ob_base.specs.declared.id.ObjectId.{ObjectId}
use Rattle.ob_base.specs.declared.name.Label.{Label}
use Rattle.ob_base.proofs.OptionalLemmas.{both_true}
use Rattle.ob_code.specs.declared.image.FieldCode.{FieldCode}
use Rattle.ob_table.specs.declared.contract.Field.{Field}
use Rattle.ob_heap.specs.Ascending.{IsBelowAll, IsAscending}
use Rattle.ob_heap.specs.Deltas.{AreNext, label_order}
use Rattle.ob_heap.specs.Differences.{with_objects}
use Rattle.ob_heap.specs.Contents.{name_of}
use Rattle.ob_heap.specs.declared.object.Object.{Object}
use Rattle.ob_heap.specs.declared.object.Handle.{Handle}
use Rattle.ob_heap.proofs.HandlesLemmas.{names_total}
use Rattle.ob_heap.proofs.DeltasLemmas.{count_after, length-with_objects}
use Rattle.ob_code_table.specs.ImageTables.{field_of_code}
use Rattle.ob_owners.proofs.TurnLemmas.{rest_turn, rest_end}
use Rattle.ob_store_laws.proofs.Entries.{of_sorted}

-- Texts.

pub text_is : (bytes : List ℕ) → IsUtf8 bytes → nat_le (length bytes) longest_string ≡ is_text bytes
text_is bytes utf8 = by (nat_le (length bytes) longest_string) (is_utf8 bytes) (is_utf8-from_IsUtf8 bytes utf8)
  where
    by : (a b : Bool) → b ≡ true → a ≡ (a && b)
    by true b e = sym e
    by false b e = refl

-- Fields, one after another.

pub field_turn : (p : (ℕ × Field) → Bool) (items own : List FieldCode) (place : ℕ) (f : FieldCode) → items ≡ own → place < length items → f ≡ get_or items place f
    → list_all p (enumerate_from place (map field_of_code (drop place own)))
    ≡ (p (place, field_of_code f) && list_all p (enumerate_from (place + 1) (map field_of_code (drop (place + 1) own))))
field_turn p items own place f e l at = ap (λ fs. list_all p (enumerate_from place (map field_of_code fs))) (rest_turn items own place f e l at)

pub fields_end : (p : (ℕ × Field) → Bool) (items own : List FieldCode) (place : ℕ) → items ≡ own → length items ≤ place
    → list_all p (enumerate_from place (map field_of_code (drop place own))) ≡ true
fields_end p items own place e l = ap (λ fs. list_all p (enumerate_from place (map field_of_code fs))) (rest_end items own place e l)

-- Objects, one after another.

-- an object with its number
abbrev pub Numbered : Type 0
Numbered = ObjectId × Object

abbrev pub Ascend : List Numbered → Type 0
Ascend es = IsAscending (λ (e : Numbered). e.0.0) es

-- objects ascend from a number on, and those past so many have the next numbers
abbrev pub Follow : ℕ → ℕ → List Numbered → Type 0
Follow least count [] = ⊤
Follow least count (e ∷ es) = (least ≤ e.0.0) × (e.0.0 ≤ count) × Follow (suc e.0.0) (if nat_lt e.0.0 count then count else suc count) es

-- the first of these has this number or a later one
abbrev IsFrom : ℕ → List Numbered → Type 0
IsFrom n [] = ⊤
IsFrom n (e ∷ es) = n ≤ e.0.0

from_below : (n : ℕ) (es : List Numbered) → IsBelowAll (λ (e : Numbered). e.0.0) n es → IsFrom (suc n) es
from_below n [] low = tt
from_below n (e ∷ es) low = let l = low.0 in omega arith

follow_from : (least count : ℕ) (es : List Numbered) → IsFrom least es → Ascend es → AreNext count es → Follow least count es
follow_from least count [] from up next = tt
follow_from least count (e ∷ es) from up next =
    (from, next.0, follow_from (suc e.0.0) (if nat_lt e.0.0 count then count else suc count) es (from_below e.0.0 es up.0) up.1 next.1)

from_zero : (es : List Numbered) → IsFrom 0 es
from_zero [] = tt
from_zero (e ∷ es) = omega arith

pub follow : (count : ℕ) (es : List Numbered) → Ascend es × AreNext count es → Follow 0 count es
follow count es is = follow_from 0 count es (from_zero es) is.0 is.1

below_all_of : (n least count : ℕ) (es : List Numbered) → n < least → Follow least count es → IsBelowAll (λ (e : Numbered). e.0.0) n es
below_all_of n least count [] l is = tt
below_all_of n least count (e ∷ es) l is =
    let low = is.0 in
    (omega arith, below_all_of n (suc e.0.0) (if nat_lt e.0.0 count then count else suc count) es (omega arith) is.2)

pub ascend : (least count : ℕ) (es : List Numbered) → Follow least count es → Ascend es × AreNext count es
ascend least count [] is = (tt, tt)
ascend least count (e ∷ es) is =
    let more : ℕ = if nat_lt e.0.0 count then count else suc count in
    let rest = ascend (suc e.0.0) more es is.2 in
    ((below_all_of e.0.0 (suc e.0.0) more es (omega arith) is.2, rest.0), (is.1, rest.1))

-- the objects from a place on follow just where all do
pub record AreLeft (before : List Object) (objects : List Numbered) (i least count : ℕ) : Type 0 where
  pub to : Ascend objects × AreNext (length before) objects → Follow least count (drop i objects)
  pub back : Follow least count (drop i objects) → Ascend objects × AreNext (length before) objects
  pub count_is : count_after count (drop i objects) ≡ length (with_objects before objects)

pub all_left : (before : List Object) (objects : List Numbered) → AreLeft before objects 0 0 (length before)
all_left before objects = record {
  to = follow (length before) objects;
  back = ascend 0 (length before) objects;
  count_is = sym (length-with_objects before objects);
}

module _ (before : List Object) (objects : List Numbered) (i least count : ℕ) (e : Numbered) (less : i < length objects) (at : e ≡ get_or objects i e) where
  rest : drop i objects ≡ e ∷ drop (i + 1) objects
  rest = rest_turn objects objects i e refl less at

  pub none_left : AreLeft before objects i least count → ¬ ((least ≤ e.0.0) × (e.0.0 ≤ count)) → ¬ (Ascend objects × AreNext (length before) objects)
  none_left left apart all = let f = subst (Follow least count) rest (left.to all) in apart (f.0, f.1)

  pub one_less : AreLeft before objects i least count → least ≤ e.0.0 → e.0.0 ≤ count → (more : ℕ) → more ≡ (if nat_lt e.0.0 count then count else suc count)
      → AreLeft before objects (i + 1) (e.0.0 + 1) more
  one_less left low high more is = record {
    to = λ all. subst (λ m. Follow (e.0.0 + 1) m (drop (i + 1) objects)) (sym is) (subst (λ n. Follow n (if nat_lt e.0.0 count then count else suc count) (drop (i + 1) objects)) next (subst (Follow least count) rest (left.to all)).2);
    back = λ f. left.back (subst (Follow least count) (sym rest) (low, high, subst (λ n. Follow n (if nat_lt e.0.0 count then count else suc count) (drop (i + 1) objects)) (sym next) (subst (λ m. Follow (e.0.0 + 1) m (drop (i + 1) objects)) is f)));
    count_is = ap (λ m. count_after m (drop (i + 1) objects)) is ∙ sym (ap (count_after count) rest) ∙ left.count_is;
  }
    where
      next : suc e.0.0 ≡ e.0.0 + 1
      next = omega arith

pub left_end : (before : List Object) (objects : List Numbered) (i least count : ℕ) → length objects ≤ i → AreLeft before objects i least count
    → Ascend objects × AreNext (length before) objects × (count ≡ length (with_objects before objects))
left_end before objects i least count end left =
    let none : drop i objects ≡ [] = rest_end objects objects i refl end in
    let all = left.back (subst (Follow least count) (sym none) tt) in
    (all.0, all.1, sym (ap (count_after count) none) ∙ left.count_is)

pub more_if : (n count : ℕ) → n ≡ count → suc count ≡ (if nat_lt n count then count else suc count)
more_if n count e = by (nat_lt n count) refl
  where
    by : (b : Bool) → nat_lt n count ≡ b → suc count ≡ (if b then count else suc count)
    by true is = absurd (grind arith)
    by false is = refl

pub same_if : (n count : ℕ) → n < count → count ≡ (if nat_lt n count then count else suc count)
same_if n count l = by (nat_lt n count) refl
  where
    by : (b : Bool) → nat_lt n count ≡ b → count ≡ (if b then count else suc count)
    by true is = refl
    by false is = absurd (grind arith)

-- Handles in order.

less_is : (o : Ordering) → is_lt o ≡ true → o ≡ Less
less_is Less h = refl
less_is Equal h = absurd (true≢false (sym h))
less_is Greater h = absurd (true≢false (sym h))

both : (a b : Bool) → a ≡ true → T b → T (a && b)
both true b e h = h
both false b e h = absurd (true≢false (sym e))

-- a change of a handle
abbrev pub HandleChange : Type 0
HandleChange = (Label × Label) × Option Handle

below_too : (a b : Label × Label) (es : List HandleChange) → label_order a b ≡ Less → T (below_all label_order b es) → T (below_all label_order a es)
below_too a b [] less h = tt
below_too a b (e ∷ es) less h =
    let p = parts (is_lt (label_order b e.0)) (below_all label_order b es) h in
    both (is_lt (label_order a e.0)) (below_all label_order a es)
    (ap is_lt (names_total.trans (name_of a) (name_of b) (name_of e.0) less (less_is (label_order b e.0) p.0))) (below_too a b es less p.1)
  where
    parts : (x y : Bool) → T (x && y) → (x ≡ true) × T y
    parts true y h = (refl, h)
    parts false y h = absurd h

-- whether the first of two names comes before the second
abbrev pub is_before : HandleChange → HandleChange → Bool
is_before a b = is_lt (label_order a.0 b.0)

rise : (es : List HandleChange) → ((k : ℕ) (d : HandleChange) → suc k < length es → is_before (get_or es k d) (get_or es (suc k) d) ≡ true) → T (is_sorted label_order es)
rise [] h = tt
rise (e ∷ []) h = tt
rise (e ∷ f ∷ es) h =
    let first = h 0 e (omega arith) in
    let rest = rise (f ∷ es) (λ k d inside. h (suc k) d (omega arith)) in
    both (below_all label_order e.0 (f ∷ es)) (is_sorted label_order (f ∷ es))
    (T-true (below_all label_order e.0 (f ∷ es)) (both (is_lt (label_order e.0 f.0)) (below_all label_order e.0 es) first
    (below_too e.0 f.0 es (less_is (label_order e.0 f.0) first) (T-first (below_all label_order f.0 es) (is_sorted label_order es) rest)))) rest
  where
    T-true : (b : Bool) → T b → b ≡ true
    T-true true h = refl
    T-true false h = absurd h

    T-first : (a b : Bool) → T (a && b) → T a
    T-first true b h = tt
    T-first false b h = absurd h

pub true_of : (b : Bool) → T b → b ≡ true
true_of true h = refl
true_of false h = absurd h

pub of_true : (b : Bool) → b ≡ true → T b
of_true b e = subst T (sym e) tt

-- each name before a place comes before the next
abbrev pub RiseTo : ℕ → List HandleChange → Type 0
RiseTo n es = (k : ℕ) (d : HandleChange) → k + 1 < n → is_before (get_or es k d) (get_or es (k + 1) d) ≡ true

pub order_true : (es : List HandleChange) (n : ℕ) → length es ≤ n → RiseTo n es → true ≡ is_sorted label_order es
order_true es n end h = sym (true_of (is_sorted label_order es) (rise es (λ k d inside.
    let on : k + 1 ≡ suc k = omega arith in
    subst (λ m. is_before (get_or es k d) (get_or es m d) ≡ true) on (h k d (omega arith)))))

pub order_false : (es : List HandleChange) (n : ℕ) (a b : HandleChange) → 1 ≤ n → n < length es → a ≡ get_or es (n - 1) a → b ≡ get_or es n b → is_before a b ≡ false
    → false ≡ is_sorted label_order es
order_false es n a b some inside a_is b_is not_less = by (is_sorted label_order es) refl
  where
    by : (t : Bool) → is_sorted label_order es ≡ t → false ≡ t
    by false is = refl
    by true is =
        let pairs = of_sorted label_order es (of_true (is_sorted label_order es) is) in
        let there : get_or es (n - 1) b ≡ a = get_or_default es (n - 1) b a (omega arith) ∙ sym a_is in
        sym not_less ∙ ap (λ x. is_before x b) (sym there) ∙ ap (λ x. is_before (get_or es (n - 1) b) x) b_is
        ∙ ap is_lt (pairs (n - 1) n b (omega arith) inside)

-- Labels.

pub label_is : (bytes : List ℕ) (b : Bool) → IsTrue (is_label bytes) → b ≡ true → b ≡ is_label bytes
label_is bytes b is e = e ∙ sym is

pub label_long : (bytes : List ℕ) → IsTrue (is_label bytes) → 1 ≤ length bytes
label_long bytes is =
    let parts = both_true (nat_le 1 (length bytes) && nat_le (length bytes) longest_name) (is_utf8 bytes) is in
    at_most 1 (length bytes) (both_true (nat_le 1 (length bytes)) (nat_le (length bytes) longest_name) parts.0).0
  where
    at_most : (m n : ℕ) → nat_le m n ≡ true → m ≤ n
    at_most m n h = grind arith

-- How many handles there are after a delta.
use Rattle.std.proofs.Common.{◌≡◌, ℕ, suc, ◌+◌, ◌<◌, ◌≤◌, Bool, true, false, cond, ◌&&◌, List, [], ◌∷◌, length, drop, get_or, Option, Some, None, is_some, refl, sym, ap, ◌∙◌, subst, arith}
use Rattle.std.specs.Prelude.{AllPairs, slice_index_or, if◌then◌else◌, ⊤}
use Rattle.std.specs.Ordering.{is_eq, is_lt, eq_by_cmp, ordering_reverse}
use Rattle.std.specs.Cmp.{IsTotalOrder}
use lib.Dec.{T}
use Rattle.std.specs.FinMap.Entries.{find as find_key, below_all, is_sorted, length-put, length_without}
use Rattle.std.specs.declared.cmp.Ordering.{Ordering}
use Rattle.std.specs.declared.cmp.Ordering.TheVariants.{Less, Equal, Greater}
use Rattle.std.proofs.lemmas.List.{drop_more, drop_all}
use Rattle.ob_base.specs.declared.name.Label.{Label}
use Rattle.ob_heap.specs.declared.object.Handle.{Handle}
use Rattle.ob_heap.specs.Contents.{name_of, handle_at, IsInOrder, IsBeforeAll}
use Rattle.ob_heap.specs.Deltas.{label_order, with_handle, without_handle, with_change, with_handles}
use Rattle.ob_heap.proofs.DeltasLemmas.{with_handle_order, without_handle_order}
use Rattle.ob_heap.proofs.HandlesLemmas.{names_total}
use Rattle.ob_heap.proofs.LookLemmas.{look_change}
use Rattle.ob_lanes.specs.Committing.{counted_with}

abbrev Held : Type 0
Held = (Label × Label) × Handle

abbrev pub Change : Type 0
Change = (Label × Label) × Option Handle

-- Handles in their order.

labels_total : IsTotalOrder label_order
labels_total = record {
  antisymm = λ x y. names_total.antisymm (name_of x) (name_of y);
  trans = λ x y z. names_total.trans (name_of x) (name_of y) (name_of z);
  congr = λ x y z. names_total.congr (name_of x) (name_of y) (name_of z);
}

turned : (o : Ordering) → is_eq (ordering_reverse o) ≡ is_eq o
turned Less = refl
turned Equal = refl
turned Greater = refl

at_is : (q : Label × Label) (hs : List Held) → handle_at (name_of q) hs ≡ find_key label_order q hs
at_is q [] = refl
at_is q (h ∷ hs) =
    ap (λ b. cond b (Some h.1) (handle_at (name_of q) hs)) (ap is_eq (labels_total.antisymm h.0 q) ∙ turned (label_order q h.0))
    ∙ ap (λ r. cond (eq_by_cmp label_order q h.0) (Some h.1) r) (at_is q hs)

below : (n : Label × Label) (hs : List Held) → IsBeforeAll n hs → T (below_all label_order n hs)
below n [] b = tt
below n (h ∷ hs) b = subst (λ o. T (is_lt o && below_all label_order n hs)) (sym b.0) (below n hs b.1)

sorted : (hs : List Held) → IsInOrder hs → T (is_sorted label_order hs)
sorted [] o = tt
sorted (h ∷ hs) o = by (below_all label_order h.0 hs) (is_sorted label_order hs) (below h.0 hs o.0) (sorted hs o.1)
  where
    by : (a b : Bool) → T a → T b → T (a && b)
    by true b p q = q
    by false b p q = p

-- One change.

put_length : (n : Label × Label) (h : Handle) (hs : List Held) → IsInOrder hs → length (with_handle n h hs) ≡ counted_with (find_key label_order n hs) (Some h) (length hs)
put_length n h hs o = length-put label_order labels_total n h hs (sorted hs o) ∙ by (find_key label_order n hs)
  where
    by : (r : Option Handle) → cond (is_some r) (length hs) (length hs + 1) ≡ counted_with r (Some h) (length hs)
    by None = refl
    by (Some x) = refl

without_length : (n : Label × Label) (hs : List Held) → IsInOrder hs → length (without_handle n hs) ≡ counted_with (find_key label_order n hs) None (length hs)
without_length n hs o = by (find_key label_order n hs) (length_without label_order labels_total n hs (sorted hs o))
  where
    by : (r : Option Handle) → cond (is_some r) 1 0 + length (without_handle n hs) ≡ length hs → length (without_handle n hs) ≡ counted_with r None (length hs)
    by None e = omega (arith, e)
    by (Some x) e = omega (arith, e)

change_length : (d : Change) (hs : List Held) → IsInOrder hs → length (with_change d.0 d.1 hs) ≡ counted_with (handle_at (name_of d.0) hs) d.1 (length hs)
change_length (n, None) hs o = without_length n hs o ∙ ap (λ r. counted_with r None (length hs)) (sym (at_is n hs))
change_length (n, Some h) hs o = put_length n h hs o ∙ ap (λ r. counted_with r (Some h) (length hs)) (sym (at_is n hs))

change_order : (d : Change) (hs : List Held) → IsInOrder hs → IsInOrder (with_change d.0 d.1 hs)
change_order (n, None) hs o = without_handle_order n hs o
change_order (n, Some h) hs o = with_handle_order n h hs o

-- All of them.

-- how many handles there are after changes, each of which is asked of the handles as they were before all
abbrev pub tally : List Held → ℕ → List Change → ℕ
tally hs count [] = count
tally hs count (d ∷ ds) = tally hs (counted_with (handle_at (name_of d.0) hs) d.1 count) ds

abbrev AreAfter : Label × Label → List Change → Type 0
AreAfter n [] = ⊤
AreAfter n (d ∷ ds) = (label_order n d.0 ≡ Less) × AreAfter n ds

abbrev AreOrdered : List Change → Type 0
AreOrdered [] = ⊤
AreOrdered (d ∷ ds) = AreAfter d.0 ds × AreOrdered ds

after_from : (n : Label × Label) (ds : List Change) → ((k : ℕ) (x : Change) → k < length ds → label_order n (slice_index_or ds k x).0 ≡ Less) → AreAfter n ds
after_from n [] f = tt
after_from n (d ∷ ds) f = (f 0 d (omega arith), after_from n ds (λ k x h. f (suc k) x (omega (arith, h))))

ordered_from : (ds : List Change) → AllPairs (λ (a b : Change). label_order a.0 b.0 ≡ Less) ds → AreOrdered ds
ordered_from [] h = tt
ordered_from (d ∷ ds) h = (after_from d.0 ds (λ k x w. h 0 (suc k) x (omega arith) (omega (arith, w))), ordered_from ds (λ i j x l w. h (suc i) (suc j) x (omega (arith, l)) (omega (arith, w))))

tally_kept : (d : Change) (hs : List Held) (count : ℕ) (ds : List Change) → AreAfter d.0 ds → tally (with_change d.0 d.1 hs) count ds ≡ tally hs count ds
tally_kept d hs count [] h = refl
tally_kept d hs count (e ∷ ds) h =
    ap (λ r. tally (with_change d.0 d.1 hs) (counted_with r e.1 count) ds)
    (look_change (name_of e.0) d.0 d.1 hs ∙ ap (λ o. if is_eq o then d.1 else handle_at (name_of e.0) hs) h.0)
    ∙ tally_kept d hs (counted_with (handle_at (name_of e.0) hs) e.1 count) ds h.1

length_tally : (hs : List Held) (ds : List Change) → IsInOrder hs → AreOrdered ds → length (with_handles hs ds) ≡ tally hs (length hs) ds
length_tally hs [] o s = refl
length_tally hs (d ∷ ds) o s =
    length_tally (with_change d.0 d.1 hs) ds (change_order d hs o) s.1
    ∙ ap (λ n. tally (with_change d.0 d.1 hs) n ds) (change_length d hs o)
    ∙ tally_kept d hs (counted_with (handle_at (name_of d.0) hs) d.1 (length hs)) ds s.0

-- The loop.

rest_turn : (ds : List Change) (i : ℕ) (d : Change) → i < length ds → d ≡ get_or ds i d → drop i ds ≡ d ∷ drop (i + 1) ds
rest_turn ds i d l at = drop_more ds i d l ∙ ap (λ x. x ∷ drop (i + 1) ds) (sym at)

count_most : (before after : Option Handle) (n : ℕ) → counted_with before after n ≤ n + 1
count_most None None n = omega arith
count_most None (Some x) n = omega arith
count_most (Some x) None n = omega arith
count_most (Some x) (Some y) n = omega arith

-- so many handles after the changes before a place come to as many as there are after all
pub record AreCounted (hs : List Held) (ds : List Change) (i count : ℕ) : Type 0 where
  pub total : tally hs count (drop i ds) ≡ tally hs (length hs) ds
  pub most : count ≤ length hs + i

pub counted_first : (hs : List Held) (ds : List Change) → AreCounted hs ds 0 (length hs)
counted_first hs ds = record { total = refl; most = omega arith }

pub counted_more : (hs : List Held) (ds : List Change) (i count : ℕ) (d : Change) (before : Option Handle) → i < length ds → d ≡ get_or ds i d
    → before ≡ handle_at (name_of d.0) hs → AreCounted hs ds i count → AreCounted hs ds (i + 1) (counted_with before d.1 count)
counted_more hs ds i count d before inside is was are =
    let most = are.most in
    let one = count_most before d.1 count in
    record {
      total = ap (λ r. tally hs (counted_with r d.1 count) (drop (i + 1) ds)) was
          ∙ sym (ap (λ l. tally hs count l) (rest_turn ds i d inside is)) ∙ are.total;
      most = omega (arith, most, one);
    }

pub counted_last : (hs : List Held) (ds : List Change) (i count : ℕ) → length ds ≤ i → IsInOrder hs → AllPairs (λ (a b : Change). label_order a.0 b.0 ≡ Less) ds → AreCounted hs ds i count
    → count ≡ length (with_handles hs ds)
counted_last hs ds i count past o s are = sym (ap (tally hs count) (drop_all i ds past)) ∙ are.total ∙ sym (length_tally hs ds o (ordered_from ds s))

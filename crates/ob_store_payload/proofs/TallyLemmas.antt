-- How many handles there are after changes of them.
use Rattle.std.proofs.Common.{◌≡◌, ◌∙◌, ℕ, ◌+◌, ◌<◌, ◌≤◌, Bool, true, false, cond, List, [], ◌∷◌, length, map, drop, get_or, Option, Some, None, refl, sym, ap, subst, arith}
use Rattle.std.specs.Prelude.{T, fold, ◌&&◌, is_some, option_map, IsTrue}
use Rattle.std.specs.Option.{unwrap_or}
use Rattle.std.specs.Ordering.{is_lt, is_eq, ordering_reverse}
use Rattle.std.specs.FinMap.Entries.{below_all, is_sorted, length-put, length_without}
use Rattle.std.specs.declared.cmp.Ordering.{Ordering}
use Rattle.std.specs.declared.cmp.Ordering.TheVariants.{Less, Equal, Greater}
use Rattle.std.proofs.lemmas.List.{length-map}
use Rattle.ob_base.specs.declared.name.Label.{Label}
use Rattle.ob_heap.specs.Contents.{named_of, name_of, handle_at, IsInOrder}
use Rattle.ob_heap.specs.Deltas.{with_handles}
use Rattle.ob_heap.specs.Plain.{handle_of}
use Rattle.ob_heap.specs.declared.object.Handle.{Handle}
use Rattle.ob_heap.proofs.LookLemmas.{plain_order}
use Rattle.ob_heap_spec.specs.Contents.{HandleName, Handle as PlainHandle, name_order}
use Rattle.ob_heap_spec.specs.Handles.{NamedHandle, without_handle}
use Rattle.ob_heap_spec.proofs.Names.{names_total}
use Rattle.ob_owners.proofs.TurnLemmas.{rest_turn, rest_end}
use Rattle.ob_store_laws.specs.Recorded.{handle_change}
use Rattle.ob_store_laws.proofs.Entries.{sorted_of}
use Rattle.ob_store_laws.proofs.Handles.{Change, InOrder, at, found_changed, sorted_changed, handles_follow, changes_sorted}
use Rattle.ob_store_spec.specs.Changes.{with_change}
use Rattle.ob_store_payload.specs.Conditions.{counted_with, are_in_order}
use Rattle.ob_store_payload.proofs.ConditionLemmas.{HandleChange}
use Rattle.ob_store_payload.proofs.ValueLemmas.{plain_at}

first : (a b : Bool) → T (a && b) → T a
first true b h = tt
first false b h = absurd h

second : (a b : Bool) → T (a && b) → T b
second true b h = h
second false b h = absurd h

less : (o : Ordering) → T (is_lt o) → o ≡ Less
less Less h = refl
less Equal h = absurd h
less Greater h = absurd h

-- so many handles, after changes of those of which there were so many
abbrev pub tally : List NamedHandle → ℕ → List Change → ℕ
tally hs n [] = n
tally hs n (d ∷ ds) = tally hs (counted_with (at d.0 hs) d.1 n) ds

length_changed : (hs : List NamedHandle) (d : Change) → InOrder hs → length (with_change hs d) ≡ counted_with (at d.0 hs) d.1 (length hs)
length_changed hs (n, None) o = by (at n hs) (length (without_handle hs n)) (length_without name_order names_total n hs o)
  where
    by : (r : Option PlainHandle) (left : ℕ) → cond (is_some r) 1 0 + left ≡ length hs → left ≡ counted_with r None (length hs)
    by None left e = omega arith
    by (Some h) left e = omega arith
length_changed hs (n, Some h) o = length-put name_order names_total n h hs o ∙ by (at n hs)
  where
    by : (r : Option PlainHandle) → cond (is_some r) (length hs) (length hs + 1) ≡ counted_with r (Some h) (length hs)
    by None = refl
    by (Some g) = refl

-- a change leaves the handles of other names
found_other : (hs : List NamedHandle) (d : Change) (k : HandleName) → name_order d.0 k ≡ Less → at k (with_change hs d) ≡ at k hs
found_other hs d k before =
    found_changed hs (d ∷ []) k tt
    ∙ ap (λ b. unwrap_or (cond b (Some d.1) None) (at k hs)) (ap is_eq (names_total.antisymm k d.0 ∙ ap ordering_reverse before))

tally_kept : (hs : List NamedHandle) (d : Change) (n : ℕ) (ds : List Change) → T (below_all name_order d.0 ds) → tally (with_change hs d) n ds ≡ tally hs n ds
tally_kept hs d n [] below = refl
tally_kept hs d n (e ∷ es) below =
    ap (λ r. tally (with_change hs d) (counted_with r e.1 n) es)
    (found_other hs d e.0 (less (name_order d.0 e.0) (first (is_lt (name_order d.0 e.0)) (below_all name_order d.0 es) below)))
    ∙ tally_kept hs d (counted_with (at e.0 hs) e.1 n) es (second (is_lt (name_order d.0 e.0)) (below_all name_order d.0 es) below)

length_tally : (hs : List NamedHandle) (ds : List Change) → InOrder hs → InOrder ds → length (fold with_change hs ds) ≡ tally hs (length hs) ds
length_tally hs [] o s = refl
length_tally hs (d ∷ ds) o s =
    length_tally (with_change hs d) ds (sorted_changed hs (d ∷ []) o) (second (below_all name_order d.0 ds) (is_sorted name_order ds) s)
    ∙ ap (λ n. tally (with_change hs d) n ds) (length_changed hs d o)
    ∙ tally_kept hs d (counted_with (at d.0 hs) d.1 (length hs)) ds (first (below_all name_order d.0 ds) (is_sorted name_order ds) s)

-- The handles of a store.

plain_count : (before after : Option Handle) (n : ℕ) → counted_with (option_map handle_of before) (option_map handle_of after) n ≡ counted_with before after n
plain_count None None n = refl
plain_count None (Some x) n = refl
plain_count (Some x) None n = refl
plain_count (Some x) (Some y) n = refl

count_most : (before after : Option Handle) (n : ℕ) → counted_with before after n ≤ n + 1
count_most None None n = omega arith
count_most None (Some x) n = omega arith
count_most (Some x) None n = omega arith
count_most (Some x) (Some y) n = omega arith

-- so many handles after the changes before a place come to as many as there are after all
pub record AreCounted (hs : List ((Label × Label) × Handle)) (ds : List HandleChange) (i count : ℕ) : Type 0 where
  pub total : tally (map named_of hs) count (map handle_change (drop i ds)) ≡ length (with_handles hs ds)
  pub most : count ≤ length hs + i

pub counted_first : (hs : List ((Label × Label) × Handle)) (ds : List HandleChange) → IsInOrder hs → IsTrue (are_in_order ds) → AreCounted hs ds 0 (length hs)
counted_first hs ds o s = record {
  total =
      ap (λ n. tally (map named_of hs) n (map handle_change ds)) (sym (length-map hs named_of))
      ∙ sym (length_tally (map named_of hs) (map handle_change ds) (sorted_of name_order (map named_of hs) (plain_order hs o)) (changes_sorted ds (subst T (sym s) tt)))
      ∙ sym (ap length (handles_follow hs ds)) ∙ length-map (with_handles hs ds) named_of;
  most = omega arith;
}

pub counted_more : (hs : List ((Label × Label) × Handle)) (ds : List HandleChange) (i count : ℕ) (d : HandleChange) (before : Option Handle) → i < length ds → d ≡ get_or ds i d
    → before ≡ handle_at (name_of d.0) hs → AreCounted hs ds i count → AreCounted hs ds (i + 1) (counted_with before d.1 count)
counted_more hs ds i count d before inside is was are =
    let most = are.most in
    let one = count_most before d.1 count in
    record {
      total =
          ap (λ n. tally (map named_of hs) n (map handle_change (drop (i + 1) ds)))
          (sym (plain_count before d.1 count) ∙ ap (λ r. counted_with r (option_map handle_of d.1) count) (ap (option_map handle_of) was ∙ sym (plain_at (name_of d.0) hs)))
          ∙ sym (ap (λ l. tally (map named_of hs) count (map handle_change l)) (rest_turn ds ds i d refl inside is)) ∙ are.total;
      most = omega arith;
    }

pub counted_last : (hs : List ((Label × Label) × Handle)) (ds : List HandleChange) (i count : ℕ) → length ds ≤ i → AreCounted hs ds i count → count ≡ length (with_handles hs ds)
counted_last hs ds i count end are = sym (ap (λ l. tally (map named_of hs) count (map handle_change l)) (rest_end ds ds i refl end)) ∙ are.total

-- Handles that are put, and what differs then.
use lib.Dec.{T}
use Rattle.std.proofs.Common.{◌≡◌, ℕ, zero, suc, ◌<◌, Bool, true, false, cond, List, [], ◌∷◌, length, map, Option, Some, None, refl, sym, ap, subst, ◌∙◌, true≢false, arith}
use Rattle.std.specs.Prelude.{not, ◌&&◌, nat_eq, AllPairs, slice_index_or}
use Rattle.std.specs.Option.{option_map_or, option_or}
use Rattle.std.specs.List.{AllByRecursion}
use Rattle.std.specs.Cmp.{IsTotalOrder}
use Rattle.std.specs.Cmp.Lexicographic.{slice_cmp, bytes_decides}
use Rattle.std.specs.Ordering.{is_eq, is_lt, nat_cmp, ordering_then, ordering_reverse, eq_by_cmp}
use Rattle.std.specs.FinMap.Entries.{find as find_key, below_all, is_sorted, find-put, same_entries}
use Rattle.std.specs.declared.cmp.Ordering.{Ordering}
use Rattle.std.specs.declared.cmp.Ordering.TheVariants.{Less, Equal, Greater}
use Rattle.std.proofs.lemmas.Bool.Decides.{Decides-eqb}
use Rattle.std.proofs.lemmas.Cmp.{on_total}
use Rattle.std.proofs.lemmas.List.Elements.{All-from_recursion}
use Rattle.std.proofs.lemmas.Map.Text.{is_eq-slice_cmp}
use Rattle.ob_base.specs.declared.name.Label.{Label}
use Rattle.ob_base.specs.declared.permission.Mode.{Mode}
use Rattle.ob_base.specs.declared.permission.Mode.TheVariants.{Owned, Shared, Unowned}
use Rattle.ob_heap.specs.declared.object.Handle.{Handle}
use Rattle.ob_heap.specs.Contents.{name_of, named_of, handle_at, IsInOrder, IsBeforeAll}
use Rattle.ob_heap.specs.Deltas.{label_order, with_handle, with_handles}
use Rattle.ob_heap.proofs.HandlesLemmas.{names_total, equal_is}
use Rattle.ob_heap.proofs.DeltasLemmas.{with_handle_order}
use Rattle.ob_heap.proofs.LookLemmas.{plain_with}
use Rattle.ob_heap_spec.specs.Handles.{put_handles}
use Rattle.ob_exec_handles.specs.Parts.{HandlesLead}
use Rattle.ob_exec_handles.specs.Putting.{same_mode, same_handle, stands_so, changes_by, other_puts}

-- a handle with its name, and a change of one
abbrev Held : Type 0
Held = (Label × Label) × Handle

abbrev Change : Type 0
Change = (Label × Label) × Option Handle

-- Names.

labels_total : IsTotalOrder label_order
labels_total = on_total name_of names_total

both_equal : (a b : Ordering) → ordering_then a b ≡ Equal → (a ≡ Equal) × (b ≡ Equal)
both_equal Less b is = absurd cc
both_equal Equal b is = (refl, is)
both_equal Greater b is = absurd cc

same_bytes : (a b : List ℕ) → slice_cmp nat_cmp a b ≡ Equal → a ≡ b
same_bytes a b is = (bytes_decides a b).0 (sym (is_eq-slice_cmp a b) ∙ ap is_eq is)

one_name : (a b : Label × Label) → label_order a b ≡ Equal → a ≡ b
one_name a b is =
    let parts = both_equal (slice_cmp nat_cmp a.0 b.0) (slice_cmp nat_cmp a.1 b.1) is in
    let who = same_bytes a.0 b.0 parts.0 in
    let name = same_bytes a.1 b.1 parts.1 in
    (λ i. (who i, name i))

-- Sameness.

both : (a b : Bool) → (a && b) ≡ true → (a ≡ true) × (b ≡ true)
both true b h = (refl, h)
both false b h = absurd (true≢false (sym h))

mode_is : (a b : Mode) → same_mode a b ≡ true → a ≡ b
mode_is Owned Owned h = refl
mode_is Owned Shared h = absurd (true≢false (sym h))
mode_is Owned Unowned h = absurd (true≢false (sym h))
mode_is Shared Owned h = absurd (true≢false (sym h))
mode_is Shared Shared h = refl
mode_is Shared Unowned h = absurd (true≢false (sym h))
mode_is Unowned Owned h = absurd (true≢false (sym h))
mode_is Unowned Shared h = absurd (true≢false (sym h))
mode_is Unowned Unowned h = refl

mode_itself : (a : Mode) → same_mode a a ≡ true
mode_itself Owned = refl
mode_itself Shared = refl
mode_itself Unowned = refl

handle_is : (a b : Handle) → same_handle a b ≡ true → a ≡ b
handle_is a b h =
    let parts = both (nat_eq a.object.0 b.object.0) (same_mode a.mode b.mode) h in
    let number = (Decides-eqb a.object.0 b.object.0).0 parts.0 in
    let mode = mode_is a.mode b.mode parts.1 in
    (λ i. record { object = record { 0 = number i }; mode = mode i })

handle_itself : (a : Handle) → same_handle a a ≡ true
handle_itself a = ap (λ b. b && same_mode a.mode a.mode) ((Decides-eqb a.object.0 a.object.0).1 refl) ∙ mode_itself a.mode

stands_is : (base : List Held) (k : Held) → stands_so base k ≡ true → handle_at (name_of k.0) base ≡ Some k.1
stands_is base k = by (handle_at (name_of k.0) base)
  where
    by : (r : Option Handle) → option_map_or (λ h. same_handle h k.1) r false ≡ true → r ≡ Some k.1
    by None e = absurd (true≢false (sym e))
    by (Some h) e = ap Some (handle_is h k.1 e)

stands_not : (base : List Held) (k : Held) → stands_so base k ≡ false → ¬ (handle_at (name_of k.0) base ≡ Some k.1)
stands_not base k e is =
    true≢false (sym (ap (λ r. option_map_or (λ h. same_handle h k.1) r false) is ∙ handle_itself k.1) ∙ e)

-- Found by a name.

abbrev at : Label × Label → List Held → Option Handle
at q hs = find_key label_order q hs

turned : (o : Ordering) → is_eq (ordering_reverse o) ≡ is_eq o
turned Less = refl
turned Equal = refl
turned Greater = refl

at_is : (q : Label × Label) (hs : List Held) → handle_at (name_of q) hs ≡ at q hs
at_is q [] = refl
at_is q (h ∷ hs) =
    ap (λ b. cond b (Some h.1) (handle_at (name_of q) hs)) (ap is_eq (labels_total.antisymm h.0 q) ∙ turned (label_order q h.0))
    ∙ ap (λ r. cond (eq_by_cmp label_order q h.0) (Some h.1) r) (at_is q hs)

none_before : (n : Label × Label) (hs : List Held) → IsBeforeAll n hs → at n hs ≡ None
none_before n [] b = refl
none_before n (h ∷ hs) b = ap (λ o. cond (is_eq o) (Some h.1) (at n hs)) b.0 ∙ none_before n hs b.1

named : (q n : Label × Label) → eq_by_cmp label_order q n ≡ true → q ≡ n
named q n e = one_name q n (equal_is (label_order q n) e)

none_named : (q n : Label × Label) (hs : List Held) → eq_by_cmp label_order q n ≡ true → IsBeforeAll n hs → at q hs ≡ None
none_named q n hs e b = ap (λ k. at k hs) (named q n e) ∙ none_before n hs b

-- Order.

below : (n : Label × Label) (hs : List Held) → IsBeforeAll n hs → T (below_all label_order n hs)
below n [] b = tt
below n (h ∷ hs) b = subst (λ o. T (is_lt o && below_all label_order n hs)) (sym b.0) (below n hs b.1)

sorted : (hs : List Held) → IsInOrder hs → T (is_sorted label_order hs)
sorted [] o = tt
sorted (h ∷ hs) o = by (below_all label_order h.0 hs) (is_sorted label_order hs) (below h.0 hs o.0) (sorted hs o.1)
  where
    by : (a b : Bool) → T a → T b → T (a && b)
    by true b p q = q
    by false b p q = p

order_after : (ps hs : List Held) → IsInOrder hs → IsInOrder (with_handles hs (changes_by ps))
order_after [] hs o = o
order_after (p ∷ ps) hs o = order_after ps (with_handle p.0 p.1 hs) (with_handle_order p.0 p.1 hs o)

before_others : (base : List Held) (n : Label × Label) (hs : List Held) → IsBeforeAll n hs → IsBeforeAll n (other_puts base hs)
before_others base n [] b = tt
before_others base n (h ∷ hs) b = by (not (stands_so base h)) (before_others base n hs b.1)
  where
    by : (t : Bool) → IsBeforeAll n (other_puts base hs) → IsBeforeAll n (cond t (h ∷ other_puts base hs) (other_puts base hs))
    by true r = (b.0, r)
    by false r = r

others_order : (base hs : List Held) → IsInOrder hs → IsInOrder (other_puts base hs)
others_order base [] o = tt
others_order base (h ∷ hs) o = by (not (stands_so base h)) (others_order base hs o.1)
  where
    by : (t : Bool) → IsInOrder (other_puts base hs) → IsInOrder (cond t (h ∷ other_puts base hs) (other_puts base hs))
    by true r = (before_others base h.0 hs o.0, r)
    by false r = r

before_each : (n : Label × Label) (hs : List Held) (j : ℕ) (d : Change) → IsBeforeAll n hs → j < length (changes_by hs)
    → label_order n (slice_index_or (changes_by hs) j d).0 ≡ Less
before_each n [] j d b l = absurd (omega arith)
before_each n (h ∷ hs) zero d b l = b.0
before_each n (h ∷ hs) (suc j) d b l = before_each n hs j d b.1 (omega arith)

pairs : (hs : List Held) → IsInOrder hs → AllPairs (λ (a b : Change). label_order a.0 b.0 ≡ Less) (changes_by hs)
pairs [] o i j d l h = absurd (omega arith)
pairs (y ∷ hs) o zero zero d l h = absurd (omega arith)
pairs (y ∷ hs) o zero (suc j) d l h = before_each y.0 hs j d o.0 (omega arith)
pairs (y ∷ hs) o (suc i) zero d l h = absurd (omega arith)
pairs (y ∷ hs) o (suc i) (suc j) d l h = pairs hs o.1 i j d (omega arith) (omega arith)

-- What is found after puts.

swapped : (b : Bool) (v : Handle) (x y : Option Handle) → cond b (Some v) (option_or x y) ≡ option_or (cond b (Some v) x) y
swapped true v x y = refl
swapped false v x y = refl

-- a name denotes what is put, or else what it denoted
put_over : (ps xs ys zs : List Held) → ((q : Label × Label) → at q xs ≡ option_or (at q ys) (at q zs)) → (q : Label × Label)
    → at q (with_handles xs (changes_by ps)) ≡ option_or (at q (with_handles ys (changes_by ps))) (at q zs)
put_over [] xs ys zs h q = h q
put_over (p ∷ ps) xs ys zs h q = put_over ps (with_handle p.0 p.1 xs) (with_handle p.0 p.1 ys) zs (λ r.
    find-put label_order labels_total r p.0 p.1 xs
    ∙ ap (λ o. cond (eq_by_cmp label_order r p.0) (Some p.1) o) (h r)
    ∙ swapped (eq_by_cmp label_order r p.0) p.1 (at r ys) (at r zs)
    ∙ ap (λ o. option_or o (at r zs)) (sym (find-put label_order labels_total r p.0 p.1 ys))) q

-- the same of puts in the order of their names, each once
each_over : (ks : List Held) → IsInOrder ks → (hs : List Held) (q : Label × Label)
    → at q (with_handles hs (changes_by ks)) ≡ option_or (at q ks) (at q hs)
each_over [] o hs q = refl
each_over (k ∷ ks) o hs q =
    each_over ks o.1 (with_handle k.0 k.1 hs) q
    ∙ ap (λ r. option_or (at q ks) r) (find-put label_order labels_total q k.0 k.1 hs)
    ∙ by (eq_by_cmp label_order q k.0) refl
  where
    by : (b : Bool) → eq_by_cmp label_order q k.0 ≡ b
        → option_or (at q ks) (cond b (Some k.1) (at q hs)) ≡ option_or (cond b (Some k.1) (at q ks)) (at q hs)
    by false e = refl
    by true e = ap (λ r. option_or r (Some k.1)) (none_named q k.0 ks e o.0)

-- those that change nothing aren't missed
others_over : (base ks : List Held) → IsInOrder ks → (q : Label × Label)
    → option_or (at q (other_puts base ks)) (at q base) ≡ option_or (at q ks) (at q base)
others_over base [] o q = refl
others_over base (k ∷ ks) o q = by (eq_by_cmp label_order q k.0) (stands_so base k) refl refl (others_over base ks o.1 q)
  where
    by : (b s : Bool) → eq_by_cmp label_order q k.0 ≡ b → stands_so base k ≡ s
        → option_or (at q (other_puts base ks)) (at q base) ≡ option_or (at q ks) (at q base)
        → option_or (at q (cond (not s) (k ∷ other_puts base ks) (other_puts base ks))) (at q base)
        ≡ option_or (cond b (Some k.1) (at q ks)) (at q base)
    by false true e f rest = rest
    by false false e f rest = ap (λ b. option_or (cond b (Some k.1) (at q (other_puts base ks))) (at q base)) e ∙ rest
    by true false e f rest = ap (λ b. option_or (cond b (Some k.1) (at q (other_puts base ks))) (at q base)) e
    by true true e f rest =
        ap (λ r. option_or r (at q base)) (none_named q k.0 (other_puts base ks) e (before_others base k.0 ks o.0))
        ∙ ap (λ n. at n base) (named q k.0 e) ∙ sym (at_is k.0 base) ∙ stands_is base k f

-- Just what differs.

abbrev Changed : List Held → Change → Type 0
Changed base e = ¬ (handle_at (name_of e.0) base ≡ e.1)

others_change : (base ks : List Held) → AllByRecursion (Changed base) (changes_by (other_puts base ks))
others_change base [] = tt
others_change base (k ∷ ks) = by (stands_so base k) refl (others_change base ks)
  where
    by : (s : Bool) → stands_so base k ≡ s → AllByRecursion (Changed base) (changes_by (other_puts base ks))
        → AllByRecursion (Changed base) (changes_by (cond (not s) (k ∷ other_puts base ks) (other_puts base ks)))
    by true e r = r
    by false e r = (stands_not base k e, r)

puts_follow : (ps hs : List Held) → map named_of (with_handles hs (changes_by ps)) ≡ put_handles (map named_of hs) (map named_of ps)
puts_follow [] hs = refl
puts_follow (p ∷ ps) hs = puts_follow ps (with_handle p.0 p.1 hs) ∙ ap (λ xs. put_handles xs (map named_of ps)) (plain_with p.0 p.1 hs)

others_lead : (base last puts : List Held) → IsInOrder base → IsInOrder last → last ≡ with_handles [] (changes_by puts)
    → with_handles base (changes_by (other_puts base last)) ≡ with_handles base (changes_by puts)
others_lead base last puts ob ol is =
    same_entries label_order labels_total one_name (with_handles base (changes_by (other_puts base last))) (with_handles base (changes_by puts))
    (sorted _ (order_after (other_puts base last) base ob)) (sorted _ (order_after puts base ob)) (λ q.
    each_over (other_puts base last) (others_order base last ol) base q ∙ others_over base last ol q
    ∙ ap (λ hs. option_or (at q hs) (at q base)) is
    ∙ sym (put_over puts base [] base (λ r. refl) q))

pub puts_lead : (base last puts : List Held) (changes : List Change) → IsInOrder base → IsInOrder last → last ≡ with_handles [] (changes_by puts)
    → changes ≡ changes_by (other_puts base last) → HandlesLead base changes (put_handles (map named_of base) (map named_of puts))
puts_lead base last puts changes ob ol is e =
    subst (λ cs. HandlesLead base cs (put_handles (map named_of base) (map named_of puts))) (sym e) (record {
      order = pairs (other_puts base last) (others_order base last ol);
      is = ap (map named_of) (others_lead base last puts ob ol is) ∙ puts_follow puts base;
      others = All-from_recursion (Changed base) (changes_by (other_puts base last)) (others_change base last);
    })

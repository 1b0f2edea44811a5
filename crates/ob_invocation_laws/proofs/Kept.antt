-- How many owners handles carry where some are put: those that are kept, and the last that is put under each name.
use Rattle.std.proofs.Common.{◌≡◌, ◌∙◌, ℕ, ◌+◌, Bool, true, false, List, [], ◌∷◌, Option, Some, None, refl, sym, ap, arith}
use Rattle.std.specs.Prelude.{cond, not, ◌||◌, if◌then◌else◌, AllPairs}
use Rattle.std.specs.Ordering.{is_eq, eq_by_cmp}
use Rattle.std.specs.declared.cmp.Ordering.{Ordering}
use Rattle.std.specs.declared.cmp.Ordering.TheVariants.{Less, Equal, Greater}
use Rattle.std.specs.FinMap.Entries.{find as find_key, where_key, by_order, find-where_key}
use Rattle.std.proofs.lemmas.List.Kept.{AllPairs-filter}
use Rattle.ob_heap_spec.specs.Contents.{HandleName, Handle, name_order}
use Rattle.ob_heap_spec.specs.Handles.{NamedHandle, put_handle, put_handles, without_handle}
use Rattle.ob_heap_spec.proofs.Names.{one_name}
use Rattle.ob_rest_laws.specs.Laws.{handle_owners}
use Rattle.ob_invocation_laws.specs.Laws.{owners_in, is_put, kept_handles, put_owners}
use Rattle.ob_invocation_laws.proofs.Handles.{Before, tail_pairs, put_in_order}
use Rattle.ob_invocation_laws.proofs.Owners.{counted, not_found, before_others, gone_counts}

-- Names.

is_equal : (o : Ordering) → is_eq o ≡ true → o ≡ Equal
is_equal Less is = absurd cc
is_equal Equal is = refl
is_equal Greater is = absurd cc

pub one_name_tested : (a b : HandleName) → eq_by_cmp name_order a b ≡ true → a ≡ b
one_name_tested a b is = one_name a b (is_equal (name_order a b) is)

-- Owners in the handles whose names pass a test.

-- the owners in a handle under a name that passes
abbrev owners_if : Bool → ℕ → Option Handle → ℕ
owners_if b n h = if b then owners_in n h else 0

module _ (test : HandleName → Bool) (n : ℕ) where
  -- the handles that pass
  abbrev passing : List NamedHandle → List NamedHandle
  passing handles = where_key name_order test handles

  passing_counted : (h : NamedHandle) (handles : List NamedHandle)
      → handle_owners (passing (h ∷ handles)) n
      ≡ owners_if (test h.0) n (Some h.1) + handle_owners (passing handles) n
  passing_counted h handles = either (test h.0) refl
    where
      either : (b : Bool) → test h.0 ≡ b → handle_owners (cond b (h ∷ passing handles) (passing handles)) n
          ≡ owners_if b n (Some h.1) + handle_owners (passing handles) n
      either true is = counted n h (passing handles)
      either false is = omega arith

  none_if : (b : Bool) (found : Option Handle) → found ≡ None → owners_if b n found ≡ 0
  none_if true found is = rw is refl
  none_if false found is = refl

  -- a handle that is put, by where its name stands
  put_at : (g h : NamedHandle) (handles : List NamedHandle) → AllPairs Before (g ∷ handles)
      → handle_owners (passing (put_handle handles h)) n + owners_if (test h.0) n (find_key name_order h.0 handles)
      ≡ handle_owners (passing handles) n + owners_if (test h.0) n (Some h.1)
      → (o : Ordering) → name_order h.0 g.0 ≡ o
      → handle_owners
      (passing (by_order o (h ∷ g ∷ handles) ((g.0, h.1) ∷ handles) (g ∷ put_handle handles h))) n
      + owners_if (test h.0) n (cond (is_eq o) (Some g.1) (find_key name_order h.0 handles))
      ≡ handle_owners (passing (g ∷ handles)) n + owners_if (test h.0) n (Some h.1)
  put_at g h handles pairs more Less is =
      let none = none_if (test h.0) (find_key name_order h.0 handles)
      (not_found h.0 handles (before_others h.0 g handles pairs is)) in
      let first = passing_counted h (g ∷ handles) in
      omega (arith, none, first)
  put_at g h handles pairs more Equal is =
      let new = passing_counted (g.0, h.1) handles in
      let old = passing_counted g handles in
      let same = one_name h.0 g.0 is in
      let new_test = ap (λ name. owners_if (test name) n (Some h.1)) same in
      let old_test = ap (λ name. owners_if (test name) n (Some g.1)) same in
      omega (arith, new, old, new_test, old_test)
  put_at g h handles pairs more Greater is =
      let new = passing_counted g (put_handle handles h) in
      let old = passing_counted g handles in
      omega (arith, new, old, more)

  -- a handle that is put takes the place of the one of its name
  pub passing_put : (handles : List NamedHandle) (h : NamedHandle) → AllPairs Before handles
      → handle_owners (passing (put_handle handles h)) n + owners_if (test h.0) n (find_key name_order h.0 handles)
      ≡ handle_owners (passing handles) n + owners_if (test h.0) n (Some h.1)
  passing_put [] h pairs = let first = passing_counted h [] in let none = none_if (test h.0) None refl in
      omega (arith, first, none)
  passing_put (g ∷ handles) h pairs =
      put_at g h handles pairs (passing_put handles h (tail_pairs g handles pairs)) (name_order h.0 g.0) refl

  found_if : (b : Bool) (found : Option Handle) → owners_in n (cond b found None) ≡ owners_if b n found
  found_if true found = refl
  found_if false found = refl

  -- without a handle that passes
  pub passing_gone : (handles : List NamedHandle) (name : HandleName) → AllPairs Before handles
      → handle_owners (without_handle (passing handles) name) n
      + owners_if (test name) n (find_key name_order name handles)
      ≡ handle_owners (passing handles) n
  passing_gone handles name pairs =
      let gone = gone_counts n (passing handles) name (AllPairs-filter Before (λ h. test h.0) handles pairs) in
      let found = find-where_key name_order test name
      (λ other same. ap test (sym (one_name name other same))) handles in
      let at = ap (owners_in n) found ∙ found_if (test name) (find_key name_order name handles) in
      omega (arith, gone, at)

-- The handles that are kept.

-- without those of a first name, and those of others
kept_then : (name : HandleName) (puts handles : List NamedHandle)
    → without_handle (kept_handles handles puts) name
    ≡ where_key name_order (λ other. not (eq_by_cmp name_order name other || is_put puts other)) handles
kept_then name puts [] = refl
kept_then name puts (h ∷ handles) =
    either (eq_by_cmp name_order name h.0) (is_put puts h.0) refl (kept_then name puts handles)
  where
    either : (a b : Bool) → eq_by_cmp name_order name h.0 ≡ a
        → without_handle (kept_handles handles puts) name
        ≡ where_key name_order (λ other. not (eq_by_cmp name_order name other || is_put puts other)) handles
        → without_handle (cond (not b) (h ∷ kept_handles handles puts) (kept_handles handles puts)) name
        ≡ cond (not (a || b))
        (h ∷ where_key name_order (λ other. not (eq_by_cmp name_order name other || is_put puts other)) handles)
        (where_key name_order (λ other. not (eq_by_cmp name_order name other || is_put puts other)) handles)
    either true true is rest = rest
    either true false is rest = rw is rest
    either false true is rest = rest
    either false false is rest = rw is (ap (λ xs. h ∷ xs) rest)

-- the test of the handles that are kept
abbrev is_kept : List NamedHandle → HandleName → Bool
is_kept puts name = not (is_put puts name)

turned : (b : Bool) (n : ℕ) (h : Handle) → owners_if (not b) n (Some h) ≡ (if b then 0 else owners_in n (Some h))
turned true n h = refl
turned false n h = refl

-- owners where handles are put: those of the handles that are kept, and of the last that is put under each name
pub puts_count : (n : ℕ) (handles puts : List NamedHandle) → AllPairs Before handles
    → handle_owners (put_handles handles puts) n ≡ handle_owners (kept_handles handles puts) n + put_owners puts n
puts_count n handles [] pairs = let all = all_passing handles in omega (arith, ap (λ hs. handle_owners hs n) all)
  where
    all_passing : (hs : List NamedHandle) → kept_handles hs [] ≡ hs
    all_passing [] = refl
    all_passing (h ∷ hs) = ap (λ xs. h ∷ xs) (all_passing hs)
puts_count n handles (h ∷ puts) pairs =
    let rest = puts_count n (put_handle handles h) puts (put_in_order handles h pairs) in
    let put = passing_put (is_kept puts) n handles h pairs in
    let gone = passing_gone (is_kept puts) n handles h.0 pairs in
    let kept = ap (λ hs. handle_owners hs n) (kept_then h.0 puts handles) in
    let last = turned (is_put puts h.0) n h.1 in
    omega (arith, rest, put, gone, kept, last)

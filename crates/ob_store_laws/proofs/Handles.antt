-- Handles after changes, and what differs then.
use Rattle.std.proofs.Common.{◌≡◌, ◌∙◌, Bool, true, false, cond, List, [], ◌∷◌, map, Option, Some, None, refl, sym, ap, subst}
use Rattle.std.specs.Prelude.{T, not, fold, filter, option_map}
use Rattle.std.specs.Option.{unwrap_or, option_or}
use Rattle.std.specs.Ordering.{is_eq, eq_by_cmp, ordering_reverse}
use Rattle.std.specs.FinMap.Entries.{find as find_key, is_sorted, is_sorted-put, is_sorted-where_key, find-put, find-where_key, same_entries}
use Rattle.std.specs.declared.cmp.Ordering.{Ordering}
use Rattle.std.specs.declared.cmp.Ordering.TheVariants.{Less, Equal, Greater}
use Rattle.std.proofs.lemmas.Slice.Eq.{bytes_eq-Decides}
use Rattle.ob_base.specs.declared.name.Label.{Label}
use Rattle.ob_heap.specs.declared.object.Handle.{Handle}
use Rattle.ob_heap.specs.Contents.{named_of, name_of}
use Rattle.ob_heap.specs.Deltas.{label_order, with_handles}
use Rattle.ob_heap.specs.Deltas as kept
use Rattle.ob_heap.proofs.LookLemmas.{plain_with, plain_without}
use Rattle.ob_heap_spec.specs.Contents.{HandleName, Handle as PlainHandle, Content, name_order}
use Rattle.ob_heap_spec.specs.Handles.{NamedHandle, put_handle, put_handles}
use Rattle.ob_heap_spec.proofs.Names.{names_total}
use Rattle.ob_heap_spec.proofs.Names.{one_name}
use Rattle.ob_store_spec.specs.Payloads.{held}
use Rattle.ob_store_spec.specs.Changes.{with_change}
use Rattle.ob_store_spec.specs.Between.{is_held_so}
use Rattle.ob_store_laws.specs.Recorded.{handle_change}
use Rattle.ob_store_laws.proofs.Entries.{passing, none_behind, rest_sorted, find-filter, find-map, sorted_filter, sorted_map}

-- a change of a handle
abbrev pub Change : Type 0
Change = HandleName × Option PlainHandle

-- the handle of a name
abbrev pub at : HandleName → List NamedHandle → Option PlainHandle
at k hs = find_key name_order k hs

-- what is said of a name
abbrev pub said : HandleName → List Change → Option (Option PlainHandle)
said k ds = find_key name_order k ds

-- handles, or changes of them, stand in the order of their names
abbrev pub InOrder : {X : Type 0} → List (HandleName × X) → Type 0
InOrder es = T (is_sorted name_order es)

-- After changes.

turned : (o : Ordering) → is_eq (ordering_reverse o) ≡ is_eq o
turned Less = refl
turned Equal = refl
turned Greater = refl

flip : (a b : HandleName) → eq_by_cmp name_order a b ≡ eq_by_cmp name_order b a
flip a b = ap is_eq (names_total.antisymm a b) ∙ turned (name_order b a)

found_after : (hs : List NamedHandle) (d : Change) (k : HandleName) → at k (with_change hs d) ≡ cond (eq_by_cmp name_order k d.0) d.1 (at k hs)
found_after hs (n, None) k =
    find-where_key name_order (λ other. not (eq_by_cmp name_order n other)) k
    (λ other same. ap (λ x. not (eq_by_cmp name_order n x)) (sym (one_name k other same))) hs
    ∙ ap (λ b. cond (not b) (at k hs) None) (flip n k) ∙ by (eq_by_cmp name_order k n)
  where
    by : (b : Bool) → cond (not b) (at k hs) None ≡ cond b None (at k hs)
    by true = refl
    by false = refl
found_after hs (n, Some h) k = find-put name_order names_total k n h hs

sorted_after : (hs : List NamedHandle) (d : Change) → InOrder hs → InOrder (with_change hs d)
sorted_after hs (n, None) o = is_sorted-where_key name_order (λ other. not (eq_by_cmp name_order n other)) hs o
sorted_after hs (n, Some h) o = is_sorted-put name_order names_total n h hs o

-- a name denotes what changes say of it, or else what it denoted
pub found_changed : (hs : List NamedHandle) (ds : List Change) (k : HandleName) → InOrder ds
    → at k (fold with_change hs ds) ≡ unwrap_or (said k ds) (at k hs)
found_changed hs [] k o = refl
found_changed hs (d ∷ ds) k o =
    found_changed (with_change hs d) ds k (rest_sorted name_order d ds o)
    ∙ ap (λ r. unwrap_or (said k ds) r) (found_after hs d k) ∙ by (eq_by_cmp name_order k d.0) refl
  where
    by : (b : Bool) → eq_by_cmp name_order k d.0 ≡ b → unwrap_or (said k ds) (cond b d.1 (at k hs)) ≡ unwrap_or (cond b (Some d.1) (said k ds)) (at k hs)
    by true is = ap (λ r. unwrap_or r d.1) (none_behind name_order one_name k d ds is o)
    by false is = refl

pub sorted_changed : (hs : List NamedHandle) (ds : List Change) → InOrder hs → InOrder (fold with_change hs ds)
sorted_changed hs [] o = o
sorted_changed hs (d ∷ ds) o = sorted_changed (with_change hs d) ds (sorted_after hs d o)

-- The handles of both contents.

found_put : (hs ps : List NamedHandle) (k : HandleName) → InOrder ps → at k (put_handles hs ps) ≡ option_or (at k ps) (at k hs)
found_put hs [] k o = refl
found_put hs (p ∷ ps) k o =
    found_put (put_handle hs p) ps k (rest_sorted name_order p ps o)
    ∙ ap (λ r. option_or (at k ps) r) (find-put name_order names_total k p.0 p.1 hs) ∙ by (eq_by_cmp name_order k p.0) refl
  where
    by : (b : Bool) → eq_by_cmp name_order k p.0 ≡ b → option_or (at k ps) (cond b (Some p.1) (at k hs)) ≡ option_or (cond b (Some p.1) (at k ps)) (at k hs)
    by true is = ap (λ r. option_or r (Some p.1)) (none_behind name_order one_name k p ps is o)
    by false is = refl

sorted_put : (hs ps : List NamedHandle) → InOrder hs → InOrder (put_handles hs ps)
sorted_put hs [] o = o
sorted_put hs (p ∷ ps) o = sorted_put (put_handle hs p) ps (is_sorted-put name_order names_total p.0 p.1 hs o)

-- the names of both, each with what it denotes in the second
abbrev pub of_both : List NamedHandle → List NamedHandle → List Change
of_both before after = map (λ h. (h.0, at h.0 after)) (put_handles before after)

pub found_both : (before after : List NamedHandle) (k : HandleName) → InOrder after
    → said k (of_both before after) ≡ option_map (λ h. at k after) (option_or (at k after) (at k before))
found_both before after k o =
    find-map name_order one_name (λ n. at n after) k (put_handles before after) ∙ ap (option_map (λ h. at k after)) (found_put before after k o)

pub sorted_both : (before after : List NamedHandle) → InOrder before → InOrder (of_both before after)
sorted_both before after o =
    subst T (sorted_map name_order name_order (λ (h : NamedHandle). (h.0, at h.0 after)) (λ n. n) (λ h. refl) (λ a b. refl) (put_handles before after))
    (sorted_put before after o)

-- What changes say anew is what differs.

module _ (before : Content) where
  -- whether a change says something else than the content does
  abbrev pub is_new : Change → Bool
  is_new h = not (is_held_so before h)

  pub nothing_new : (k : HandleName) → is_new (k, at k before.handles) ≡ false
  nothing_new k = ap not ((bytes_eq-Decides (held.bytes (at k before.handles)) (held.bytes (at k before.handles))).1 refl)

  pub news_differ : (ds : List Change) → InOrder before.handles → InOrder ds
      → filter is_new ds ≡ filter is_new (of_both before.handles (fold with_change before.handles ds))
  news_differ ds o s =
      same_entries name_order names_total one_name (filter is_new ds) (filter is_new (of_both before.handles after))
      (sorted_filter name_order is_new ds s) (sorted_filter name_order is_new (of_both before.handles after) (sorted_both before.handles after o)) (λ k.
      find-filter name_order one_name is_new k ds s
      ∙ by k (said k ds) (at k before.handles) (nothing_new k)
      ∙ sym (ap (λ r. passing name_order one_name is_new k (option_map (λ h. r) (option_or r (at k before.handles)))) (found_changed before.handles ds k s))
      ∙ sym (ap (passing name_order one_name is_new k) (found_both before.handles after k (sorted_changed before.handles ds o)))
      ∙ sym (find-filter name_order one_name is_new k (of_both before.handles after) (sorted_both before.handles after o)))
    where
      after : List NamedHandle
      after = fold with_change before.handles ds

      by : (k : HandleName) (r : Option (Option PlainHandle)) (b : Option PlainHandle) → is_new (k, b) ≡ false
          → passing name_order one_name is_new k r
          ≡ passing name_order one_name is_new k (option_map (λ (h : PlainHandle). unwrap_or r b) (option_or (unwrap_or r b) b))
      by k None None same = refl
      by k None (Some h) same = sym (ap (λ t. cond t (Some (Some h)) None) same)
      by k (Some None) None same = ap (λ t. cond t (Some None) None) same
      by k (Some None) (Some h) same = refl
      by k (Some (Some g)) b same = refl

-- A delta's handles are such changes.

pub handles_follow : (hs : List ((Label × Label) × Handle)) (ds : List ((Label × Label) × Option Handle))
    → map named_of (with_handles hs ds) ≡ fold with_change (map named_of hs) (map handle_change ds)
handles_follow hs [] = refl
handles_follow hs (d ∷ ds) =
    handles_follow (kept.with_change d.0 d.1 hs) ds ∙ ap (λ xs. fold with_change xs (map handle_change ds)) (by d)
  where
    by : (d : (Label × Label) × Option Handle) → map named_of (kept.with_change d.0 d.1 hs) ≡ with_change (map named_of hs) (handle_change d)
    by (n, None) = plain_without n hs
    by (n, Some h) = plain_with n h hs

pub changes_sorted : (ds : List ((Label × Label) × Option Handle)) → T (is_sorted label_order ds) → InOrder (map handle_change ds)
changes_sorted ds s = subst T (sorted_map label_order name_order handle_change name_of (λ d. refl) (λ a b. refl) ds) s

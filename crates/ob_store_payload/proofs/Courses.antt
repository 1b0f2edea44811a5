-- How the handles after changes are written.
use Rattle.std.proofs.Common.{◌≡◌, ◌∙◌, ℕ, ◌+◌, ◌-◌, ◌<◌, ◌≤◌, Bool, true, false, List, [], ◌∷◌, ◌++◌, length, map, take, drop, get_or, cond, Some, None, refl, sym, ap, subst, append_assoc, append-nil, length-drop, arith}
use Rattle.std.specs.Prelude.{T, not, fold, AllPairs, IsTrue}
use Rattle.std.specs.Ordering.{is_lt, is_eq, ordering_reverse}
use Rattle.std.specs.FinMap.Entries.{by_order, below_all, is_sorted}
use Rattle.std.specs.declared.cmp.Ordering.TheVariants.{Less, Equal, Greater}
use Rattle.std.proofs.lemmas.List.{map-append, take_all, drop_all, length-map}
use Rattle.ob_base.specs.Bytes.{u32_bytes}
use Rattle.ob_format_spec.specs.Combinators.{each_bytes, counted}
use Rattle.ob_heap.specs.Blocks.{joined}
use Rattle.ob_heap.specs.Contents.{named_of, IsInOrder}
use Rattle.ob_heap.specs.Deltas.{label_order, with_handles}
use Rattle.ob_heap.proofs.LookLemmas.{plain_order}
use Rattle.ob_heap_spec.specs.Contents.{HandleName, name_order}
use Rattle.ob_heap_spec.specs.Handles.{NamedHandle, put_handle, without_handle}
use Rattle.ob_heap_spec.proofs.Names.{names_total, one_name}
use Rattle.ob_owners.proofs.TurnLemmas.{rest_turn}
use Rattle.ob_store_laws.specs.Recorded.{handle_change}
use Rattle.ob_store_laws.proofs.Entries.{both, parts, less, first_below, rest_sorted, sorted_of}
use Rattle.ob_store_laws.proofs.Handles.{Change, InOrder, handles_follow, changes_sorted}
use Rattle.ob_store_spec.specs.Payloads.{handle}
use Rattle.ob_store_spec.specs.Changes.{with_change}
use Rattle.ob_store_payload.specs.Conditions.{are_in_order}
use Rattle.ob_store_payload.specs.Whole.{handle_rows, left_by, Course, GoesOn, KeptHandle, KeptChange, course}
use Rattle.ob_store_payload.proofs.RowLemmas.{each_bytes-append}

-- Rows.

rows_both : (xs ys : List NamedHandle) → handle_rows (xs ++ ys) ≡ handle_rows xs ++ handle_rows ys
rows_both xs ys =
    ap (each_bytes handle.bytes) (map-append (λ (h : NamedHandle). (h.0, Some h.1)) xs ys)
    ∙ each_bytes-append handle.bytes (map (λ (h : NamedHandle). (h.0, Some h.1)) xs) (map (λ (h : NamedHandle). (h.0, Some h.1)) ys)

-- once the first rows are written, the others are to come
written_on : (old new : List ℕ) (xs ys zs : List NamedHandle) → xs ≡ ys ++ zs → new ≡ old ++ handle_rows ys → old ++ handle_rows xs ≡ new ++ handle_rows zs
written_on old new xs ys zs is put =
    ap (λ l. old ++ handle_rows l) is ∙ ap (λ l. old ++ l) (rows_both ys zs) ∙ sym (append_assoc old (handle_rows ys) (handle_rows zs))
    ∙ ap (λ l. l ++ handle_rows zs) (sym put)

-- Names in order.

after_name : (a b : HandleName) → name_order a b ≡ Less → name_order b a ≡ Greater
after_name a b is = names_total.antisymm b a ∙ ap ordering_reverse is

before_name : (a b : HandleName) → name_order a b ≡ Greater → name_order b a ≡ Less
before_name a b is = names_total.antisymm b a ∙ ap ordering_reverse is

-- a name before another comes before those behind that
below_later : {X : Type 0} (n k : HandleName) (es : List (HandleName × X)) → name_order n k ≡ Less → T (below_all name_order k es) → T (below_all name_order n es)
below_later n k [] before below = tt
below_later n k (e ∷ es) before below =
    let p = parts (is_lt (name_order k e.0)) (below_all name_order k es) below in
    let later = names_total.trans n k e.0 before (less (name_order k e.0) p.0) in
    both (is_lt (name_order n e.0)) (below_all name_order n es) (subst (λ o. T (is_lt o)) (sym later) tt) (below_later n k es before p.1)

below_first : {X : Type 0} (n : HandleName) (e : HandleName × X) (es : List (HandleName × X)) → name_order n e.0 ≡ Less → InOrder (e ∷ es)
    → T (below_all name_order n (e ∷ es))
below_first n e es before o =
    both (is_lt (name_order n e.0)) (below_all name_order n es) (subst (λ r. T (is_lt r)) (sym before) tt)
    (below_later n e.0 es before (first_below name_order e es o))

-- Handles after changes.

-- a change of a later name
passes : (x : NamedHandle) (hs : List NamedHandle) (d : Change) → name_order x.0 d.0 ≡ Less → with_change (x ∷ hs) d ≡ x ∷ with_change hs d
passes x hs (n, None) before = ap (λ o. cond (not (is_eq o)) (x ∷ without_handle hs n) (without_handle hs n)) (after_name x.0 n before)
passes x hs (n, Some h) before = ap (λ o. by_order o ((n, h) ∷ x ∷ hs) ((x.0, h) ∷ hs) (x ∷ put_handle hs (n, h))) (after_name x.0 n before)

passes_all : (x : NamedHandle) (hs : List NamedHandle) (ds : List Change) → T (below_all name_order x.0 ds)
    → fold with_change (x ∷ hs) ds ≡ x ∷ fold with_change hs ds
passes_all x hs [] below = refl
passes_all x hs (d ∷ ds) below =
    let p = parts (is_lt (name_order x.0 d.0)) (below_all name_order x.0 ds) below in
    ap (λ l. fold with_change l ds) (passes x hs d (less (name_order x.0 d.0) p.0)) ∙ passes_all x (with_change hs d) ds p.1

-- the removal of a name before all
kept_without : (n : HandleName) (hs : List NamedHandle) → T (below_all name_order n hs) → without_handle hs n ≡ hs
kept_without n [] below = refl
kept_without n (h ∷ hs) below =
    let p = parts (is_lt (name_order n h.0)) (below_all name_order n hs) below in
    ap (λ o. cond (not (is_eq o)) (h ∷ without_handle hs n) (without_handle hs n)) (less (name_order n h.0) p.0) ∙ ap (λ l. h ∷ l) (kept_without n hs p.1)

-- what a change before all other names leaves stays in front
left_first : (d : Change) (hs : List NamedHandle) (ds : List Change) → InOrder (d ∷ ds)
    → fold with_change (left_by d ++ hs) ds ≡ left_by d ++ fold with_change hs ds
left_first (n, None) hs ds s = refl
left_first (n, Some h) hs ds s = passes_all (n, h) hs ds (first_below name_order (n, Some h) ds s)

changed_before : (h : NamedHandle) (hs : List NamedHandle) (d : Change) → name_order d.0 h.0 ≡ Less → InOrder (h ∷ hs)
    → with_change (h ∷ hs) d ≡ left_by d ++ (h ∷ hs)
changed_before h hs (n, None) before o = kept_without n (h ∷ hs) (below_first n h hs before o)
changed_before h hs (n, Some v) before o = ap (λ r. by_order r ((n, v) ∷ h ∷ hs) ((h.0, v) ∷ hs) (h ∷ put_handle hs (n, v))) before

changed_same : (h : NamedHandle) (hs : List NamedHandle) (d : Change) → name_order d.0 h.0 ≡ Equal → InOrder (h ∷ hs)
    → with_change (h ∷ hs) d ≡ left_by d ++ hs
changed_same h hs (n, None) same o =
    ap (λ r. cond (not (is_eq r)) (h ∷ without_handle hs n) (without_handle hs n)) same
    ∙ kept_without n hs (subst (λ k. T (below_all name_order k hs)) (sym (one_name n h.0 same)) (first_below name_order h hs o))
changed_same h hs (n, Some v) same o =
    ap (λ r. by_order r ((n, v) ∷ h ∷ hs) ((h.0, v) ∷ hs) (h ∷ put_handle hs (n, v))) same ∙ ap (λ k. (k, v) ∷ hs) (sym (one_name n h.0 same))

changed_none : (d : Change) → with_change [] d ≡ left_by d ++ []
changed_none (n, None) = refl
changed_none (n, Some h) = refl

-- How the writing goes on.

pub goes_still : (c : Course) → GoesOn c c
goes_still c o = (o, refl)

pub goes_further : (c d e : Course) → GoesOn c d → GoesOn d e → GoesOn c e
goes_further c d e p q o = let first = p o in let second = q first.0 in (second.0, first.1 ∙ second.1)

module _ (old new : List ℕ) (h : NamedHandle) (hs : List NamedHandle) (d : Change) (ds : List Change) where
  -- a change of a name before the next handle's
  pub goes_before : name_order d.0 h.0 ≡ Less → new ≡ old ++ handle_rows (left_by d)
      → GoesOn (record { written = old; handles = h ∷ hs; changes = d ∷ ds }) (record { written = new; handles = h ∷ hs; changes = ds })
  goes_before before put o = (
    (o.0, rest_sorted name_order d ds o.1),
    written_on old new (fold with_change (h ∷ hs) (d ∷ ds)) (left_by d) (fold with_change (h ∷ hs) ds)
        (ap (λ l. fold with_change l ds) (changed_before h hs d before o.0) ∙ left_first d (h ∷ hs) ds o.1) put,
  )

  -- a change of the next handle
  pub goes_same : name_order d.0 h.0 ≡ Equal → new ≡ old ++ handle_rows (left_by d)
      → GoesOn (record { written = old; handles = h ∷ hs; changes = d ∷ ds }) (record { written = new; handles = hs; changes = ds })
  goes_same same put o = (
    (rest_sorted name_order h hs o.0, rest_sorted name_order d ds o.1),
    written_on old new (fold with_change (h ∷ hs) (d ∷ ds)) (left_by d) (fold with_change hs ds)
        (ap (λ l. fold with_change l ds) (changed_same h hs d same o.0) ∙ left_first d hs ds o.1) put,
  )

  -- a handle whose name comes before that of the next change
  pub goes_after : name_order d.0 h.0 ≡ Greater → new ≡ old ++ handle_rows (h ∷ [])
      → GoesOn (record { written = old; handles = h ∷ hs; changes = d ∷ ds }) (record { written = new; handles = hs; changes = d ∷ ds })
  goes_after after put o = (
    (rest_sorted name_order h hs o.0, o.1),
    written_on old new (fold with_change (h ∷ hs) (d ∷ ds)) (h ∷ []) (fold with_change hs (d ∷ ds))
        (passes_all h hs (d ∷ ds) (below_first h.0 d ds (before_name d.0 h.0 after) o.1)) put,
  )

-- a handle behind all changes
pub goes_alone : (old new : List ℕ) (h : NamedHandle) (hs : List NamedHandle) → new ≡ old ++ handle_rows (h ∷ [])
    → GoesOn (record { written = old; handles = h ∷ hs; changes = [] }) (record { written = new; handles = hs; changes = [] })
goes_alone old new h hs put o = ((rest_sorted name_order h hs o.0, tt), written_on old new (h ∷ hs) (h ∷ []) hs refl put)

-- a change behind all handles
pub goes_left : (old new : List ℕ) (d : Change) (ds : List Change) → new ≡ old ++ handle_rows (left_by d)
    → GoesOn (record { written = old; handles = []; changes = d ∷ ds }) (record { written = new; handles = []; changes = ds })
goes_left old new d ds put o = (
  (tt, rest_sorted name_order d ds o.1),
  written_on old new (fold with_change [] (d ∷ ds)) (left_by d) (fold with_change [] ds)
      (ap (λ l. fold with_change l ds) (changed_none d) ∙ left_first d [] ds o.1) put,
)

-- As handles and changes are kept.

-- what follows a place
rest_of : {A : Type 0} (xs : List A) (k : ℕ) → take (length xs - k) (drop k xs) ≡ drop k xs
rest_of xs k = take_all (length xs - k) (drop k xs) (omega (arith, length-drop k xs))

module _ (changes : List KeptChange) (i : ℕ) (x : KeptChange) (inside : i < length changes) (is : x ≡ get_or changes i x) (first : Course) (old new : List ℕ) where
  turn : drop i changes ≡ x ∷ drop (i + 1) changes
  turn = rest_turn changes changes i x refl inside is

  module _ (h : KeptHandle) (hs : List KeptHandle) (so_far : GoesOn first (course old (h ∷ hs) (drop i changes))) where
    further : (last : Course) → GoesOn (course old (h ∷ hs) (x ∷ drop (i + 1) changes)) last → GoesOn first last
    further last next =
        goes_further first (course old (h ∷ hs) (drop i changes)) last so_far (subst (λ ds. GoesOn (course old (h ∷ hs) ds) last) (sym turn) next)

    pub kept_before : label_order x.0 h.0 ≡ Less → new ≡ old ++ handle_rows (left_by (handle_change x))
        → GoesOn first (course new (h ∷ hs) (drop (i + 1) changes))
    kept_before before put =
        further (course new (h ∷ hs) (drop (i + 1) changes))
        (goes_before old new (named_of h) (map named_of hs) (handle_change x) (map handle_change (drop (i + 1) changes)) before put)

    pub kept_same : label_order x.0 h.0 ≡ Equal → new ≡ old ++ handle_rows (left_by (handle_change x))
        → GoesOn first (course new hs (take (length changes - (i + 1)) (drop (i + 1) changes)))
    kept_same same put =
        subst (λ ds. GoesOn first (course new hs ds)) (sym (rest_of changes (i + 1)))
        (further (course new hs (drop (i + 1) changes))
        (goes_same old new (named_of h) (map named_of hs) (handle_change x) (map handle_change (drop (i + 1) changes)) same put))

    pub kept_after : label_order x.0 h.0 ≡ Greater → new ≡ old ++ handle_rows (named_of h ∷ [])
        → GoesOn first (course new hs (take (length changes - i) (drop i changes)))
    kept_after after put =
        subst (λ ds. GoesOn first (course new hs ds)) (sym (rest_of changes i ∙ turn))
        (further (course new hs (x ∷ drop (i + 1) changes))
        (goes_after old new (named_of h) (map named_of hs) (handle_change x) (map handle_change (drop (i + 1) changes)) after put))

  pub kept_left : GoesOn first (course old [] (drop i changes)) → new ≡ old ++ handle_rows (left_by (handle_change x))
      → GoesOn first (course new [] (drop (i + 1) changes))
  kept_left so_far put =
      goes_further first (course old [] (drop i changes)) (course new [] (drop (i + 1) changes)) so_far
      (subst (λ ds. GoesOn (course old [] ds) (course new [] (drop (i + 1) changes))) (sym turn)
      (goes_left old new (handle_change x) (map handle_change (drop (i + 1) changes)) put))

-- one handle more
pub handles_more : (handles : List KeptHandle) (i : ℕ) (h : KeptHandle) → i < length handles → h ≡ get_or handles i h
    → (first : Course) (old new : List ℕ) (ds es : List KeptChange) (hs : List KeptHandle) → GoesOn first (course old (drop i handles ++ hs) ds)
    → ((gs : List KeptHandle) → GoesOn (course old (h ∷ gs) ds) (course new gs es)) → GoesOn first (course new (drop (i + 1) handles ++ hs) es)
handles_more handles i h inside is first old new ds es hs so_far next =
    goes_further first (course old (drop i handles ++ hs) ds) (course new (drop (i + 1) handles ++ hs) es) so_far
    (subst (λ l. GoesOn (course old (l ++ hs) ds) (course new (drop (i + 1) handles ++ hs) es)) (sym (rest_turn handles handles i h refl inside is))
    (next (drop (i + 1) handles ++ hs)))

pub handles_end : (handles : List KeptHandle) (i : ℕ) → length handles ≤ i → (first : Course) (new : List ℕ) (ds : List KeptChange) (hs : List KeptHandle)
    → GoesOn first (course new (drop i handles ++ hs) ds) → GoesOn first (course new hs ds)
handles_end handles i all first new ds hs = subst (λ l. GoesOn first (course new (l ++ hs) ds)) (drop_all i handles all)

-- one block more
pub blocks_more : (blocks : List (List KeptHandle)) (i : ℕ) (b c : List KeptHandle) → i < length blocks → b ≡ get_or blocks i b → c ≡ b
    → (first : Course) (old new : List ℕ) (ds es : List KeptChange) → GoesOn first (course old (joined (drop i blocks)) ds)
    → ((gs : List KeptHandle) → GoesOn (course old (c ++ gs) ds) (course new gs es)) → GoesOn first (course new (joined (drop (i + 1) blocks)) es)
blocks_more blocks i b c inside is same first old new ds es so_far next =
    goes_further first (course old (joined (drop i blocks)) ds) (course new (joined (drop (i + 1) blocks)) es) so_far
    (subst (λ l. GoesOn (course old (joined l) ds) (course new (joined (drop (i + 1) blocks)) es)) (sym (rest_turn blocks blocks i b refl inside is))
    (subst (λ l. GoesOn (course old (l ++ joined (drop (i + 1) blocks)) ds) (course new (joined (drop (i + 1) blocks)) es)) same
    (next (joined (drop (i + 1) blocks)))))

pub blocks_end : (blocks : List (List KeptHandle)) (i : ℕ) → length blocks ≤ i → (first last : Course) (new : List ℕ) (ds : List KeptChange)
    → GoesOn first (course new (joined (drop i blocks)) ds) → GoesOn (course new [] ds) last → GoesOn first last
blocks_end blocks i all first last new ds so_far next =
    goes_further first (course new [] ds) last
    (subst (λ l. GoesOn first (course new (joined l) ds)) (drop_all i blocks all) so_far) next

-- All handles after a delta.

is_so : (b : Bool) → T b → IsTrue b
is_so true h = refl
is_so false h = absurd h

-- the changes of a delta are in order
pub delta_ordered : (ds : List KeptChange) → AllPairs (λ (a b : KeptChange). label_order a.0 b.0 ≡ Less) ds → IsTrue (are_in_order ds)
delta_ordered ds pairs = is_so (is_sorted label_order ds) (sorted_of label_order ds pairs)

-- what is written from the first handle on, behind the count
pub handles_whole : (hs blocks : List KeptHandle) (ds : List KeptChange) (count : ℕ) (old mid new : List ℕ) → IsInOrder hs
    → AllPairs (λ (a b : KeptChange). label_order a.0 b.0 ≡ Less) ds → blocks ≡ hs → count ≡ length (with_handles hs ds) → mid ≡ old ++ u32_bytes count
    → GoesOn (course mid blocks ds) (course new [] []) → new ≡ old ++ (counted handle).bytes (map (λ h. (h.0, Some h.1)) (map named_of (with_handles hs ds)))
handles_whole hs blocks ds count old mid new ordered pairs same counts put goes =
    let went = subst (λ l. GoesOn (course mid l ds) (course new [] [])) same goes
    (sorted_of name_order (map named_of hs) (plain_order hs ordered), changes_sorted ds (sorted_of label_order ds pairs)) in
    let after = map named_of (with_handles hs ds) in
    let many : count ≡ length (map (λ (h : NamedHandle). (h.0, Some h.1)) after) =
    counts ∙ sym (length-map (with_handles hs ds) named_of) ∙ sym (length-map after (λ (h : NamedHandle). (h.0, Some h.1))) in
    sym (append-nil new) ∙ sym went.1
    ∙ ap (λ l. mid ++ handle_rows l) (sym (handles_follow hs ds))
    ∙ ap (λ l. l ++ handle_rows after) put
    ∙ append_assoc old (u32_bytes count) (handle_rows after)
    ∙ ap (λ n. old ++ (u32_bytes n ++ handle_rows after)) many

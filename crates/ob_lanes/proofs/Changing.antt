-- Which items a delta that has just what differs changes.
use Rattle.std.proofs.Common.{◌≡◌, ℕ, zero, suc, ◌≤◌, ◌<◌, Bool, true, false, not, ◌||◌, List, [], ◌∷◌, ◌++◌, length, Contains, Option, Some, None, refl, sym, ap, ◌∙◌, subst, arith, true≢false}
use Rattle.std.specs.Prelude.{nat_eq, nat_lt, nat_le, slice_get, slice_set, option_map, if◌then◌else◌}
use Rattle.std.specs.Option.{unwrap_or, option_or}
use Rattle.std.specs.Ordering.{is_eq, ordering_reverse}
use Rattle.std.specs.FinMap.Entries.{find as find_key}
use Rattle.std.specs.List.{list_any}
use Rattle.std.proofs.lemmas.Bool.{ltb-true, ltb-false, leb-true, leb-false}
use Rattle.std.proofs.lemmas.Bool.Decides.{Decides-eqb}
use Rattle.std.proofs.lemmas.List.{length-map}
use Rattle.std.proofs.lemmas.List.Folds.{list_any_at}
use Rattle.std.proofs.lemmas.List.Elements.{Contains-append_right}
use Rattle.ob_base.specs.declared.id.ObjectId.{ObjectId}
use Rattle.ob_base.specs.declared.name.Label.{Label}
use Rattle.ob_base.specs.Limits.{most_handles}
use Rattle.ob_table.specs.Tables.{ClassTable}
use Rattle.ob_heap_spec.specs.Contents.{HandleName, Handle as PlainHandle, Content, IsContent, object_at, name_order}
use Rattle.ob_heap_spec.specs.Handles.{handle_at}
use Rattle.ob_heap_spec.specs.Worlds.{ReadItem, object_item, next_item, handle_item, handles_full_item, AllRead, ReadSame}
use Rattle.ob_heap_spec.proofs.Items.{item_of}
use Rattle.ob_heap.specs.declared.object.Object.{Object}
use Rattle.ob_heap.specs.declared.object.Handle.{Handle}
use Rattle.ob_heap.specs.declared.delta.Delta.{Delta}
use Rattle.ob_heap.specs.Ascending.{IsBelowAll, IsAscending}
use Rattle.ob_heap.specs.Contents.{Stored, content_of, name_of, named_of}
use Rattle.ob_heap.specs.Contents as kept
use Rattle.ob_heap.specs.Deltas.{AreNext, with_handles, change_at}
use Rattle.ob_heap_spec.specs.Operations.{same_truth}
use Rattle.ob_heap.specs.Differences.{with_objects}
use Rattle.ob_heap.specs.Plain.{object_of, handle_of}
use Rattle.ob_heap.proofs.DeltasLemmas.{with_objects-le}
use Rattle.ob_heap.proofs.HandlesLemmas.{names_total, equal_is}
use Rattle.ob_heap.proofs.LookLemmas.{look_changes}
use Rattle.ob_invocation_spec.specs.Handles.{are_handles_full}
use Rattle.ob_request_run_laws.specs.Laws.{AgreeOn}
use Rattle.ob_exec_handles.specs.Coming.{LeadsTo}
use Rattle.ob_exec_handles.proofs.InvokingLemmas.{plain_at}
use Rattle.ob_lanes_laws.specs.Conflicts.{conflicts}
use Rattle.ob_lanes_laws.proofs.Same.{conflicts_are_differences}
use Rattle.ob_lanes_laws.proofs.Keeping.{differ}
use Rattle.ob_lanes.specs.Committing.{has_object, has_new, has_handle, is_full, is_changed}
use Rattle.ob_lanes.proofs.Standing.{get_map}

-- Tests.

pub either_false : (b c : Bool) → b || c ≡ false → (b ≡ false) × (c ≡ false)
either_false true c e = absurd (true≢false e)
either_false false c e = (refl, e)

not_both : {A : Type 0} (b : Bool) → b ≡ true → b ≡ false → A
not_both b e f = absurd (true≢false (sym e ∙ f))

-- Lists.

append_other : {A : Type 0} (xs : List A) (x : A) (n : ℕ) → (n ≡ length xs → ⊥) → slice_get (xs ++ x ∷ []) n ≡ slice_get xs n
append_other [] x zero h = absurd (h refl)
append_other [] x (suc n) h = refl
append_other (y ∷ ys) x zero h = refl
append_other (y ∷ ys) x (suc n) h = append_other ys x n (λ e. h (ap suc e))

append_here : {A : Type 0} (xs : List A) (x : A) → slice_get (xs ++ x ∷ []) (length xs) ≡ Some x
append_here [] x = refl
append_here (y ∷ ys) x = append_here ys x

append_length : {A : Type 0} (xs : List A) (x : A) → length (xs ++ x ∷ []) ≡ suc (length xs)
append_length [] x = refl
append_length (y ∷ ys) x = ap suc (append_length ys x)

set_other : {A : Type 0} (xs : List A) (k n : ℕ) (x : A) → (k ≡ n → ⊥) → slice_get (slice_set xs k x) n ≡ slice_get xs n
set_other [] k n x h = refl
set_other (y ∷ ys) zero zero x h = absurd (h refl)
set_other (y ∷ ys) zero (suc n) x h = refl
set_other (y ∷ ys) (suc k) zero x h = refl
set_other (y ∷ ys) (suc k) (suc n) x h = set_other ys k n x (λ e. h (ap suc e))

set_here : {A : Type 0} (xs : List A) (k : ℕ) (x : A) → k < length xs → slice_get (slice_set xs k x) k ≡ Some x
set_here [] k x h = absurd (omega (arith, h))
set_here (y ∷ ys) zero x h = refl
set_here (y ∷ ys) (suc k) x h = set_here ys k x (omega (arith, h))

set_long : {A : Type 0} (xs : List A) (k : ℕ) (x : A) → length (slice_set xs k x) ≡ length xs
set_long [] k x = refl
set_long (y ∷ ys) zero x = refl
set_long (y ∷ ys) (suc k) x = ap suc (set_long ys k x)

-- One object.

abbrev Numbered : Type 0
Numbered = ObjectId × Object

-- objects with one more, or another at its number
abbrev with_one : List Object → Numbered → List Object
with_one os e = if nat_lt e.0.0 (length os) then slice_set os e.0.0 e.1 else os ++ e.1 ∷ []

one_other : (os : List Object) (e : Numbered) (n : ℕ) → e.0.0 ≤ length os → (e.0.0 ≡ n → ⊥) → slice_get (with_one os e) n ≡ slice_get os n
one_other os e n h d = by (nat_lt e.0.0 (length os)) refl
  where
    by : (b : Bool) → nat_lt e.0.0 (length os) ≡ b → slice_get (if b then slice_set os e.0.0 e.1 else os ++ e.1 ∷ []) n ≡ slice_get os n
    by true f = set_other os e.0.0 n e.1 d
    by false f = append_other os e.1 n (λ g. let low = ltb-false e.0.0 (length os) f in d (omega (arith, h, g, low)))

one_here : (os : List Object) (e : Numbered) → e.0.0 ≤ length os → slice_get (with_one os e) e.0.0 ≡ Some e.1
one_here os e h = by (nat_lt e.0.0 (length os)) refl
  where
    by : (b : Bool) → nat_lt e.0.0 (length os) ≡ b → slice_get (if b then slice_set os e.0.0 e.1 else os ++ e.1 ∷ []) e.0.0 ≡ Some e.1
    by true f = set_here os e.0.0 e.1 (ltb-true e.0.0 (length os) f)
    by false f =
        let low = ltb-false e.0.0 (length os) f in
        let same : e.0.0 ≡ length os = omega (arith, h, low) in
        ap (slice_get (os ++ e.1 ∷ [])) same ∙ append_here os e.1

one_length : (os : List Object) (e : Numbered) → length (with_one os e) ≡ (if nat_lt e.0.0 (length os) then length os else suc (length os))
one_length os e = by (nat_lt e.0.0 (length os))
  where
    by : (b : Bool) → length (if b then slice_set os e.0.0 e.1 else os ++ e.1 ∷ []) ≡ (if b then length os else suc (length os))
    by true = set_long os e.0.0 e.1
    by false = append_length os e.1

-- Which objects change.

objects_other : (os : List Object) (es : List Numbered) (n : ℕ) → AreNext (length os) es → has_object n es ≡ false → slice_get (with_objects os es) n ≡ slice_get os n
objects_other os [] n next h = refl
objects_other os (e ∷ es) n next h =
    let p = either_false (nat_eq e.0.0 n) (has_object n es) h in
    objects_other (with_one os e) es n (subst (λ c. AreNext c es) (sym (one_length os e)) next.1) p.1
    ∙ one_other os e n next.0 (λ q. not_both (nat_eq e.0.0 n) ((Decides-eqb e.0.0 n).1 q) p.0)

above_none : (es : List Numbered) (n : ℕ) → IsBelowAll (λ (e : Numbered). e.0.0) n es → has_object n es ≡ false
above_none [] n h = refl
above_none (e ∷ es) n h = let less = h.0 in ap (λ b. b || has_object n es) (differ e.0.0 n (λ q. omega (arith, less, q))) ∙ above_none es n h.1

-- an object of a delta, by its number, which is in these objects
record IsThere (es : List Numbered) (n : ℕ) (os : List Object) : Type 0 where
  place : ℕ
  entry : Numbered
  is : slice_get es place ≡ Some entry
  number : entry.0.0 ≡ n
  there : slice_get os n ≡ Some entry.1

objects_here : (os : List Object) (es : List Numbered) (n : ℕ) → AreNext (length os) es → IsAscending (λ (e : Numbered). e.0.0) es → has_object n es ≡ true → IsThere es n (with_objects os es)
objects_here os [] n next asc h = absurd (true≢false (sym h))
objects_here os (e ∷ es) n next asc h = by (nat_eq e.0.0 n) refl h (λ g. objects_here (with_one os e) es n after asc.1 g)
  where
    after : AreNext (length (with_one os e)) es
    after = subst (λ c. AreNext c es) (sym (one_length os e)) next.1

    by : (b : Bool) → nat_eq e.0.0 n ≡ b → b || has_object n es ≡ true → (has_object n es ≡ true → IsThere es n (with_objects (with_one os e) es)) → IsThere (e ∷ es) n (with_objects (with_one os e) es)
    by true f g later =
        let same = (Decides-eqb e.0.0 n).0 f in
        record {
          place = 0;
          entry = e;
          is = refl;
          number = same;
          there = objects_other (with_one os e) es n after (above_none es n (subst (λ m. IsBelowAll (λ (x : Numbered). x.0.0) m es) same asc.0))
              ∙ ap (slice_get (with_one os e)) (sym same) ∙ one_here os e next.0;
        }
    by false f g later = let t = later g in record { place = suc t.place; entry = t.entry; is = t.is; number = t.number; there = t.there }

new_none : (os : List Object) (es : List Numbered) → has_new (length os) es ≡ false → length (with_objects os es) ≡ length os
new_none os [] h = refl
new_none os (e ∷ es) h =
    let p = either_false (nat_le (length os) e.0.0) (has_new (length os) es) h in
    let low = leb-false (length os) e.0.0 p.0 in
    let same = one_length os e ∙ ap (λ b. if b then length os else suc (length os)) (below e.0.0 (length os) (omega (arith, low))) in
    new_none (with_one os e) es (ap (λ c. has_new c es) same ∙ p.1) ∙ same
  where
    below : (m n : ℕ) → m < n → nat_lt m n ≡ true
    below m n h = by (nat_lt m n) refl
      where
        by : (b : Bool) → nat_lt m n ≡ b → b ≡ true
        by true e = refl
        by false e = let low = ltb-false m n e in absurd (omega (arith, h, low))

new_some : (os : List Object) (es : List Numbered) → has_new (length os) es ≡ true → length os < length (with_objects os es)
new_some os [] h = absurd (true≢false (sym h))
new_some os (e ∷ es) h = by (nat_lt e.0.0 (length os)) refl (λ g. new_some (with_one os e) es g)
  where
    rest : (b : Bool) → nat_le (length os) e.0.0 ≡ b → nat_lt e.0.0 (length os) ≡ true → b || has_new (length os) es ≡ true → has_new (length os) es ≡ true
    rest true f g k = let low = leb-true (length os) e.0.0 f in let less = ltb-true e.0.0 (length os) g in absurd (omega (arith, low, less))
    rest false f g k = k

    by : (b : Bool) → nat_lt e.0.0 (length os) ≡ b → (has_new (length (with_one os e)) es ≡ true → length (with_one os e) < length (with_objects (with_one os e) es)) → length os < length (with_objects (with_one os e) es)
    by true f later =
        let same = one_length os e ∙ ap (λ b. if b then length os else suc (length os)) f in
        let more = later (ap (λ c. has_new c es) same ∙ rest (nat_le (length os) e.0.0) refl f h) in
        omega (arith, same, more)
    by false f later =
        let same = one_length os e ∙ ap (λ b. if b then length os else suc (length os)) f in
        let more = with_objects-le (with_one os e) es in
        omega (arith, same, more)

-- Which handles change.

abbrev Change : Type 0
Change = (Label × Label) × Option Handle

no_change : (n : HandleName) (ds : List Change) → has_handle n ds ≡ false → change_at n ds ≡ None
no_change n [] h = refl
no_change n (d ∷ ds) h =
    let p = either_false (is_eq (name_order (name_of d.0) n)) (has_handle n ds) h in
    ap (λ b. option_or (change_at n ds) (if b then Some d.1 else None)) p.0 ∙ ap (λ o. option_or o None) (no_change n ds p.1)

-- the change of a name
record IsChanged (ds : List Change) (n : HandleName) : Type 0 where
  place : ℕ
  entry : Change
  is : slice_get ds place ≡ Some entry
  name : is_eq (name_order (name_of entry.0) n) ≡ true
  says : change_at n ds ≡ Some entry.1

one_change : (n : HandleName) (ds : List Change) → has_handle n ds ≡ true → IsChanged ds n
one_change n [] h = absurd (true≢false (sym h))
one_change n (d ∷ ds) h = by (has_handle n ds) refl (λ e. one_change n ds e)
  where
    first : (b : Bool) → b || has_handle n ds ≡ true → has_handle n ds ≡ false → b ≡ true
    first true e f = refl
    first false e f = not_both (has_handle n ds) e f

    by : (b : Bool) → has_handle n ds ≡ b → (has_handle n ds ≡ true → IsChanged ds n) → IsChanged (d ∷ ds) n
    by true e later = let t = later e in record {
      place = suc t.place;
      entry = t.entry;
      is = t.is;
      name = t.name;
      says = ap (λ o. option_or o (if is_eq (name_order (name_of d.0) n) then Some d.1 else None)) t.says;
    }
    by false e later = let its = first (is_eq (name_order (name_of d.0) n)) h e in record {
      place = 0;
      entry = d;
      is = refl;
      name = its;
      says = ap (λ o. option_or o (if is_eq (name_order (name_of d.0) n) then Some d.1 else None)) (no_change n ds e) ∙ ap (λ b. option_or None (if b then Some d.1 else None)) its;
    }

-- a handle by a name that is the same
at_same : (m n : HandleName) (hs : List ((Label × Label) × Handle)) → is_eq (name_order m n) ≡ true → kept.handle_at m hs ≡ kept.handle_at n hs
at_same m n [] h = refl
at_same m n (x ∷ hs) h =
    ap (λ b. if b then Some x.1 else kept.handle_at m hs)
    (ap is_eq (names_total.antisymm (name_of x.0) m ∙ ap ordering_reverse (names_total.congr m n (name_of x.0) (equal_is (name_order m n) h)) ∙ sym (names_total.antisymm (name_of x.0) n)))
    ∙ ap (λ o. if is_eq (name_order (name_of x.0) n) then Some x.1 else o) (at_same m n hs h)

handle_back : (o : Option Handle) → option_map (λ (h : PlainHandle). record { object = record { 0 = h.object }; mode = h.mode }) (option_map handle_of o) ≡ o
handle_back None = refl
handle_back (Some h) = refl

same_handles : (a b : Option Handle) → option_map handle_of a ≡ option_map handle_of b → a ≡ b
same_handles a b e = sym (handle_back a) ∙ ap (option_map (λ (h : PlainHandle). record { object = record { 0 = h.object }; mode = h.mode })) e ∙ handle_back b

-- What is read.

any_false : {A : Type 0} (p : A → Bool) (xs : List A) (x : A) → list_any p xs ≡ false → Contains xs x → p x ≡ false
any_false p xs x h has = by (p x) refl
  where
    by : (b : Bool) → p x ≡ b → p x ≡ false
    by false e = e
    by true e = not_both (list_any p xs) (list_any_at p xs has.0 x has.1 (ap p has.2 ∙ e)) h

none_so : {A : Type 0} (p : A → Bool) (xs : List A) → ((x : A) → Contains xs x → p x ≡ false) → list_any p xs ≡ false
none_so p [] f = refl
none_so p (x ∷ xs) f = ap (λ b. b || list_any p xs) (f x (0, omega arith, refl)) ∙ none_so p xs (λ y has. f y (Contains-append_right (x ∷ []) xs y has))

truth_is : (x y : Bool) → not (same_truth x y) ≡ false → x ≡ y
truth_is true true h = refl
truth_is true false h = absurd (true≢false h)
truth_is false true h = absurd (true≢false h)
truth_is false false h = refl

truth_differs : (x y : Bool) → x ≡ y → not (same_truth x y) ≡ false
truth_differs true true h = refl
truth_differs true false h = absurd (true≢false h)
truth_differs false true h = absurd (true≢false (sym h))
truth_differs false false h = refl

module _ (base : Stored) (delta : Delta) (after : Stored) (differs : LeadsTo base delta (content_of after)) where
  abbrev c : Content
  c = content_of base

  abbrev d : Content
  d = content_of after

  object_there : (n : ℕ) → object_at d.objects n ≡ option_map object_of (slice_get (with_objects base.objects delta.objects) n)
  object_there n = ap (λ os. slice_get os n) (sym differs.objects) ∙ get_map object_of (with_objects base.objects delta.objects) n

  object_before : (n : ℕ) → object_at c.objects n ≡ option_map object_of (slice_get base.objects n)
  object_before n = get_map object_of base.objects n

  count_there : length d.objects ≡ length (with_objects base.objects delta.objects)
  count_there = ap length (sym differs.objects) ∙ length-map (with_objects base.objects delta.objects) object_of

  count_before : length c.objects ≡ length base.objects
  count_before = length-map base.objects object_of

  handle_there : (n : HandleName) → handle_at d n ≡ option_map handle_of (unwrap_or (change_at n delta.handles) (kept.handle_at n base.handles))
  handle_there n =
      ap (find_key name_order n) (sym differs.handles)
      ∙ plain_at n (with_handles base.handles delta.handles)
      ∙ ap (option_map handle_of) (look_changes n base.handles delta.handles)

  handle_before : (n : HandleName) → handle_at c n ≡ option_map handle_of (kept.handle_at n base.handles)
  handle_before n = plain_at n base.handles

  full_there : are_handles_full d ≡ is_full (with_handles base.handles delta.handles)
  full_there = ap (nat_le most_handles) (ap length (sym differs.handles) ∙ length-map (with_handles base.handles delta.handles) named_of)

  full_before : are_handles_full c ≡ is_full base.handles
  full_before = ap (nat_le most_handles) (length-map base.handles named_of)

  -- on items of which none is changed the contents agree
  pub changes_agree : (items : List ReadItem) → list_any (is_changed base delta) items ≡ false → AgreeOn items c d
  changes_agree items h = record {
    objects = record {
      objects = λ n has. object_there n
          ∙ ap (option_map object_of) (objects_other base.objects delta.objects n differs.is.next (any_false (is_changed base delta) items (object_item n) h has))
          ∙ sym (object_before n);
      next = λ has. count_there ∙ new_none base.objects delta.objects (any_false (is_changed base delta) items next_item h has) ∙ sym count_before;
    };
    handles = λ name has. handle_there name
        ∙ ap (λ o. option_map handle_of (unwrap_or o (kept.handle_at name base.handles))) (no_change name delta.handles (any_false (is_changed base delta) items (handle_item name) h has))
        ∙ sym (handle_before name);
    full = λ has. full_there
        ∙ sym (truth_is (is_full base.handles) (is_full (with_handles base.handles delta.handles)) (any_false (is_changed base delta) items handles_full_item h has))
        ∙ sym full_before;
  }

  object_same : (n : ℕ) → object_at d.objects n ≡ object_at c.objects n → has_object n delta.objects ≡ false
  object_same n e = by (has_object n delta.objects) refl
    where
      by : (b : Bool) → has_object n delta.objects ≡ b → has_object n delta.objects ≡ false
      by false f = f
      by true f =
          let t = objects_here base.objects delta.objects n differs.is.next differs.is.objects f in
          let is = ap (object_at c.objects) t.number ∙ sym e ∙ object_there n ∙ ap (option_map object_of) t.there in
          absurd (item_of (λ (x : Numbered). ¬ (object_at (content_of base).objects x.0.0 ≡ Some (object_of x.1))) delta.objects differs.other_objects t.place t.entry t.is is)

  next_same : length d.objects ≡ length c.objects → has_new (length base.objects) delta.objects ≡ false
  next_same e = by (has_new (length base.objects) delta.objects) refl
    where
      by : (b : Bool) → has_new (length base.objects) delta.objects ≡ b → has_new (length base.objects) delta.objects ≡ false
      by false f = f
      by true f =
          let more = new_some base.objects delta.objects f in
          let same = sym count_there ∙ e ∙ count_before in
          absurd (omega (arith, more, same))

  handle_is : (n : HandleName) → handle_at d n ≡ handle_at c n → has_handle n delta.handles ≡ false
  handle_is n e = by (has_handle n delta.handles) refl
    where
      by : (b : Bool) → has_handle n delta.handles ≡ b → has_handle n delta.handles ≡ false
      by false f = f
      by true f =
          let t = one_change n delta.handles f in
          let says = same_handles t.entry.1 (kept.handle_at n base.handles)
          (ap (λ o. option_map handle_of (unwrap_or o (kept.handle_at n base.handles))) (sym t.says) ∙ sym (handle_there n) ∙ e ∙ handle_before n) in
          absurd (item_of (λ (x : Change). ¬ (kept.handle_at (name_of x.0) base.handles ≡ x.1)) delta.handles differs.other_handles t.place t.entry t.is
          (at_same (name_of t.entry.0) n base.handles t.name ∙ sym says))

  one_same : (items : List ReadItem) (i : ReadItem) → AgreeOn items c d → Contains items i → is_changed base delta i ≡ false
  one_same items (object_item n) a has = object_same n (a.objects.objects n has)
  one_same items next_item a has = next_same (a.objects.next has)
  one_same items (handle_item name) a has = handle_is name (a.handles name has)
  one_same items handles_full_item a has =
      truth_differs (is_full base.handles) (is_full (with_handles base.handles delta.handles)) (sym full_before ∙ sym (a.full has) ∙ full_there)

  -- and on no others
  pub agree_unchanged : (items : List ReadItem) → AgreeOn items c d → list_any (is_changed base delta) items ≡ false
  agree_unchanged items a = none_so (is_changed base delta) items (λ i has. one_same items i a has)

-- agreement on fewer items
pub agree_less : (a b : List ReadItem) (c d : Content) → AllRead a b → AgreeOn b c d → AgreeOn a c d
agree_less a b c d h g = record {
  objects = record { objects = λ n k. g.objects.objects n (h (object_item n) k); next = λ k. g.objects.next (h next_item k) };
  handles = λ name k. g.handles name (h (handle_item name) k);
  full = λ k. g.full (h handles_full_item k);
}

both_ways : (b c : Bool) → (b ≡ false → c ≡ false) → (c ≡ false → b ≡ false) → b ≡ c
both_ways true true f g = refl
both_ways true false f g = g refl
both_ways false true f g = sym (f refl)
both_ways false false f g = refl

-- A run is stale by what the delta changes exactly where what it has read conflicts.
pub stale_same : (table : ClassTable) (base : Stored) (delta : Delta) (after : Stored) (items reads : List ReadItem) → IsContent table (content_of base) → IsContent table (content_of after) → LeadsTo base delta (content_of after) → ReadSame items reads
    → conflicts table (content_of base) (content_of after) items ≡ list_any (is_changed base delta) reads
stale_same table base delta after items reads is also differs same =
    let law = conflicts_are_differences table (content_of base) (content_of after) items is also in
    both_ways (conflicts table (content_of base) (content_of after) items) (list_any (is_changed base delta) reads)
    (λ e. agree_unchanged base delta after differs reads (agree_less reads items (content_of base) (content_of after) same.1 (law.0 e)))
    (λ e. law.1 (agree_less items reads (content_of base) (content_of after) same.0 (changes_agree base delta after differs reads e)))

-- The owner that is found on one store is that on another, where both are at rest and agree on its place.
use Rattle.std.proofs.Common.{◌≡◌, ℕ, zero, suc, ◌+◌, ◌≤◌, ◌⊎◌, inl, inr, Bool, true, false, List, [], ◌∷◌, ◌++◌, length, map, filter, Contains, Option, Some, None, refl, sym, ap, ◌∙◌, subst, arith, true≢false, ltb-false}
use Rattle.std.specs.Prelude.{cond, nat_eq, nat_lt, slice_get, find, filter_map, flat_map, All, AllPairs}
use Rattle.std.specs.List.{enumerate_from, cons_option}
use Rattle.std.specs.Option.{option_map_or}
use Rattle.std.specs.Ordering.{is_eq, eq_by_cmp, ordering_reverse}
use Rattle.std.specs.declared.cmp.Ordering.TheVariants.{Less}
use Rattle.std.specs.Cmp.{tied_itself}
use Rattle.std.specs.FinMap.Entries.{find as find_key}
use Rattle.ob_table.specs.Tables.{ClassTable, contract_at}
use Rattle.ob_table.specs.declared.contract.Contract.{Contract}
use Rattle.ob_table.specs.declared.contract.Field.{Field}
use Rattle.ob_table.specs.declared.contract.ResolvedType.{ResolvedType}
use Rattle.ob_table.specs.declared.contract.ResolvedType.TheVariants.{Int, Bool as BoolKind, Text, Reference}
use Rattle.ob_heap_spec.specs.Values.{Value, int_value, bool_value, text_value, reference}
use Rattle.ob_heap_spec.specs.Objects.{Object}
use Rattle.ob_heap_spec.specs.Contents.{HandleName, Handle, Content, object_at, name_order}
use Rattle.ob_heap_spec.specs.Worlds.{ReadItem, object_item, handle_item}
use Rattle.ob_rest_spec.specs.AtRest.{IsStoreAtRest}
use Rattle.ob_rest_spec.specs.Failing.{many_owners}
use Rattle.ob_rest_spec.specs.Modes.{is_owned}
use Rattle.ob_rest_spec.specs.References.{FieldReference, reference_of, available_value, references_of, field_references}
use Rattle.ob_rest_spec.specs.Incoming.{IncomingReference, incoming_by_field, incoming_by_handle, fields_onto, handles_onto, incoming_references, owner_of}
use Rattle.ob_rest_laws.proofs.Ways.{fails_by_none}
use Rattle.ob_heap_spec.specs.Handles.{NamedHandle}
use Rattle.ob_heap_spec.proofs.Names.{names_total}
use Rattle.ob_invocation_spec.specs.Showing.{place_item}
use Rattle.ob_invocation_laws.proofs.Handles.{Before, head_of, tail_of, head_before, tail_pairs}
use Rattle.ob_invocation_laws.proofs.Kept.{one_name_tested}
use Rattle.ob_request_run_laws.proofs.Lists.{none_is_some, some_is}
use Rattle.ob_request_run_laws.specs.Laws.{AgreeOn}

-- What is in a list.

abbrev IsIn : {X : Type 0} → X → List X → Type 0
IsIn x [] = ⊥
IsIn x (y ∷ ys) = (y ≡ x) ⊎ IsIn x ys

in_left : {X : Type 0} (x : X) (xs ys : List X) → IsIn x xs → IsIn x (xs ++ ys)
in_left x [] ys h = absurd h
in_left x (y ∷ xs) ys (inl e) = inl e
in_left x (y ∷ xs) ys (inr h) = inr (in_left x xs ys h)

in_right : {X : Type 0} (x : X) (xs ys : List X) → IsIn x ys → IsIn x (xs ++ ys)
in_right x [] ys h = h
in_right x (y ∷ xs) ys h = inr (in_right x xs ys h)

in_more : {X : Type 0} (x y : X) (xs ys : List X) → IsIn x xs ⊎ IsIn x ys → IsIn x (y ∷ xs) ⊎ IsIn x ys
in_more x y xs ys (inl h) = inl (inr h)
in_more x y xs ys (inr h) = inr h

in_either : {X : Type 0} (x : X) (xs ys : List X) → IsIn x (xs ++ ys) → IsIn x xs ⊎ IsIn x ys
in_either x [] ys h = inr h
in_either x (y ∷ xs) ys (inl e) = inl (inl e)
in_either x (y ∷ xs) ys (inr h) = in_more x y xs ys (in_either x xs ys h)

in_map : {X Y : Type 0} (f : X → Y) (x : X) (xs : List X) → IsIn x xs → IsIn (f x) (map f xs)
in_map f x [] h = absurd h
in_map f x (y ∷ ys) (inl e) = inl (ap f e)
in_map f x (y ∷ ys) (inr h) = inr (in_map f x ys h)

mapped_from : {X Y : Type 0} (f : X → Y) (y : Y) (xs : List X) → IsIn y (map f xs) → (x : X) × IsIn x xs × (f x ≡ y)
mapped_from f y [] h = absurd h
mapped_from f y (x ∷ xs) (inl e) = (x, inl refl, e)
mapped_from f y (x ∷ xs) (inr h) = let m = mapped_from f y xs h in (m.0, inr m.1, m.2)

in_if : {X : Type 0} (x y : X) (xs : List X) (b : Bool) → IsIn x xs → IsIn x (cond b (y ∷ xs) xs)
in_if x y xs true h = inr h
in_if x y xs false h = h

in_filter : {X : Type 0} (test : X → Bool) (x : X) (xs : List X) → IsIn x xs → test x ≡ true → IsIn x (filter test xs)
in_filter test x [] h e = absurd h
in_filter test x (y ∷ ys) (inl i) e = subst (λ b. IsIn x (cond b (y ∷ filter test ys) (filter test ys))) (sym (ap test i ∙ e)) (inl i)
in_filter test x (y ∷ ys) (inr h) e = in_if x y (filter test ys) (test y) (in_filter test x ys h e)

-- one item of a list that is filtered
passed_if : {X : Type 0} (test : X → Bool) (x y : X) (ys : List X) (b : Bool) → test y ≡ b → (IsIn x (filter test ys) → IsIn x ys × (test x ≡ true)) → IsIn x (cond b (y ∷ filter test ys) (filter test ys)) → IsIn x (y ∷ ys) × (test x ≡ true)
passed_if test x y ys true e go (inl i) = (inl i, sym (ap test i) ∙ e)
passed_if test x y ys true e go (inr k) = let m = go k in (inr m.0, m.1)
passed_if test x y ys false e go k = let m = go k in (inr m.0, m.1)

passed : {X : Type 0} (test : X → Bool) (x : X) (xs : List X) → IsIn x (filter test xs) → IsIn x xs × (test x ≡ true)
passed test x [] h = absurd h
passed test x (y ∷ ys) h = passed_if test x y ys (test y) refl (passed test x ys) h

found_if : {X : Type 0} (test : X → Bool) (x y : X) (ys : List X) (b : Bool) → test y ≡ b → (find test ys ≡ Some x → IsIn x ys × (test x ≡ true)) → cond b (Some y) (find test ys) ≡ Some x → IsIn x (y ∷ ys) × (test x ≡ true)
found_if test x y ys true e go f = let same = some_is y x f in (inl same, sym (ap test same) ∙ e)
found_if test x y ys false e go f = let m = go f in (inr m.0, m.1)

found_in : {X : Type 0} (test : X → Bool) (x : X) (xs : List X) → find test xs ≡ Some x → IsIn x xs × (test x ≡ true)
found_in test x [] e = absurd (none_is_some e)
found_in test x (y ∷ ys) e = found_if test x y ys (test y) refl (found_in test x ys) e

none_in : {X : Type 0} (x y : X) (ys : List X) → length (y ∷ ys) ≤ 1 → IsIn x ys → ⊥
none_in x y [] few h = h
none_in x y (z ∷ zs) few h = absurd (omega (arith, few))

-- what passes alone is found
only_if : {X : Type 0} (test : X → Bool) (x y : X) (ys : List X) (b : Bool) → test y ≡ b → test x ≡ true → (length (filter test ys) ≤ 1 → IsIn x ys → find test ys ≡ Some x) → length (cond b (y ∷ filter test ys) (filter test ys)) ≤ 1
    → IsIn x (y ∷ ys) → cond b (Some y) (find test ys) ≡ Some x
only_if test x y ys true e is go few (inl i) = ap Some i
only_if test x y ys true e is go few (inr k) = absurd (none_in x y (filter test ys) few (in_filter test x ys k is))
only_if test x y ys false e is go few (inl i) = absurd (true≢false (sym is ∙ sym (ap test i) ∙ e))
only_if test x y ys false e is go few (inr k) = go few k

only_found : {X : Type 0} (test : X → Bool) (x : X) (xs : List X) → test x ≡ true → length (filter test xs) ≤ 1 → IsIn x xs → find test xs ≡ Some x
only_found test x [] is few h = absurd h
only_found test x (y ∷ ys) is few h = only_if test x y ys (test y) refl is (only_found test x ys is) few h

-- References in fields.

-- an object of a list, and a reference of it
record Stood (table : ClassTable) (objects : List Object) (k : ℕ) (r : FieldReference) : Type 0 where
  number : ℕ
  object : Object
  there : slice_get objects number ≡ Some object
  among : IsIn r (references_of table (k + number) object)

stood_later : (table : ClassTable) (o : Object) (os : List Object) (k : ℕ) (r : FieldReference) → Stood table os (k + 1) r → Stood table (o ∷ os) k r
stood_later table o os k r s = record {
  number = suc s.number;
  object = s.object;
  there = s.there;
  among = subst (λ n. IsIn r (references_of table n s.object)) (let e : k + 1 + s.number ≡ k + suc s.number = omega arith in e) s.among;
}

stood_either : (table : ClassTable) (o : Object) (os : List Object) (k : ℕ) (r : FieldReference) → IsIn r (references_of table k o) ⊎ Stood table os (k + 1) r → Stood table (o ∷ os) k r
stood_either table o os k r (inl h) = record { number = 0; object = o; there = refl; among = subst (λ n. IsIn r (references_of table n o)) (let e : k ≡ k + 0 = omega arith in e) h }
stood_either table o os k r (inr s) = stood_later table o os k r s

either_on : {A B C : Type 0} → (B → C) → A ⊎ B → A ⊎ C
either_on f (inl a) = inl a
either_on f (inr b) = inr (f b)

stood_in : (table : ClassTable) (os : List Object) (k : ℕ) (r : FieldReference) → IsIn r (flat_map (λ (o : ℕ × Object). references_of table o.0 o.1) (enumerate_from k os)) → Stood table os k r
stood_in table [] k r h = absurd h
stood_in table (o ∷ os) k r h = stood_either table o os k r
    (either_on (stood_in table os (k + 1) r) (in_either r (references_of table k o) (flat_map (λ (p : ℕ × Object). references_of table p.0 p.1) (enumerate_from (k + 1) os)) h))

in_fields : (table : ClassTable) (os : List Object) (k n : ℕ) (o : Object) (r : FieldReference) → slice_get os n ≡ Some o → IsIn r (references_of table (k + n) o) → IsIn r (flat_map (λ (p : ℕ × Object). references_of table p.0 p.1) (enumerate_from k os))
in_fields table [] k n o r e h = absurd (none_is_some e)
in_fields table (p ∷ os) k zero o r e h =
    in_left r (references_of table k p) (flat_map (λ (q : ℕ × Object). references_of table q.0 q.1) (enumerate_from (k + 1) os))
    (subst (λ q. IsIn r (references_of table k q)) (sym (some_is p o e)) (subst (λ m. IsIn r (references_of table m o)) (let z : k + 0 ≡ k = omega arith in z) h))
in_fields table (p ∷ os) k (suc n) o r e h =
    in_right r (references_of table k p) (flat_map (λ (q : ℕ × Object). references_of table q.0 q.1) (enumerate_from (k + 1) os))
    (in_fields table os (k + 1) n o r e (subst (λ m. IsIn r (references_of table m o)) (let z : k + suc n ≡ k + 1 + n = omega arith in z) h))

option_in : {X Y : Type 0} (f : X → Option Y) (x : X) (y : Y) (ys : List Y) (o : Option Y) → f x ≡ o → (IsIn y ys → (z : X) × (f z ≡ Some y)) → IsIn y (cons_option o ys) → (z : X) × (f z ≡ Some y)
option_in f x y ys None e go h = go h
option_in f x y ys (Some v) e go (inl i) = (x, e ∙ ap Some i)
option_in f x y ys (Some v) e go (inr h) = go h

given_by : {X Y : Type 0} (f : X → Option Y) (y : Y) (xs : List X) → IsIn y (filter_map f xs) → (x : X) × (f x ≡ Some y)
given_by f y [] h = absurd h
given_by f y (x ∷ xs) h = option_in f x y (filter_map f xs) (f x) refl (given_by f y xs) h

-- the holder of a reference is the object whose field it is
holder_of : (i k : ℕ) (of : ResolvedType) (v : Option Value) (r : FieldReference) → reference_of i k of v ≡ Some r → r.holder ≡ i
holder_of i k (Reference d p) (Some (reference n)) r e = sym (ap (λ (x : FieldReference). x.holder) (some_is _ r e))
holder_of i k (Reference d p) (Some (int_value z)) r e = absurd (none_is_some e)
holder_of i k (Reference d p) (Some (bool_value b)) r e = absurd (none_is_some e)
holder_of i k (Reference d p) (Some (text_value bytes)) r e = absurd (none_is_some e)
holder_of i k (Reference d p) None r e = absurd (none_is_some e)
holder_of i k Int v r e = absurd (none_is_some e)
holder_of i k BoolKind v r e = absurd (none_is_some e)
holder_of i k Text v r e = absurd (none_is_some e)

holder_in : (table : ClassTable) (i : ℕ) (o : Object) (r : FieldReference) → IsIn r (references_of table i o) → r.holder ≡ i
holder_in table i o r h = by (contract_at table o.contract) h
  where
    by : (x : Option Contract) → IsIn r (option_map_or (λ (c : Contract). filter_map (λ (f : ℕ × Field). reference_of i f.0 f.1.of (available_value c o f.0)) (enumerate_from 0 c.fields)) x []) → r.holder ≡ i
    by None k = absurd k
    by (Some c) k =
        let g = given_by (λ (f : ℕ × Field). reference_of i f.0 f.1.of (available_value c o f.0)) r (enumerate_from 0 c.fields) k in
        holder_of i g.0.0 g.0.1.of (available_value c o g.0.0) r g.1

-- Handles.

all_in : (P : NamedHandle → Type 0) (h : NamedHandle) (handles : List NamedHandle) → All P handles → IsIn h handles → P h
all_in P h [] all k = absurd k
all_in P h (g ∷ handles) all (inl e) = subst P e (head_of P g handles all)
all_in P h (g ∷ handles) all (inr k) = all_in P h handles (tail_of P g handles all) k

-- a handle is found by its name where each name stands once
named_in : (h : NamedHandle) (handles : List NamedHandle) → AllPairs Before handles → IsIn h handles → find_key name_order h.0 handles ≡ Some h.1
named_in h [] pairs k = absurd k
named_in h (g ∷ handles) pairs (inl e) =
    ap (λ b. cond b (Some g.1) (find_key name_order h.0 handles)) (ap is_eq (ap (λ (x : NamedHandle). name_order h.0 x.0) e ∙ tied_itself names_total h.0)) ∙ ap (λ (x : NamedHandle). Some x.1) e
named_in h (g ∷ handles) pairs (inr k) =
    let less : name_order g.0 h.0 ≡ Less = all_in (Before g) h handles (head_before g handles pairs) k in
    ap (λ b. cond b (Some g.1) (find_key name_order h.0 handles)) (ap is_eq (names_total.antisymm h.0 g.0 ∙ ap ordering_reverse less)) ∙ named_in h handles (tail_pairs g handles pairs) k

stands_if : (name : HandleName) (g : NamedHandle) (handles : List NamedHandle) (h : Handle) (b : Bool) → eq_by_cmp name_order name g.0 ≡ b → (find_key name_order name handles ≡ Some h → IsIn (name, h) handles)
    → cond b (Some g.1) (find_key name_order name handles) ≡ Some h → IsIn (name, h) (g ∷ handles)
stands_if name g handles h true i go f =
    let first : g.0 ≡ name = sym (one_name_tested name g.0 i) in
    let second : g.1 ≡ h = some_is g.1 h f in
    inl (λ j. (first j, second j))
stands_if name g handles h false i go f = inr (go f)

stands_in : (name : HandleName) (handles : List NamedHandle) (h : Handle) → find_key name_order name handles ≡ Some h → IsIn (name, h) handles
stands_in name [] h e = absurd (none_is_some e)
stands_in name (g ∷ handles) h e = stands_if name g handles h (eq_by_cmp name_order name g.0) refl (stands_in name handles h) e

-- Places that are the same on both.

module _ (items : List ReadItem) (table : ClassTable) (c d : Content) (n : ℕ) (a : AgreeOn items c d) where
  field_stays : (r : FieldReference) → Contains items (object_item r.holder) → IsIn r (fields_onto table c.objects n) → IsIn r (fields_onto table d.objects n)
  field_stays r read h =
      let p = passed (λ (x : FieldReference). nat_eq x.object n) r (field_references table c.objects) h in
      let s = stood_in table c.objects 0 r p.0 in
      let here : r.holder ≡ s.number = holder_in table (0 + s.number) s.object r s.among ∙ (let z : 0 + s.number ≡ s.number = omega arith in z) in
      let same : object_at d.objects s.number ≡ Some s.object = a.objects.objects s.number (subst (λ k. Contains items (object_item k)) here read) ∙ s.there in
      in_filter (λ (x : FieldReference). nat_eq x.object n) r (field_references table d.objects) (in_fields table d.objects 0 s.number s.object r same s.among) p.1

  handle_stays : (h : NamedHandle) → AllPairs Before c.handles → Contains items (handle_item h.0) → IsIn h (handles_onto c.handles n) → IsIn h (handles_onto d.handles n)
  handle_stays h order read k =
      let p = passed (λ (x : NamedHandle). nat_eq x.1.object n) h c.handles k in
      in_filter (λ (x : NamedHandle). nat_eq x.1.object n) h d.handles (stands_in h.0 d.handles h.1 (a.handles h.0 read ∙ named_in h c.handles order p.0)) p.1

  place_stays : (r : IncomingReference) → AllPairs Before c.handles → Contains items (place_item r.place)
      → IsIn r (map incoming_by_field (fields_onto table c.objects n)) ⊎ IsIn r (map incoming_by_handle (handles_onto c.handles n)) → IsIn r (incoming_references table d n)
  place_stays r order read (inl h) =
      let m = mapped_from incoming_by_field r (fields_onto table c.objects n) h in
      in_left r (map incoming_by_field (fields_onto table d.objects n)) (map incoming_by_handle (handles_onto d.handles n))
      (subst (λ (x : IncomingReference). IsIn x (map incoming_by_field (fields_onto table d.objects n))) m.2
      (in_map incoming_by_field m.0 (fields_onto table d.objects n) (field_stays m.0 (subst (λ (x : IncomingReference). Contains items (place_item x.place)) (sym m.2) read) m.1)))
  place_stays r order read (inr h) =
      let m = mapped_from incoming_by_handle r (handles_onto c.handles n) h in
      in_right r (map incoming_by_field (fields_onto table d.objects n)) (map incoming_by_handle (handles_onto d.handles n))
      (subst (λ (x : IncomingReference). IsIn x (map incoming_by_handle (handles_onto d.handles n))) m.2
      (in_map incoming_by_handle m.0 (handles_onto d.handles n) (handle_stays m.0 order (subst (λ (x : IncomingReference). Contains items (place_item x.place)) (sym m.2) read) m.1)))

few_of : (k : ℕ) → nat_lt 1 k ≡ false → k ≤ 1
few_of k e = omega (arith, ltb-false 1 k e)

pub owner_stays : (items : List ReadItem) (table : ClassTable) (c d : Content) (n : ℕ) (o : Object) (r : IncomingReference) → AgreeOn items c d → IsStoreAtRest table c → IsStoreAtRest table d → object_at d.objects n ≡ Some o
    → Contains items (place_item r.place) → owner_of table c n ≡ Some r → owner_of table d n ≡ Some r
owner_stays items table c d n o r a before after there read found =
    let f = found_in (λ (x : IncomingReference). is_owned x.mode) r (incoming_references table c n) found in
    only_found (λ (x : IncomingReference). is_owned x.mode) r (incoming_references table d n) f.1 (few_of _ (fails_by_none table d after.at_rest n o there many_owners))
    (place_stays items table c d n a r before.is_content.order read (in_either r (map incoming_by_field (fields_onto table c.objects n)) (map incoming_by_handle (handles_onto c.handles n)) f.0))

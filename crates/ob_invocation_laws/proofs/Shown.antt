-- In a content of a class table each object and each owning place can be shown.
use Rattle.std.proofs.Common.{◌≡◌, ◌∙◌, ℕ, zero, suc, ◌+◌, ◌<◌, Bool, true, false, List, [], ◌∷◌, ◌++◌, length, map, filter, Option, Some, None, refl, sym, ap, subst, arith}
use Rattle.std.specs.Prelude.{cond, nat_eq, slice_get, find, filter_map, flat_map, All, IsSomeAnd, ⊤}
use Rattle.std.specs.Ordering.{eq_by_cmp}
use Rattle.std.specs.FinMap.Entries.{find as find_key}
use Rattle.std.specs.Option.{option_map_or}
use Rattle.std.specs.List.{enumerate_from, cons_option}
use Rattle.ob_table.specs.Tables.{ClassTable, contract_at}
use Rattle.ob_table.specs.declared.contract.Contract.{Contract}
use Rattle.ob_table.specs.declared.contract.Field.{Field}
use Rattle.ob_table.specs.declared.contract.ResolvedType.{ResolvedType}
use Rattle.ob_table.specs.declared.contract.ResolvedType.TheVariants.{Int, Bool as BoolKind, Text, Reference}
use Rattle.ob_heap_spec.specs.Values.{Value, int_value, bool_value, text_value, reference}
use Rattle.ob_heap_spec.specs.Objects.{Object}
use Rattle.ob_heap_spec.specs.Contents.{HandleName, Handle, Content, IsHandle, IsObject, IsObjectOf, object_at, name_order}
use Rattle.ob_rest_spec.specs.Modes.{is_owned}
use Rattle.ob_rest_spec.specs.References.{FieldReference, reference_of, available_value, references_of, field_references}
use Rattle.ob_rest_spec.specs.Incoming.{IncomingReference, incoming_by_field, incoming_by_handle, fields_onto, handles_onto, owner_of}
use Rattle.ob_invocation_spec.specs.Replies.{ShownPlace, shown_field, shown_handle}
use Rattle.ob_invocation_spec.specs.Showing.{contract_of_object, shown_at, shown_place}
use Rattle.ob_invocation_laws.proofs.Handles.{head_of, tail_of}
use Rattle.ob_heap_spec.proofs.Items.{item_of}
use Rattle.ob_heap_spec.specs.Handles.{NamedHandle, handle_at}

-- Objects.

-- the handle of a name is on one of the objects
pub found_object : (objects : List Object) (name : HandleName) (handles : List NamedHandle) (h : Handle)
    → All (IsHandle objects) handles → find_key name_order name handles ≡ Some h → h.object < length objects
found_object objects name [] h all there = absurd cc
found_object objects name (g ∷ handles) h all there =
    at_test (eq_by_cmp name_order name g.0) there
    (λ later. found_object objects name handles h (tail_of (IsHandle objects) g handles all) later)
  where
    at_test : (b : Bool) → cond b (Some g.1) (find_key name_order name handles) ≡ Some h
        → (find_key name_order name handles ≡ Some h → h.object < length objects) → h.object < length objects
    at_test true here rest =
        let same : g.1 ≡ h = cc in
        let is = head_of (IsHandle objects) g handles all in
        subst (λ (x : Handle). x.object < length objects) same is.object
    at_test false here rest = rest here

-- there is an object of each number below
pub there_below : (objects : List Object) (n : ℕ) → n < length objects → (o : Object) × (object_at objects n ≡ Some o)
there_below [] n below = absurd (omega arith)
there_below (o ∷ objects) zero below = (o, refl)
there_below (o ∷ objects) (suc n) below = there_below objects n (omega arith)

-- an object of a table has its contract
pub has_contract : (table : ClassTable) (objects : List Object) (o : Object) → IsObject table objects o
    → (c : Contract) × (contract_at table o.contract ≡ Some c)
has_contract table objects o is = at_contract (contract_at table o.contract) is refl
  where
    at_contract : (c : Option Contract) → IsSomeAnd c (λ c. IsObjectOf objects c o) → contract_at table o.contract ≡ c
        → (c : Contract) × (contract_at table o.contract ≡ Some c)
    at_contract None is same = absurd is
    at_contract (Some c) is same = (c, same)

-- the object of a handle can be shown
pub object_is_shown : (table : ClassTable) (content : Content) (name : HandleName) (h : Handle)
    → All (IsObject table content.objects) content.objects → All (IsHandle content.objects) content.handles
    → handle_at content name ≡ Some h → shown_at table content.objects h.object ≡ None → ⊥
object_is_shown table content name h objects handles there lost =
    let below = found_object content.objects name content.handles h handles there in
    let o = there_below content.objects h.object below in
    let is = item_of (IsObject table content.objects) content.objects objects h.object o.0 o.1 in
    let c = has_contract table content.objects o.0 is in
    absurd (let gone = rw (o.1, c.1) at lost in cc)

-- Owning places.

-- it holds of each item
abbrev Each : {X : Type 0} → (X → Type 0) → List X → Type 0
Each P [] = ⊤
Each P (x ∷ xs) = P x × Each P xs

each_append : {X : Type 0} (P : X → Type 0) (xs ys : List X) → Each P xs → Each P ys → Each P (xs ++ ys)
each_append P [] ys a b = b
each_append P (x ∷ xs) ys a b = (a.0, each_append P xs ys a.1 b)

each_filter : {X : Type 0} (P : X → Type 0) (test : X → Bool) (xs : List X) → Each P xs → Each P (filter test xs)
each_filter P test [] a = tt
each_filter {X} P test (x ∷ xs) a = go (test x) (each_filter P test xs a.1)
  where
    go : (b : Bool) → Each P (filter test xs) → Each P (cond b (x ∷ filter test xs) (filter test xs))
    go true rest = (a.0, rest)
    go false rest = rest

each_map : {X Y : Type 0} (P : X → Type 0) (Q : Y → Type 0) (f : X → Y) (xs : List X) → ((x : X) → P x → Q (f x))
    → Each P xs → Each Q (map f xs)
each_map P Q f [] has a = tt
each_map P Q f (x ∷ xs) has a = (has x a.0, each_map P Q f xs has a.1)

each_found : {X : Type 0} (P : X → Type 0) (test : X → Bool) (xs : List X) (x : X) → Each P xs → find test xs ≡ Some x
    → P x
each_found P test [] x a there = absurd cc
each_found {X} P test (y ∷ xs) x a there = go (test y) there (λ later. each_found P test xs x a.1 later)
  where
    go : (b : Bool) → cond b (Some y) (find test xs) ≡ Some x → (find test xs ≡ Some x → P x) → P x
    go true here rest = let same : y ≡ x = cc in subst P same a.0
    go false here rest = rest here

module _ (table : ClassTable) (objects : List Object) where
  -- a reference stands in a field that can be shown
  abbrev InField : FieldReference → Type 0
  InField r = (c : Contract) × (f : Field) × (contract_of_object table objects r.holder ≡ Some c)
      × (slice_get c.fields r.field ≡ Some f)

  abbrev SoOf : Option FieldReference → Type 0
  SoOf None = ⊤
  SoOf (Some r) = InField r

  each_option : (o : Option FieldReference) (rs : List FieldReference) → SoOf o → Each InField rs
      → Each InField (cons_option o rs)
  each_option None rs a b = b
  each_option (Some r) rs a b = (a, b)

  value_so : (i k : ℕ) (of : ResolvedType) (v : Option Value) (c : Contract) (f : Field)
      → contract_of_object table objects i ≡ Some c → slice_get c.fields k ≡ Some f → SoOf (reference_of i k of v)
  value_so i k (Reference d p) None c f own there = tt
  value_so i k (Reference d p) (Some (reference n)) c f own there = (c, f, own, there)
  value_so i k (Reference d p) (Some (int_value z)) c f own there = tt
  value_so i k (Reference d p) (Some (bool_value z)) c f own there = tt
  value_so i k (Reference d p) (Some (text_value z)) c f own there = tt
  value_so i k Int v c f own there = tt
  value_so i k BoolKind v c f own there = tt
  value_so i k Text v c f own there = tt

  fields_so : (i : ℕ) (c : Contract) (values : ℕ → Option Value) (j : ℕ) (fs : List Field)
      → contract_of_object table objects i ≡ Some c
      → ((k : ℕ) (f : Field) → slice_get fs k ≡ Some f → slice_get c.fields (j + k) ≡ Some f)
      → Each InField (filter_map (λ (f : ℕ × Field). reference_of i f.0 f.1.of (values f.0)) (enumerate_from j fs))
  fields_so i c values j [] own there = tt
  fields_so i c values j (f ∷ fs) own there =
      each_option (reference_of i j f.of (values j))
      (filter_map (λ (f : ℕ × Field). reference_of i f.0 f.1.of (values f.0)) (enumerate_from (j + 1) fs))
      (value_so i j f.of (values j) c f own
      (ap (slice_get c.fields) (let z : j ≡ j + 0 = omega arith in z) ∙ there 0 f refl))
      (fields_so i c values (j + 1) fs own (λ k g e.
      ap (slice_get c.fields) (let z : j + 1 + k ≡ j + suc k = omega arith in z) ∙ there (suc k) g e))

  object_so : (i : ℕ) (o : Object) → object_at objects i ≡ Some o → Each InField (references_of table i o)
  object_so i o there = at_contract (contract_at table o.contract) refl
    where
      at_contract : (c : Option Contract) → contract_at table o.contract ≡ c
          → Each InField (option_map_or
          (λ c. filter_map (λ f. reference_of i f.0 f.1.of (available_value c o f.0)) (enumerate_from 0 c.fields)) c [])
      at_contract None own = tt
      at_contract (Some c) own =
          fields_so i c (available_value c o) 0 c.fields (rw there own)
          (λ k f e. ap (slice_get c.fields) (let z : 0 + k ≡ k = omega arith in z) ∙ e)

  objects_so : (i : ℕ) (os : List Object)
      → ((k : ℕ) (o : Object) → slice_get os k ≡ Some o → object_at objects (i + k) ≡ Some o)
      → Each InField (flat_map (λ (o : ℕ × Object). references_of table o.0 o.1) (enumerate_from i os))
  objects_so i [] there = tt
  objects_so i (o ∷ os) there =
      each_append InField (references_of table i o)
      (flat_map (λ (o : ℕ × Object). references_of table o.0 o.1) (enumerate_from (i + 1) os))
      (object_so i o (ap (object_at objects) (let z : i ≡ i + 0 = omega arith in z) ∙ there 0 o refl))
      (objects_so (i + 1) os (λ k p e.
      ap (object_at objects) (let z : i + 1 + k ≡ i + suc k = omega arith in z) ∙ there (suc k) p e))

  -- a place that can be shown
  abbrev IsShown : IncomingReference → Type 0
  IsShown r = (shown : ShownPlace) × (shown_place table objects r.place ≡ Some shown)

  field_shown : (r : FieldReference) → InField r → IsShown (incoming_by_field r)
  field_shown r is = let f = is.1 in (shown_field r.holder f.name, rw (is.2, is.3) refl)

  handle_shown : (h : NamedHandle) → IsShown (incoming_by_handle h)
  handle_shown h = (shown_handle h.0, refl)

  each_handle : (hs : List NamedHandle) → Each IsShown (map incoming_by_handle hs)
  each_handle [] = tt
  each_handle (h ∷ hs) = (handle_shown h, each_handle hs)

-- the owner of an object can be shown
pub owner_is_shown : (table : ClassTable) (content : Content) (n : ℕ) (r : IncomingReference)
    → owner_of table content n ≡ Some r → shown_place table content.objects r.place ≡ None → ⊥
owner_is_shown table content n r found lost =
    let fields = fields_onto table content.objects n in
    let handles = handles_onto content.handles n in
    let each = each_append (IsShown table content.objects) (map incoming_by_field fields)
    (map incoming_by_handle handles)
    (each_map (InField table content.objects) (IsShown table content.objects) incoming_by_field fields
    (field_shown table content.objects)
    (each_filter (InField table content.objects) (λ r. nat_eq r.object n) (field_references table content.objects)
    (objects_so table content.objects 0 content.objects
    (λ k o e. ap (object_at content.objects) (let z : 0 + k ≡ k = omega arith in z) ∙ e))))
    (each_handle table content.objects handles) in
    let shown = each_found (IsShown table content.objects) (λ r. is_owned r.mode)
    (map incoming_by_field fields ++ map incoming_by_handle handles) r each found in
    absurd (let gone = sym shown.1 ∙ lost in cc)

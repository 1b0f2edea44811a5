-- The values of an object, as they are stored, and whether an object is stored so.
use Rattle.std.proofs.Common.{◌≡◌, ◌∙◌, ℕ, zero, suc, ◌<◌, ◌+◌, Bool, true, false, List, [], ◌∷◌, ◌++◌, length, map, take, Option, Some, None, refl, sym, ap, append_assoc, append-nil, add-one, arith}
use Rattle.std.specs.Prelude.{slice_get, option_map, option_to_list, if◌then◌else◌}
use Rattle.std.specs.Option.{option_map_or}
use Rattle.std.specs.Ordering.{is_eq, ordering_reverse}
use Rattle.std.specs.Str.{bytes_eq}
use Rattle.std.specs.FinMap.Entries.{find as find_key}
use Rattle.std.specs.declared.cmp.Ordering.{Ordering}
use Rattle.std.specs.declared.cmp.Ordering.TheVariants.{Less, Equal, Greater}
use Rattle.std.proofs.lemmas.Option.{slice_get-map}
use Rattle.ob_base.specs.declared.id.StateId.{StateId}
use Rattle.ob_base.specs.declared.name.Label.{Label}
use Rattle.ob_table.specs.Tables.{ClassTable}
use Rattle.ob_table.specs.declared.contract.Field.{Field}
use Rattle.ob_heap.specs.Contents.{Stored, content_of, named_of, name_of, handle_at}
use Rattle.ob_heap.specs.Plain.{object_of, handle_of}
use Rattle.ob_heap.specs.declared.object.Object.{Object}
use Rattle.ob_heap.specs.declared.object.Handle.{Handle}
use Rattle.ob_heap.proofs.HandlesLemmas.{names_total}
use Rattle.ob_heap_spec.specs.Values.{Value, Numbered}
use Rattle.ob_heap_spec.specs.Objects.{Object as PlainObject, is_available}
use Rattle.ob_heap_spec.specs.Contents.{HandleName, Handle as PlainHandle, name_order}
use Rattle.ob_format_spec.specs.Combinators.{each_bytes}
use Rattle.ob_store_spec.specs.Payloads.{StoredObject, value, object, held}
use Rattle.ob_store_spec.specs.Between.{values_from, stored_object, is_stored_so, is_held_so}
use Rattle.ob_store_payload.proofs.RowLemmas.{each_bytes-append}

-- the value of a field at a place among these, where it is available
abbrev pub value_of_field : Option Field → Option StateId → Numbered Value → ℕ → List Value
value_of_field f state values n = option_to_list (if option_map_or (is_available state) f false then values n else None)

-- the values of one more field
pub values_step : (k n i : ℕ) (fs : List Field) (state : Option StateId) (values : Numbered Value) → i < length fs → n ≡ k + i
    → values_from k (take (suc i) fs) state values ≡ values_from k (take i fs) state values ++ value_of_field (slice_get fs i) state values n
values_step k n i [] state values less is = absurd (omega (arith, less))
values_step k n zero (f ∷ fs) state values less is = by (is_available state f)
  where
    same : k ≡ n
    same = omega (arith, is)

    by : (b : Bool) → (if b then option_to_list (values k) ++ [] else []) ≡ option_to_list (if b then values n else None)
    by true = append-nil (option_to_list (values k)) ∙ ap (λ m. option_to_list (values m)) same
    by false = refl
values_step k n (suc i) (f ∷ fs) state values less is = by (is_available state f) (values_step (suc k) n i fs state values (omega (arith, less)) (omega (arith, is)))
  where
    more : List Value
    more = values_from (suc k) (take (suc i) fs) state values

    here : List Value
    here = values_from (suc k) (take i fs) state values

    last : List Value
    last = value_of_field (slice_get fs i) state values n

    by : (b : Bool) → more ≡ here ++ last
        → (if b then option_to_list (values k) ++ more else more) ≡ (if b then option_to_list (values k) ++ here else here) ++ last
    by true rest = ap (λ l. option_to_list (values k) ++ l) rest ∙ sym (append_assoc (option_to_list (values k)) here last)
    by false rest = rest

-- the bytes of one more field's value
pub values_put : (i : ℕ) (fs : List Field) (state : Option StateId) (values : Numbered Value) (before out new : List ℕ) → i < length fs
    → out ≡ before ++ each_bytes value.bytes (values_from 0 (take i fs) state values)
    → new ≡ out ++ each_bytes value.bytes (value_of_field (slice_get fs i) state values i)
    → new ≡ before ++ each_bytes value.bytes (values_from 0 (take (i + 1) fs) state values)
values_put i fs state values before out new less is put =
    let so_far = values_from 0 (take i fs) state values in
    let last = value_of_field (slice_get fs i) state values i in
    let more : values_from 0 (take (i + 1) fs) state values ≡ so_far ++ last =
    ap (λ n. values_from 0 (take n fs) state values) (add-one i) ∙ values_step 0 i i fs state values less (omega arith) in
    put ∙ ap (λ l. l ++ each_bytes value.bytes last) is ∙ append_assoc before (each_bytes value.bytes so_far) (each_bytes value.bytes last)
    ∙ ap (λ l. before ++ l) (sym (each_bytes-append value.bytes so_far last) ∙ sym (ap (each_bytes value.bytes) more))

-- ---- what is stored so

module _ (table : ClassTable) (base : Stored) (n : ℕ) (bytes : List ℕ) (same : Bool) where
  -- whether the object that is found among these is stored so
  abbrev found : StoredObject → ℕ → Option PlainObject → Bool
  found o m r = option_map_or (λ x. bytes_eq ((object table).bytes (stored_object table m x)) ((object table).bytes o)) r false

  abbrev IsSame : Type 0
  IsSame = (o : StoredObject) → o.number ≡ n → bytes ≡ (object table).bytes o → same ≡ is_stored_so table (content_of base).objects o

  pub stored_there : (x : Object) (stored : List ℕ) → slice_get base.objects n ≡ Some x → stored ≡ (object table).bytes (stored_object table n (object_of x))
      → same ≡ bytes_eq stored bytes → IsSame
  stored_there x stored at is told o number spelled =
      told ∙ ap (λ l. bytes_eq l bytes) is ∙ ap (λ l. bytes_eq ((object table).bytes (stored_object table n (object_of x))) l) spelled
      ∙ sym (ap (λ r. found o n r) (slice_get-map object_of base.objects n ∙ ap (option_map object_of) at))
      ∙ sym (ap (λ m. found o m (slice_get (map object_of base.objects) m)) number)

  pub stored_missing : slice_get base.objects n ≡ None → same ≡ false → IsSame
  stored_missing at told o number spelled =
      told ∙ sym (ap (λ r. found o n r) (slice_get-map object_of base.objects n ∙ ap (option_map object_of) at))
      ∙ sym (ap (λ m. found o m (slice_get (map object_of base.objects) m)) number)

turned : (o : Ordering) → is_eq (ordering_reverse o) ≡ is_eq o
turned Less = refl
turned Equal = refl
turned Greater = refl

-- the handle of a name
pub plain_at : (n : HandleName) (hs : List ((Label × Label) × Handle)) → find_key name_order n (map named_of hs) ≡ option_map handle_of (handle_at n hs)
plain_at n [] = refl
plain_at n (h ∷ hs) =
    ap (λ b. if b then Some (handle_of h.1) else find_key name_order n (map named_of hs))
    (ap is_eq (names_total.antisymm n (name_of h.0)) ∙ turned (name_order (name_of h.0) n))
    ∙ by (is_eq (name_order (name_of h.0) n)) (plain_at n hs)
  where
    by : (b : Bool) → find_key name_order n (map named_of hs) ≡ option_map handle_of (handle_at n hs)
        → (if b then Some (handle_of h.1) else find_key name_order n (map named_of hs)) ≡ option_map handle_of (if b then Some h.1 else handle_at n hs)
    by true e = refl
    by false e = e

pub held_same : (base : Stored) (name : Label × Label) (before : Option Handle) (stored bytes : List ℕ) (same : Bool)
    → before ≡ handle_at (name_of name) base.handles → stored ≡ held.bytes (option_map handle_of before) → same ≡ bytes_eq stored bytes
    → (h : Option PlainHandle) → bytes ≡ held.bytes h → same ≡ is_held_so (content_of base) (name_of name, h)
held_same base name before stored bytes same at is told h spelled =
    told ∙ ap (λ l. bytes_eq l bytes) (is ∙ ap (λ r. held.bytes (option_map handle_of r)) at ∙ ap held.bytes (sym (plain_at (name_of name) base.handles)))
    ∙ ap (λ l. bytes_eq (held.bytes (find_key name_order (name_of name) (map named_of base.handles))) l) spelled

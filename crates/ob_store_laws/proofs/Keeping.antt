-- Changes keep a content one of its class table.
use Rattle.std.proofs.Common.{◌≡◌, ℕ, ◌≤◌, Bool, true, false, List, [], ◌∷◌, ◌++◌, length, Option, Some, None, refl, subst, arith, length-append, length-set}
use Rattle.std.specs.Prelude.{nat_lt, not, fold, set, slice_get, All, IfSome, IsSomeAnd, if◌then◌else◌}
use Rattle.std.specs.Ordering.{eq_by_cmp}
use Rattle.std.specs.FinMap.Entries.{put as put_key, by_order}
use Rattle.std.specs.declared.cmp.Ordering.{Ordering}
use Rattle.std.specs.declared.cmp.Ordering.TheVariants.{Less, Equal, Greater}
use Rattle.std.proofs.lemmas.List.Elements.{All-cons, All-head, All-tail, All-set, All-push, All-filter, All-weaker}
use Rattle.ob_table.specs.Tables.{ClassTable, contract_at}
use Rattle.ob_table.specs.declared.contract.Contract.{Contract}
use Rattle.ob_table.specs.declared.contract.Field.{Field}
use Rattle.ob_table.specs.declared.contract.ResolvedType.{ResolvedType}
use Rattle.ob_table.specs.declared.contract.ResolvedType.TheVariants.{Int, Bool as BoolKind, Text, Reference}
use Rattle.ob_heap_spec.specs.Values.{Value, int_value, bool_value, text_value, reference}
use Rattle.ob_heap_spec.specs.Objects.{Object}
use Rattle.ob_heap_spec.specs.Contents.{HandleName, Handle, Content, IsValueOf, IsObjectOf, IsObject, IsHandle, name_order}
use Rattle.ob_heap_spec.specs.Handles.{NamedHandle}
use Rattle.ob_heap_spec.proofs.Names.{one_name}
use Rattle.ob_store_spec.specs.Payloads.{StoredObject}
use Rattle.ob_store_spec.specs.Changes.{object_of, with_object, with_change, with_changes, IsHandleChange}
use Rattle.ob_store_laws.specs.Laws.{ChangesKeepContents}
use Rattle.ob_store_laws.proofs.Entries.{sorted_of, of_sorted}
use Rattle.ob_store_laws.proofs.Handles.{Change, sorted_changed}

-- More objects.

value_grows : (objects after : List Object) → length objects ≤ length after → (kind : ResolvedType) (v : Value) → IsValueOf objects kind v → IsValueOf after kind v
value_grows objects after more Int (int_value z) is = is
value_grows objects after more Int (bool_value z) is = absurd is
value_grows objects after more Int (text_value z) is = absurd is
value_grows objects after more Int (reference n) is = absurd is
value_grows objects after more BoolKind (int_value z) is = absurd is
value_grows objects after more BoolKind (bool_value z) is = is
value_grows objects after more BoolKind (text_value z) is = absurd is
value_grows objects after more BoolKind (reference n) is = absurd is
value_grows objects after more Text (int_value z) is = absurd is
value_grows objects after more Text (bool_value z) is = absurd is
value_grows objects after more Text (text_value z) is = is
value_grows objects after more Text (reference n) is = absurd is
value_grows objects after more (Reference id p) (int_value z) is = absurd is
value_grows objects after more (Reference id p) (bool_value z) is = absurd is
value_grows objects after more (Reference id p) (text_value z) is = absurd is
value_grows objects after more (Reference id p) (reference n) is = omega arith

-- an object of a class table is one where there are more objects
pub object_grows : (table : ClassTable) (objects after : List Object) → length objects ≤ length after → (o : Object)
    → IsObject table objects o → IsObject table after o
object_grows table objects after more o is = by (contract_at table o.contract) is
  where
    at_field : (v : Value) (f : Option Field) → IsSomeAnd f (λ f. IsValueOf objects f.of v) → IsSomeAnd f (λ f. IsValueOf after f.of v)
    at_field v None is = is
    at_field v (Some f) is = value_grows objects after more f.of v is

    at_value : (c : Contract) (k : ℕ) (v : Option Value) → IfSome v (λ v. IsSomeAnd (slice_get c.fields k) (λ f. IsValueOf objects f.of v))
        → IfSome v (λ v. IsSomeAnd (slice_get c.fields k) (λ f. IsValueOf after f.of v))
    at_value c k None is = tt
    at_value c k (Some v) is = at_field v (slice_get c.fields k) is

    by : (r : Option Contract) → IsSomeAnd r (λ c. IsObjectOf objects c o) → IsSomeAnd r (λ c. IsObjectOf after c o)
    by None is = is
    by (Some c) is = record { contract = is.contract; state = is.state; fields = is.fields; values = λ k. at_value c k (o.fields k) (is.values k) }

-- Objects after changes.

module _ (table : ClassTable) where
  more_with : (os : List Object) (o : StoredObject) → length os ≤ length (with_object table os o)
  more_with os o = by (nat_lt o.number (length os))
    where
      by : (b : Bool) → length os ≤ length (if b then set os o.number (object_of table o) else os ++ object_of table o ∷ [])
      by true = let l = length-set os o.number (object_of table o) in omega arith
      by false = let l = length-append os (object_of table o ∷ []) in omega arith

  pub more_after : (os : List Object) (cs : List StoredObject) → length os ≤ length (fold (with_object table) os cs)
  more_after os [] = omega arith
  more_after os (c ∷ cs) = let one = more_with os c in let rest = more_after (with_object table os c) cs in omega arith

  all_after : (P : Object → Type 0) (os : List Object) (cs : List StoredObject) → All P os → All (λ c. P (object_of table c)) cs
      → All P (fold (with_object table) os cs)
  all_after P os [] all changed = all
  all_after P os (c ∷ cs) all changed =
      all_after P (with_object table os c) cs (by (nat_lt c.number (length os))) (All-tail (λ d. P (object_of table d)) c cs changed)
    where
      here : P (object_of table c)
      here = All-head (λ d. P (object_of table d)) c cs changed

      by : (b : Bool) → All P (if b then set os c.number (object_of table c) else os ++ object_of table c ∷ [])
      by true = All-set P os c.number (object_of table c) here all
      by false = All-push P os (object_of table c) all here

-- Handles after changes.

module _ (P : NamedHandle → Type 0) where
  pub all_put : (n : HandleName) (h : Handle) (hs : List NamedHandle) → P (n, h) → All P hs → All P (put_key name_order n h hs)
  all_put n h [] here all = All-cons P (n, h) [] here all
  all_put n h (y ∷ hs) here all = by (name_order n y.0) refl (all_put n h hs here (All-tail P y hs all))
    where
      by : (o : Ordering) → name_order n y.0 ≡ o → All P (put_key name_order n h hs)
          → All P (by_order o ((n, h) ∷ y ∷ hs) ((y.0, h) ∷ hs) (y ∷ put_key name_order n h hs))
      by Less is rest = All-cons P (n, h) (y ∷ hs) here all
      by Equal is rest = All-cons P (y.0, h) hs (subst (λ k. P (k, h)) (one_name n y.0 is) here) (All-tail P y hs all)
      by Greater is rest = All-cons P y (put_key name_order n h hs) (All-head P y hs all) rest

  -- a handle that is put is one of these
  abbrev pub MayPut : Change → Type 0
  MayPut d = IfSome d.1 (λ h. P (d.0, h))

  all_changed : (hs : List NamedHandle) (ds : List Change) → All P hs → All MayPut ds → All P (fold with_change hs ds)
  all_changed hs [] all may = all
  all_changed hs (d ∷ ds) all may = all_changed (with_change hs d) ds (by d (All-head MayPut d ds may)) (All-tail MayPut d ds may)
    where
      by : (d : Change) → MayPut d → All P (with_change hs d)
      by (n, None) may = All-filter (λ (h : NamedHandle). not (eq_by_cmp name_order n h.0)) P hs all
      by (n, Some h) may = all_put n h hs may all

-- a change of a handle on objects puts one on them, if any
may_put : (objects : List Object) (d : Change) → IsHandleChange (length objects) d → MayPut (IsHandle objects) d
may_put objects (n, None) is = tt
may_put objects (n, Some h) is = record { who = is.who; name = is.name; object = is.object }

pub changes_keep_contents : ChangesKeepContents
changes_keep_contents table content changes was are = record {
  objects = all_after table (IsObject table after.objects) content.objects changes.objects
      (All-weaker (IsObject table content.objects) (IsObject table after.objects) (object_grows table content.objects after.objects more)
      content.objects was.objects) are.objects;
  handles = all_changed (IsHandle after.objects) content.handles changes.handles
      (All-weaker (IsHandle content.objects) (IsHandle after.objects) handle_grows content.handles was.handles)
      (All-weaker (IsHandleChange (length after.objects)) (MayPut (IsHandle after.objects)) (may_put after.objects) changes.handles are.handles);
  order = of_sorted name_order after.handles (sorted_changed content.handles changes.handles (sorted_of name_order content.handles was.order));
}
  where
    after : Content
    after = with_changes table content changes

    more : length content.objects ≤ length after.objects
    more = more_after table content.objects changes.objects

    handle_grows : (h : NamedHandle) → IsHandle content.objects h → IsHandle after.objects h
    handle_grows h is = record { who = is.who; name = is.name; object = (let low = is.object in let m = more in omega arith) }

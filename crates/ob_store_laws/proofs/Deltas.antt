-- What a delta of a class table says of a content are changes of it.
use Rattle.std.proofs.Common.{◌≡◌, ℕ, suc, ◌<◌, ◌≤◌, List, [], ◌∷◌, length, map, sym, subst, arith}
use Rattle.std.specs.Prelude.{nat_lt, All, AllPairs, if◌then◌else◌}
use Rattle.std.proofs.lemmas.List.{length-map}
use Rattle.std.proofs.lemmas.List.Elements.{All-nil, All-cons, All-map, All-weaker}
use Rattle.std.proofs.lemmas.List.Kept.{AllPairs-cons}
use Rattle.ob_base.specs.Limits.{most_objects, most_handles}
use Rattle.ob_base.specs.declared.id.ObjectId.{ObjectId}
use Rattle.ob_table.specs.Tables.{ClassTable}
use Rattle.ob_heap.specs.Ascending.{IsBelowAll, IsAscending}
use Rattle.ob_heap.specs.Contents.{content_of}
use Rattle.ob_heap.specs.Deltas.{label_order}
use Rattle.ob_heap.specs.Deltas as kept
use Rattle.ob_heap.specs.Plain.{object_of}
use Rattle.ob_heap.specs.declared.object.Object.{Object}
use Rattle.ob_heap_spec.specs.Contents.{Content, IsObject, name_order}
use Rattle.ob_store_spec.specs.Payloads.{StoredObject}
use Rattle.ob_store_spec.specs.Changes.{with_changes, AreNext, IsHandleChange}
use Rattle.ob_store_spec.specs.Changes as stored
use Rattle.ob_store_laws.specs.Recorded.{object_change, handle_change, changes_of, content_with}
use Rattle.ob_store_laws.specs.Laws.{DeltasSayChanges}
use Rattle.ob_store_laws.proofs.Again.{object_again}
use Rattle.ob_store_laws.proofs.Entries.{sorted_of, of_sorted}
use Rattle.ob_store_laws.proofs.Handles.{changes_sorted}
use Rattle.ob_store_laws.proofs.Made.{changes_are_made_as_deltas}

module _ (table : ClassTable) where
  above : (n : ℕ) (es : List (ObjectId × Object)) → IsBelowAll (λ (e : ObjectId × Object). e.0.0) n es
      → All (λ (o : StoredObject). n < o.number) (map (object_change table) es)
  above n [] low = All-nil (λ (o : StoredObject). n < o.number)
  above n (e ∷ es) low = All-cons (λ (o : StoredObject). n < o.number) (object_change table e) (map (object_change table) es) low.0 (above n es low.1)

  ascending : (es : List (ObjectId × Object)) → IsAscending (λ (e : ObjectId × Object). e.0.0) es
      → AllPairs (λ (a b : StoredObject). a.number < b.number) (map (object_change table) es)
  ascending [] up = λ i j d later inside. absurd (omega arith)
  ascending (e ∷ es) up =
      AllPairs-cons (λ (a b : StoredObject). a.number < b.number) (object_change table e) (map (object_change table) es) (above e.0.0 es up.0) (ascending es up.1)

  next : (count : ℕ) (es : List (ObjectId × Object)) → kept.AreNext count es → AreNext count (map (object_change table) es)
  next count [] is = tt
  next count (e ∷ es) is = (is.0, next (if nat_lt e.0.0 count then count else suc count) es is.1)

pub deltas_say_changes : DeltasSayChanges
deltas_say_changes table base delta is = record {
  ascending = ascending table delta.objects is.is_delta.objects;
  next = subst (λ n. AreNext n (changes_of table delta).objects) (sym (length-map base.objects object_of))
      (next table (length base.objects) delta.objects is.is_delta.next);
  objects = All-map (λ o. IsObject table (with_changes table (content_of base) (changes_of table delta)).objects (stored.object_of table o))
      (object_change table) delta.objects
      (All-weaker (λ e. IsObject table (content_with base delta).objects (object_of e.1))
      (λ e. IsObject table (with_changes table (content_of base) (changes_of table delta)).objects (stored.object_of table (object_change table e)))
      each delta.objects is.objects);
  in_order = of_sorted name_order (changes_of table delta).handles (changes_sorted delta.handles (sorted_of label_order delta.handles is.is_delta.handles));
  handles = subst (λ (c : Content). All (IsHandleChange (length c.objects)) (changes_of table delta).handles) (sym leads)
      (All-map (IsHandleChange (length (content_with base delta).objects)) handle_change delta.handles is.handles);
  few_objects = subst (λ (c : Content). length c.objects ≤ most_objects) (sym leads) is.few_objects;
  few_handles = subst (λ (c : Content). length c.handles ≤ most_handles) (sym leads) is.few_handles;
}
  where
    leads : with_changes table (content_of base) (changes_of table delta) ≡ content_with base delta
    leads = changes_are_made_as_deltas table base delta is.objects

    each : (e : ObjectId × Object) → IsObject table (content_with base delta).objects (object_of e.1)
        → IsObject table (with_changes table (content_of base) (changes_of table delta)).objects (stored.object_of table (object_change table e))
    each e o =
        subst (λ (c : Content). IsObject table c.objects (stored.object_of table (object_change table e))) (sym leads)
        (subst (IsObject table (content_with base delta).objects) (sym (object_again table (content_with base delta).objects e.0.0 (object_of e.1) o)) o)

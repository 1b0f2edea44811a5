-- What a delta's changes make of a content is what the delta makes of it.
use Rattle.std.proofs.Common.{◌≡◌, ◌∙◌, Bool, true, false, List, [], ◌∷◌, ◌++◌, length, map, set, refl, sym, ap}
use Rattle.std.specs.Prelude.{nat_lt, fold, All, if◌then◌else◌}
use Rattle.std.proofs.lemmas.List.{length-map, map-append, map-set}
use Rattle.std.proofs.lemmas.List.Elements.{All-head, All-tail}
use Rattle.ob_base.specs.declared.id.ObjectId.{ObjectId}
use Rattle.ob_table.specs.Tables.{ClassTable}
use Rattle.ob_heap.specs.Contents.{content_of}
use Rattle.ob_heap.specs.Differences.{with_objects}
use Rattle.ob_heap.specs.Plain.{object_of}
use Rattle.ob_heap.specs.declared.object.Object.{Object}
use Rattle.ob_heap_spec.specs.Objects.{Object as PlainObject}
use Rattle.ob_heap_spec.specs.Contents.{IsObject}
use Rattle.ob_store_spec.specs.Changes.{with_object}
use Rattle.ob_store_spec.specs.Changes as stored
use Rattle.ob_store_laws.specs.Recorded.{object_change, changes_of, content_with}
use Rattle.ob_store_laws.specs.Laws.{ChangesAreMadeAsDeltas}
use Rattle.ob_store_laws.proofs.Again.{object_again}
use Rattle.ob_store_laws.proofs.Handles.{handles_follow}

module _ (table : ClassTable) (objects : List PlainObject) where
  -- an object with its number is one of the class table
  abbrev IsOf : ObjectId × Object → Type 0
  IsOf e = IsObject table objects (object_of e.1)

  one_follows : (os : List Object) (e : ObjectId × Object) → IsOf e
      → with_object table (map object_of os) (object_change table e)
      ≡ map object_of (if nat_lt e.0.0 (length os) then set os e.0.0 e.1 else os ++ e.1 ∷ [])
  one_follows os e is =
      ap (λ o. if nat_lt e.0.0 (length (map object_of os)) then set (map object_of os) e.0.0 o else map object_of os ++ o ∷ [])
      (object_again table objects e.0.0 (object_of e.1) is)
      ∙ ap (λ n. if nat_lt e.0.0 n then set (map object_of os) e.0.0 (object_of e.1) else map object_of os ++ object_of e.1 ∷ []) (length-map os object_of)
      ∙ by (nat_lt e.0.0 (length os))
    where
      by : (b : Bool) → (if b then set (map object_of os) e.0.0 (object_of e.1) else map object_of os ++ object_of e.1 ∷ [])
          ≡ map object_of (if b then set os e.0.0 e.1 else os ++ e.1 ∷ [])
      by true = sym (map-set object_of os e.0.0 e.1)
      by false = sym (map-append object_of os (e.1 ∷ []))

  pub objects_follow : (os : List Object) (es : List (ObjectId × Object)) → All IsOf es
      → fold (with_object table) (map object_of os) (map (object_change table) es) ≡ map object_of (with_objects os es)
  objects_follow os [] all = refl
  objects_follow os (e ∷ es) all =
      ap (λ xs. fold (with_object table) xs (map (object_change table) es)) (one_follows os e (All-head IsOf e es all))
      ∙ objects_follow (if nat_lt e.0.0 (length os) then set os e.0.0 e.1 else os ++ e.1 ∷ []) es (All-tail IsOf e es all)

pub changes_are_made_as_deltas : ChangesAreMadeAsDeltas
changes_are_made_as_deltas table base delta all =
    ap (λ os. record { objects = os; handles = (stored.with_changes table (content_of base) (changes_of table delta)).handles })
    (objects_follow table (content_with base delta).objects base.objects delta.objects all)
    ∙ ap (λ hs. record { objects = (content_with base delta).objects; handles = hs }) (sym (handles_follow base.handles delta.handles))

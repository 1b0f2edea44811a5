-- What differs between two stores, as a payload says it (this project's own).
use Rattle.std.specs.Prelude.{◌≡◌, ◌≤◌, All, [], ◌∷◌, length}
use Rattle.ob_table.specs.Tables.{ClassTable}
use Rattle.ob_heap_spec.specs.Contents.{Content, IsObject, IsContent, empty_content}
use Rattle.ob_rest_spec.specs.AtRest.{IsStoreAtRest}
use Rattle.ob_heap.specs.Contents.{Stored, content_of}
use Rattle.ob_heap.specs.Deltas.{IsDelta}
use Rattle.ob_heap.specs.Plain.{object_of}
use Rattle.ob_heap.specs.declared.delta.Delta.{Delta}
use Rattle.ob_store_spec.specs.Payloads.{Changes, payload}
use Rattle.ob_store_spec.specs.Changes.{AreChangesOf, LeadFrom, with_changes}
use Rattle.ob_store_spec.specs.Between.{changes_between, all_of}
use Rattle.ob_store_laws.specs.Recorded.{changes_of, news_of, content_with, IsStorable, IsDeltaOf}

-- What differs between a content and a later one is changes of the first that lead to the second, and may be spelled.
pub record IsSaid (table : ClassTable) (before after : Content) (changes : Changes) : Type 0 where
  pub are_changes : AreChangesOf table before changes
  pub leads : with_changes table before changes ≡ after
  pub fits : (payload table).fits changes

-- That is so of two stores at rest, of which the second has no fewer objects.
abbrev pub DifferencesAreSaid : Type 0
DifferencesAreSaid =
    (table : ClassTable) (before after : Content) → IsStorable table → IsStoreAtRest table before → IsStoreAtRest table after
    → length before.objects ≤ length after.objects → IsSaid table before after (changes_between table before after)

-- What a delta says that a content doesn't is what differs between the content and the one after the delta.
abbrev pub NewsAreDifferences : Type 0
NewsAreDifferences =
    (table : ClassTable) (base : Stored) (delta : Delta) → IsContent table (content_of base) → IsDelta base delta
    → news_of table base delta ≡ changes_between table (content_of base) (content_with base delta)

-- What a delta of a class table says of a content are changes of it.
abbrev pub DeltasSayChanges : Type 0
DeltasSayChanges =
    (table : ClassTable) (base : Stored) (delta : Delta) → IsDeltaOf table base delta → AreChangesOf table (content_of base) (changes_of table delta)

-- The changes that a delta says make of a content what the delta makes of it, where its objects are of the class table then.
abbrev pub ChangesAreMadeAsDeltas : Type 0
ChangesAreMadeAsDeltas =
    (table : ClassTable) (base : Stored) (delta : Delta) → All (λ e. IsObject table (content_with base delta).objects (object_of e.1)) delta.objects
    → with_changes table (content_of base) (changes_of table delta) ≡ content_with base delta

-- Changes keep a content one of its class table.
abbrev pub ChangesKeepContents : Type 0
ChangesKeepContents =
    (table : ClassTable) (content : Content) (changes : Changes) → IsContent table content → AreChangesOf table content changes
    → IsContent table (with_changes table content changes)

-- All that a content holds is what differs between the empty content and it.
abbrev pub AllIsWhatDiffers : Type 0
AllIsWhatDiffers =
    (table : ClassTable) (content : Content) → IsContent table content → all_of table content ≡ changes_between table empty_content content

-- All that a store at rest holds is changes of the empty content that lead to it, and may be spelled.
abbrev pub AllIsSaid : Type 0
AllIsSaid =
    (table : ClassTable) (content : Content) → IsStorable table → IsStoreAtRest table content → IsSaid table empty_content content (all_of table content)

-- So the one payload that says all of it leads from the empty content to it.
abbrev pub AllLeads : Type 0
AllLeads =
    (table : ClassTable) (content : Content) → IsStorable table → IsStoreAtRest table content
    → LeadFrom table empty_content ((payload table).bytes (all_of table content) ∷ []) content

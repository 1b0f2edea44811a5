-- A payload of what differs leads on, and is none where nothing does.
use Rattle.std.proofs.Common.{◌≡◌, ℕ, ◌≤◌, true, ◌&&◌, List, [], ◌∷◌, ◌++◌, length, map, refl, sym, ◌∙◌, subst, arith}
use Rattle.std.proofs.lemmas.List.{length-map}
use Rattle.ob_table.specs.Tables.{ClassTable}
use Rattle.ob_heap.proofs.DeltasLemmas.{with_objects-le}
use Rattle.ob_heap.specs.Contents.{Stored, content_of}
use Rattle.ob_heap.specs.Differences.{with_objects}
use Rattle.ob_heap.specs.Plain.{object_of}
use Rattle.ob_heap.specs.declared.delta.Delta.{Delta}
use Rattle.ob_heap_spec.specs.Contents.{HandleName, Handle, Content}
use Rattle.ob_rest_spec.specs.AtRest.{IsStoreAtRest}
use Rattle.ob_store_spec.specs.Payloads.{StoredObject, Changes, payload}
use Rattle.ob_store_spec.specs.Changes.{SaysChanges, LeadFrom, with_changes}
use Rattle.ob_store_spec.specs.Between.{changes_between}
use Rattle.ob_store_spec.specs.Settling.{is_empty, say_nothing}
use Rattle.ob_store_laws.specs.Laws.{IsSaid}
use Rattle.ob_store_laws.specs.Recorded.{content_with, IsStorable}
use Rattle.ob_store_laws.proofs.Said.{differences_are_said}
use Rattle.std.specs.Prelude.{Option}

-- one payload more
pub leads_more : (table : ClassTable) (start before after : Content) (payloads : List (List ℕ)) (p : List ℕ) (changes : Changes) → LeadFrom table start payloads before
    → SaysChanges table before changes p → with_changes table before changes ≡ after → LeadFrom table start (payloads ++ p ∷ []) after
leads_more table start before after [] p changes leads says to =
    let P : Content → Type 0 = λ c. LeadFrom table c (p ∷ []) after in subst P (sym leads) (changes, says, to)
leads_more table start before after (q ∷ payloads) p changes leads says to =
    (leads.0, leads.1, leads_more table (with_changes table start leads.0) before after payloads p changes leads.2 says to)

same_with_none : (table : ClassTable) (before : Content) (objects : List StoredObject) (handles : List (HandleName × Option Handle)) → (is_empty objects && is_empty handles) ≡ true
    → with_changes table before (record { objects = objects; handles = handles }) ≡ before
same_with_none table before [] [] none = refl
same_with_none table before [] (h ∷ handles) none = let no : ⊥ = cc in absurd no
same_with_none table before (o ∷ objects) handles none = let no : ⊥ = cc in absurd no

-- where nothing differs, it is the same content
pub nothing_differs : (table : ClassTable) (before after : Content) → IsSaid table before after (changes_between table before after)
    → say_nothing (changes_between table before after) ≡ true → before ≡ after
nothing_differs table before after said none =
    let changes = changes_between table before after in sym (same_with_none table before changes.objects changes.handles none) ∙ said.leads

-- what differs is said
pub said_after : (table : ClassTable) (base : Stored) (delta : Delta) → IsStorable table → IsStoreAtRest table (content_of base) → IsStoreAtRest table (content_with base delta)
    → IsSaid table (content_of base) (content_with base delta) (changes_between table (content_of base) (content_with base delta))
said_after table base delta storable before after =
    let longer : length (map object_of base.objects) ≤ length (map object_of (with_objects base.objects delta.objects)) = omega (
      arith,
      length-map base.objects object_of,
      length-map (with_objects base.objects delta.objects) object_of,
      with_objects-le base.objects delta.objects,
    ) in
    differences_are_said table (content_of base) (content_with base delta) storable before after longer

-- the bytes of what differs say it
pub bytes_say : (table : ClassTable) (before after : Content) (p : List ℕ) → IsSaid table before after (changes_between table before after)
    → p ≡ (payload table).bytes (changes_between table before after) → SaysChanges table before (changes_between table before after) p
bytes_say table before after p said is = record { are_changes = said.are_changes; spelled = record { fits = said.fits; is = is } }

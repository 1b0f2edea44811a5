-- What a payload makes of a content, and which changes it may say (this project's own).
use Rattle.std.specs.Prelude.{ℕ, suc, ◌≡◌, ◌<◌, ◌≤◌, ⊤, nat_lt, List, [], ◌∷◌, ◌++◌, length, fold, Option, Some, None, IfSome, IsTrue, All, AllPairs, slice_set, if◌then◌else◌}
use Rattle.std.specs.Option.{option_map_or}
use Rattle.std.specs.declared.cmp.Ordering.TheVariants.{Less}
use Rattle.ob_base.specs.Limits.{most_objects, most_handles}
use Rattle.ob_base.specs.Names.{is_label}
use Rattle.ob_base.specs.declared.id.StateId.{StateId}
use Rattle.ob_table.specs.Tables.{ClassTable, contract_at}
use Rattle.ob_table.specs.declared.contract.Field.{Field}
use Rattle.ob_format_spec.specs.Formats.{Spells}
use Rattle.ob_heap_spec.specs.Values.{Value, Numbered, nothing, put}
use Rattle.ob_heap_spec.specs.Objects.{Object, is_available}
use Rattle.ob_heap_spec.specs.Contents.{HandleName, Handle, Content, IsObject, name_order}
use Rattle.ob_heap_spec.specs.Handles.{NamedHandle, put_handle, without_handle}
use Rattle.ob_store_spec.specs.Payloads.{StoredObject, Changes, payload}

-- the values of the available fields among these, the first of which has this number
abbrev pub fields_from : ℕ → List Field → Option StateId → List Value → Numbered Value
fields_from k [] state values = nothing
fields_from k (f ∷ fs) state [] = nothing
fields_from k (f ∷ fs) state (v ∷ vs) =
    if is_available state f then put (fields_from (suc k) fs state vs) k v else fields_from (suc k) fs state (v ∷ vs)

-- an object, by what a payload says of it
abbrev pub object_of : ClassTable → StoredObject → Object
object_of table o = record {
  contract = o.contract;
  state = o.state;
  fields = option_map_or (λ c. fields_from 0 c.fields o.state o.values) (contract_at table o.contract) nothing;
  shared = o.marks.0;
  disowned = o.marks.1;
}

-- the objects with this one, in the place of the one of its number, or behind the others
abbrev pub with_object : ClassTable → List Object → StoredObject → List Object
with_object table objects o =
    if nat_lt o.number (length objects) then slice_set objects o.number (object_of table o) else objects ++ object_of table o ∷ []

-- the handles after one is put or removed; the removal of one that isn't there changes nothing
abbrev pub with_change : List NamedHandle → HandleName × Option Handle → List NamedHandle
with_change handles (name, None) = without_handle handles name
with_change handles (name, Some h) = put_handle handles (name, h)

-- the content after changes
abbrev pub with_changes : ClassTable → Content → Changes → Content
with_changes table content changes = record {
  objects = fold (with_object table) content.objects changes.objects;
  handles = fold with_change content.handles changes.handles;
}

-- those of these objects that are past so many have the next numbers
abbrev pub AreNext : ℕ → List StoredObject → Type 0
AreNext count [] = ⊤
AreNext count (o ∷ os) = (o.number ≤ count) × AreNext (if nat_lt o.number count then count else suc count) os

-- a handle's name is two labels, and it is on one of so many objects, if it is there
pub record IsHandleChange (count : ℕ) (h : HandleName × Option Handle) : Type 0 where
  pub who : IsTrue (is_label h.0.who)
  pub name : IsTrue (is_label h.0.name)
  pub object : IfSome h.1 (λ x. x.object < count)

-- Changes are some of a content: objects and handles ascend, each once; new objects have the next numbers; each object is one of
-- the class table on the objects after the changes, and each handle is on one of them; and then there are no more of both than
-- there may be.
pub record AreChangesOf (table : ClassTable) (content : Content) (changes : Changes) : Type 0 where
  pub ascending : AllPairs (λ a b. a.number < b.number) changes.objects
  pub next : AreNext (length content.objects) changes.objects
  pub objects : All (λ o. IsObject table (with_changes table content changes).objects (object_of table o)) changes.objects
  pub in_order : AllPairs (λ a b. name_order a.0 b.0 ≡ Less) changes.handles
  pub handles : All (IsHandleChange (length (with_changes table content changes).objects)) changes.handles
  pub few_objects : length (with_changes table content changes).objects ≤ most_objects
  pub few_handles : length (with_changes table content changes).handles ≤ most_handles

-- the bytes are a payload that says these changes of a content
pub record SaysChanges (table : ClassTable) (content : Content) (changes : Changes) (bytes : List ℕ) : Type 0 where
  pub are_changes : AreChangesOf table content changes
  pub spelled : Spells (payload table) changes bytes

-- payloads lead from a content to another, one after the other
abbrev pub LeadFrom : ClassTable → Content → List (List ℕ) → Content → Type 0
LeadFrom table content [] end = content ≡ end
LeadFrom table content (p ∷ ps) end =
    (changes : Changes) × SaysChanges table content changes p × LeadFrom table (with_changes table content changes) ps end

-- What differs between two contents, as a payload says it (this project's own).
use Rattle.std.specs.Prelude.{ℕ, suc, Bool, false, not, List, [], ◌∷◌, ◌++◌, map, filter, Option, Some, option_to_list, if◌then◌else◌}
use Rattle.std.specs.Option.{option_map_or}
use Rattle.std.specs.Str.{bytes_eq}
use Rattle.ob_base.specs.declared.id.StateId.{StateId}
use Rattle.ob_table.specs.Tables.{ClassTable, contract_at}
use Rattle.ob_table.specs.declared.contract.Field.{Field}
use Rattle.ob_heap_spec.specs.Values.{Value, Numbered}
use Rattle.ob_heap_spec.specs.Objects.{Object, is_available}
use Rattle.ob_heap_spec.specs.Contents.{HandleName, Handle, Content, object_at}
use Rattle.ob_heap_spec.specs.Handles.{handle_at, put_handles}
use Rattle.ob_store_spec.specs.Payloads.{StoredObject, Changes, object, held}

-- the values of the available fields among these, the first of which has this number
abbrev pub values_from : ℕ → List Field → Option StateId → Numbered Value → List Value
values_from k [] state values = []
values_from k (f ∷ fs) state values =
    if is_available state f then option_to_list (values k) ++ values_from (suc k) fs state values else values_from (suc k) fs state values

-- the object of a number, as a payload has it
abbrev pub stored_object : ClassTable → ℕ → Object → StoredObject
stored_object table n o = record {
  number = n;
  contract = o.contract;
  state = o.state;
  marks = (o.shared, o.disowned);
  values = option_map_or (λ c. values_from 0 c.fields o.state o.fields) (contract_at table o.contract) [];
}

-- objects as a payload has them, the first of which has this number
abbrev pub stored_from : ClassTable → ℕ → List Object → List StoredObject
stored_from table n [] = []
stored_from table n (o ∷ os) = stored_object table n o ∷ stored_from table (suc n) os

-- whether the object of its number among these is stored by the same bytes
abbrev pub is_stored_so : ClassTable → List Object → StoredObject → Bool
is_stored_so table objects o =
    option_map_or (λ x. bytes_eq ((object table).bytes (stored_object table o.number x)) ((object table).bytes o)) (object_at objects o.number) false

-- whether a name refers to the same in a content: to this handle, or to none
abbrev pub is_held_so : Content → HandleName × Option Handle → Bool
is_held_so content h = bytes_eq (held.bytes (handle_at content h.0)) (held.bytes h.1)

-- the objects that differ, as they are in the second content
abbrev pub changed_objects : ClassTable → Content → Content → List StoredObject
changed_objects table before after = filter (λ o. not (is_stored_so table before.objects o)) (stored_from table 0 after.objects)

-- the names of the handles of both that refer to something else in the second content, each with what it refers to there
abbrev pub changed_handles : Content → Content → List (HandleName × Option Handle)
changed_handles before after =
    filter (λ h. not (is_held_so before h)) (map (λ h. (h.0, handle_at after h.0)) (put_handles before.handles after.handles))

-- what differs between two contents
abbrev pub changes_between : ClassTable → Content → Content → Changes
changes_between table before after = record { objects = changed_objects table before after; handles = changed_handles before after }

-- all that a content holds, as changes of the empty one: each object, and each handle as it is there
abbrev pub all_of : ClassTable → Content → Changes
all_of table content = record { objects = stored_from table 0 content.objects; handles = map (λ h. (h.0, Some h.1)) content.handles }

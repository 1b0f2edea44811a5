-- The six ways in which an object of a store fails to be at rest (Coblenz et al., TOPLAS 42(3), 2020, "Permissions" and
-- "Assets"; the list is this project's own).
use Rattle.std.specs.Prelude.{ℕ, Bool, false, not, ◌&&◌, ◌||◌, ◌==◌, nat_lt, List, [], ◌∷◌, filter}
use Rattle.std.specs.Option.{option_map_or}
use Rattle.std.specs.List.{list_any}
use Rattle.ob_table.specs.Tables.{ClassTable, contract_at}
use Rattle.ob_table.specs.declared.seen.Kind.TheVariants.{Reference}
use Rattle.ob_table_spec.specs.WellFormed.{serves_as}
use Rattle.ob_heap_spec.specs.Objects.{Object, is_in_states}
use Rattle.ob_heap_spec.specs.Contents.{Content, object_at}
use Rattle.ob_rest_spec.specs.Modes.{is_owned, is_shared}
use Rattle.ob_rest_spec.specs.References.{FieldReference, references_of}
use Rattle.ob_rest_spec.specs.Incoming.{incoming_references, fields_onto, owners}

-- what is asked of an object, by number
abbrev pub ObjectTest : Type 0
ObjectTest = ClassTable → Content → ℕ → Object → Bool

-- whether an object is marked, as shared or as disowned
abbrev pub is_marked : Object → Bool
is_marked o = o.shared || o.disowned

-- whether an object's contract is an asset
abbrev pub is_asset : ClassTable → Object → Bool
is_asset table o = option_map_or (λ c. c.asset) (contract_at table o.contract) false

-- whether an object has no owning place
abbrev pub has_no_owner : ClassTable → Content → ℕ → Bool
has_no_owner table content n = owners table content n == 0

-- 1. It has more than one owning place.
abbrev pub has_many_owners : ObjectTest
has_many_owners table content n o = nat_lt 1 (owners table content n)

-- 2. It has an owning place, and is marked.
abbrev pub is_owned_and_marked : ObjectTest
is_owned_and_marked table content n o = not (has_no_owner table content n) && is_marked o

-- 3. It is an asset without a mark, and has no owning place.
abbrev pub is_lost_asset : ObjectTest
is_lost_asset table content n o = is_asset table o && not (is_marked o) && has_no_owner table content n

-- 4. A Shared handle or a field declared Shared refers to it, and it isn't marked as shared.
abbrev pub is_shared_unmarked : ObjectTest
is_shared_unmarked table content n o =
    not o.shared && list_any (λ r. is_shared r.mode) (incoming_references table content n)

-- whether an object isn't in the states that a field which owns it is declared with
abbrev pub is_outside_declaration : ClassTable → Object → FieldReference → Bool
is_outside_declaration table o r = is_owned r.perm.mode && not (is_in_states table r.contract r.perm o)

-- 5. A field that owns it refers to it, and it is in none of the states that the field declares.
abbrev pub is_outside_states : ObjectTest
is_outside_states table content n o = list_any (is_outside_declaration table o) (fields_onto table content.objects n)

-- whether a reference is to an object of the declared contract, or of one that implements it
abbrev pub refers_as_declared : ClassTable → List Object → FieldReference → Bool
refers_as_declared table objects r =
    option_map_or (λ o. serves_as table (Reference r.contract) (Reference o.contract))
    (object_at objects r.object) false

-- 6. A field of its own refers to an object whose contract neither is the declared one nor implements it.
abbrev pub holds_other_contract : ObjectTest
holds_other_contract table content n o =
    list_any (λ r. not (refers_as_declared table content.objects r)) (references_of table n o)

-- the six ways
pub data FailingWay : Type 0 where
  many_owners : FailingWay
  owned_and_marked : FailingWay
  lost_asset : FailingWay
  shared_unmarked : FailingWay
  outside_states : FailingWay
  other_contract : FailingWay

-- the ways in their order
abbrev pub every_way : List FailingWay
every_way =
    many_owners ∷ owned_and_marked ∷ lost_asset ∷ shared_unmarked ∷ outside_states ∷ other_contract ∷ []

-- whether an object fails in one of the ways
abbrev pub fails_by : FailingWay → ObjectTest
fails_by many_owners = has_many_owners
fails_by owned_and_marked = is_owned_and_marked
fails_by lost_asset = is_lost_asset
fails_by shared_unmarked = is_shared_unmarked
fails_by outside_states = is_outside_states
fails_by other_contract = holds_other_contract

-- the ways in which the object of a number fails, if there is one
abbrev pub failing_ways : ClassTable → Content → ℕ → List FailingWay
failing_ways table content n =
    option_map_or (λ o. filter (λ way. fails_by way table content n o) every_way) (object_at content.objects n) []

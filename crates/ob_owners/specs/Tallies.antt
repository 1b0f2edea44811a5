-- What is gathered of each object in one pass over the places of a store, and when an object fails by it (this project's
-- own).
use Rattle.std.specs.Prelude.{◌≡◌, ℕ, zero, suc, Bool, true, false, not, ◌&&◌, ◌||◌, List, option_map, slice_get}
use Rattle.std.specs.List.{list_any}
use Rattle.ob_table.specs.Tables.{ClassTable}
use Rattle.ob_heap_spec.specs.Objects.{Object}
use Rattle.ob_heap_spec.specs.Contents.{Content, object_at}
use Rattle.ob_rest_spec.specs.Failing.{is_marked, is_asset, is_outside_states, refers_as_declared}
use Rattle.ob_rest_spec.specs.Incoming.{incoming_references, owners}
use Rattle.ob_rest_spec.specs.Modes.{is_shared}
use Rattle.ob_rest_spec.specs.References.{references_of}
use Rattle.ob_owners.specs.declared.tally.OwnerCount.{OwnerCount}
use Rattle.ob_owners.specs.declared.tally.OwnerCount.TheVariants.{Zero, One, Many}
use Rattle.ob_owners.specs.declared.tally.Tally.{Tally}

-- how many owners a number is: none, one or more
abbrev pub owner_count : ℕ → OwnerCount
owner_count zero = Zero
owner_count (suc zero) = One
owner_count (suc (suc n)) = Many

-- the tally of the object of a number
abbrev pub tally_of : ClassTable → Content → ℕ → Object → Tally
tally_of table content n o = record {
  owners = owner_count (owners table content n);
  shared = list_any (λ r. is_shared r.mode) (incoming_references table content n);
  outside = is_outside_states table content n o;
}

-- these are the tallies of the objects, by number
abbrev pub AreTallies : ClassTable → Content → List Tally → Type 0
AreTallies table content tallies =
    (n : ℕ) → slice_get tallies n ≡ option_map (tally_of table content n) (object_at content.objects n)

-- whether it is no owner
abbrev pub is_zero : OwnerCount → Bool
is_zero Zero = true
is_zero One = false
is_zero Many = false

-- whether it is more than one
abbrev pub is_many : OwnerCount → Bool
is_many Zero = false
is_many One = false
is_many Many = true

-- whether a reference in the fields of an object is to one of another contract than is declared
abbrev pub refers_to_other : ClassTable → List Object → ℕ → Object → Bool
refers_to_other table objects n o = list_any (λ r. not (refers_as_declared table objects r)) (references_of table n o)

-- whether an object fails by its owners and its marks, where `asset` says whether it is an asset
abbrev pub fails_by_owners : OwnerCount → Bool → Object → Bool
fails_by_owners count asset o =
    is_many count || (not (is_zero count) && is_marked o) || (asset && not (is_marked o) && is_zero count)

-- whether an object fails, by its tally and its own fields
abbrev pub fails_tallied : ClassTable → List Object → ℕ → Object → Tally → Bool
fails_tallied table objects n o t =
    fails_by_owners t.owners (is_asset table o) o || (not o.shared && t.shared) || t.outside
    || refers_to_other table objects n o

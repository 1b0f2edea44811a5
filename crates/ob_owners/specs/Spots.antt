-- Places of a store, as the code names them (this project's own).
use Rattle.std.specs.Prelude.{ℕ, Option, option_map}
use Rattle.ob_table.specs.Tables.{ClassTable}
use Rattle.ob_heap_spec.specs.Contents.{Content}
use Rattle.ob_rest_spec.specs.Incoming.{StorePlace, stored_field, stored_handle, IncomingReference, owner_of}
use Rattle.ob_owners.specs.declared.spot.Spot.{Spot}
use Rattle.ob_owners.specs.declared.spot.Spot.TheVariants.{Field, Handle}

-- a place
abbrev pub place_of : Spot → StorePlace
place_of (Field id field) = stored_field id.0 field.0
place_of (Handle who name) = stored_handle (record { who = who; name = name })

-- the place of the owner of the object of a number
abbrev pub owner_place : ClassTable → Content → ℕ → Option StorePlace
owner_place table content n = option_map (λ (r : IncomingReference). r.place) (owner_of table content n)

-- What holds where the turn of a Loop ends (this project's own).
use Rattle.std.specs.Prelude.{ℕ, ◌<◌, Option, Some, None, IsTrue, ⊤}
use Rattle.ob_silica_places.specs.Places.{Location, slot, field, this}
use Rattle.ob_flow_spec.specs.Contexts.{BodyFrame, field_count, Context}
use Rattle.ob_flow_spec.specs.Looping.{is_as_at_head}

-- a place is at the end of a turn as at the head
abbrev pub PlaceTurns : BodyFrame → Context → Context → Location → Type 0
PlaceTurns b head g p = IsTrue (is_as_at_head b.table (head p) (g p))

-- `this`, each slot and each field is at the end of a turn as at the head
pub record TurnsBack (b : BodyFrame) (head g : Context) : Type 0 where
  pub itself : PlaceTurns b head g this
  pub slots : (k : ℕ) → k < b.slots → PlaceTurns b head g (slot k)
  pub fields : (f : ℕ) → f < field_count b → PlaceTurns b head g (field f)

-- the same, where the end of the body is reached
abbrev pub TurnsBackIf : BodyFrame → Context → Option Context → Type 0
TurnsBackIf b head None = ⊤
TurnsBackIf b head (Some g) = TurnsBack b head g

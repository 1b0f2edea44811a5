-- What holds of a place that fills a field (this project's own).
use Rattle.std.specs.Prelude.{ℕ, IsTrue, IsFalse}
use Rattle.ob_perm.specs.Permissions.{Permission, owned, shared, unowned, owns, is_unowned}
use Rattle.ob_silica_places.specs.Places.{Location, this}
use Rattle.ob_flow_spec.specs.Contexts.{BodyFrame, Context, permission_at, counted, declared_permission, TestedPlaces, is_tested}
use Rattle.ob_flow_spec.specs.Filling.{field_parameter}
use Rattle.ob_flow_laws.specs.Uses.{CanUse, CanGive}

-- ownership of a place can be given up: the place can be used, owns, and isn't under test
pub record CanGiveUp (b : BodyFrame) (ts : TestedPlaces) (g : Context) (p : Location) : Type 0 where
  pub usable : CanUse b g p
  pub owner : IsTrue (owns (counted g p))
  pub untested : IsFalse (is_tested ts p)

-- a place can fill a field of this declared permission
abbrev pub CanFillAs : BodyFrame → TestedPlaces → Context → ℕ → Location → Permission → Type 0
CanFillAs b ts g f p (owned a) = CanGiveUp b ts g p
CanFillAs b ts g f p shared = CanGive b ts g p (field_parameter b f)
CanFillAs b ts g f p unowned = CanGive b ts g p (field_parameter b f)

-- a place can fill a field: `this` lets its fields change, and the place is as the field is declared
pub record CanFill (b : BodyFrame) (ts : TestedPlaces) (g : Context) (f : ℕ) (p : Location) : Type 0 where
  pub changes : IsFalse (is_unowned (permission_at g this))
  pub serves : CanFillAs b ts g f p (declared_permission b f)

-- What holds where a change of state derives (Coblenz et al., TOPLAS 42(3), 2020, "Silica"; the facts are this
-- project's own).
use Rattle.std.specs.Prelude.{◌≡◌, ℕ, ◌<◌, List, [], ◌∷◌, None, Contains, IsTrue, IsFalse, ⊤}
use Rattle.ob_base.specs.declared.id.StateId.{StateId}
use Rattle.ob_perm.specs.Permissions.{is_shared, is_unowned}
use Rattle.ob_silica.specs.declared.place.Given.{Given}
use Rattle.ob_silica_places.specs.Places.{field, this, same_location}
use Rattle.ob_flow_spec.specs.Contexts.{BodyFrame, field_count, available, declared_permission, Context, permission_at, is_set, is_held_as, accessible, maybe_there, owns_asset, TestedPlaces, is_tested}
use Rattle.ob_flow_spec.specs.Filling.{after_fill}
use Rattle.ob_flow_spec.specs.Changing.{given_from, given_at, is_given, takes_owner, fills_owner, filled_all, refilled}
use Rattle.ob_flow_laws.specs.Filling.{CanFill}

-- a field has a value: it is accessible and set
pub record HasValue (b : BodyFrame) (g : Context) (f : ℕ) : Type 0 where
  pub reached : IsTrue (accessible b g f)
  pub set : IsTrue (is_set (g (field f)))

-- a place that fills a field which wants an owner isn't `this`, and fills none of those before that want one
pub record FillsNew (b : BodyFrame) (before : List Given) (x : Given) : Type 0 where
  pub no_this : IsFalse (same_location (given_from x) this)
  pub fills_none : IsFalse (fills_owner b (given_from x) before)

-- no place fills two fields that want an owner, and `this` fills none; `before` are the given fields before these
abbrev pub FillOnce : BodyFrame → List Given → List Given → Type 0
FillOnce b before [] = ⊤
FillOnce b before (x ∷ xs) = (IsTrue (takes_owner b x) → FillsNew b before x) × FillOnce b (x ∷ before) xs

-- a field under test isn't given, and is there in the state
pub record StaysUnderTest (b : BodyFrame) (s : StateId) (xs : List Given) (f : ℕ) : Type 0 where
  pub not_given : given_at f xs ≡ None
  pub there : IsTrue (available b f s.0)

-- fields can be filled, each in the context that those before it leave
abbrev pub CanFillAll : BodyFrame → TestedPlaces → Context → List Given → Type 0
CanFillAll b ts g [] = ⊤
CanFillAll b ts g (x ∷ xs) =
    CanFill b ts g x.field.0 (given_from x) × CanFillAll b ts (after_fill b g x.field.0 (given_from x)) xs

-- The state can change: `this` lets it change; the given fields are there in it; its other fields have values; no
-- place fills two owning fields; a field under test is neither given nor lost; all can be filled; no asset is
-- overwritten or lost; and under a Shared `this` what others may see is as declared.
pub record CanChange (b : BodyFrame) (ts : TestedPlaces) (g : Context) (s : StateId) (xs : List Given) : Type 0 where
  pub changes : IsFalse (is_unowned (permission_at g this))
  pub of_state : (x : Given) → Contains xs x → IsTrue (available b x.field.0 s.0)
  pub values : (f : ℕ) → f < field_count b → IsTrue (available b f s.0) → IsFalse (is_given f xs) → HasValue b g f
  pub once : FillOnce b [] xs
  pub stays : (f : ℕ) → f < field_count b → IsTrue (is_tested ts (field f)) → StaysUnderTest b s xs f
  pub fills : CanFillAll b ts g xs
  pub overwrites_none : (x : Given) → Contains xs x → IsTrue (maybe_there b (filled_all b g xs) x.field.0)
      → IsFalse (owns_asset b (filled_all b g xs) (field x.field.0))
  pub loses_none : (f : ℕ) → f < field_count b → IsFalse (available b f s.0)
      → IsTrue (maybe_there b (filled_all b g xs) f) → IsFalse (owns_asset b (filled_all b g xs) (field f))
  pub as_declared : (x : Given) → Contains xs x → IsTrue (is_shared (permission_at (filled_all b g xs) this))
      → IsFalse (accessible b (filled_all b g xs) x.field.0)
      → IsTrue (is_held_as (refilled b g xs (field x.field.0)) (declared_permission b x.field.0))

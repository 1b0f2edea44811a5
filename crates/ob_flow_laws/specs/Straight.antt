-- What holds where a form without branches and calls derives (Coblenz et al., TOPLAS 42(3), 2020, "Silica"; the facts
-- are this project's own).
use Rattle.std.specs.Prelude.{◌≡◌, ℕ, IsTrue, IsFalse}
use Rattle.ob_base.specs.declared.permission.Perm.{Perm}
use Rattle.ob_perm.specs.Permissions.{is_unowned, matches}
use Rattle.ob_perm.specs.Masks.{permission_of}
use Rattle.ob_silica.specs.declared.place.Operand.{Operand}
use Rattle.ob_silica_places.specs.Places.{Location, slot, field, this, located}
use Rattle.ob_flow_spec.specs.Contexts.{BodyFrame, Context, permission_at, counted, accessible, owns_asset, TestedPlaces, is_tested}
use Rattle.ob_flow_spec.specs.Filling.{after_fill}
use Rattle.ob_flow_laws.specs.Uses.{CanRead, CanUse}
use Rattle.ob_flow_laws.specs.Filling.{CanFill}

-- an operator's operands can be used
pub record CanOperate (b : BodyFrame) (g : Context) (x y : Operand) : Type 0 where
  pub left : CanUse b g (located x)
  pub right : CanUse b g (located y)

-- a value can be copied: it can be used, and where it goes to a field, `this` lets that change and it is accessible
pub record CanCopy (b : BodyFrame) (g : Context) (to : Location) (from : Operand) : Type 0 where
  pub usable : CanUse b g (located from)
  pub changes : (f : ℕ) → to ≡ field f → IsFalse (is_unowned (permission_at g this))
  pub reached : (f : ℕ) → to ≡ field f → IsTrue (accessible b g f)

-- a reference can be moved into a slot: it can be used, neither place is under test, and the slot owns no asset
pub record CanMoveToSlot (b : BodyFrame) (ts : TestedPlaces) (g : Context) (k : ℕ) (from : Operand) : Type 0 where
  pub usable : CanUse b g (located from)
  pub from_untested : IsFalse (is_tested ts (located from))
  pub to_untested : IsFalse (is_tested ts (slot k))
  pub overwrites_none : IsFalse (owns_asset b g (slot k))

-- A reference can be moved into a field: the field is accessible and not under test, the place can fill it, and then
-- the field owned no asset.
pub record CanMoveToField (b : BodyFrame) (ts : TestedPlaces) (g : Context) (f : ℕ) (from : Operand) : Type 0 where
  pub reached : IsTrue (accessible b g f)
  pub to_untested : IsFalse (is_tested ts (field f))
  pub fills : CanFill b ts g f (located from)
  pub overwrites_none : IsFalse (owns_asset b (after_fill b g f (located from)) (field f))

-- a reference can be moved
abbrev pub CanMove : BodyFrame → TestedPlaces → Context → Location → Operand → Type 0
CanMove b ts g (slot k) from = CanMoveToSlot b ts g k from
CanMove b ts g (field f) from = CanMoveToField b ts g f from

-- what is said of a place is so: it can be read, and is held in this way
pub record IsAsserted (b : BodyFrame) (g : Context) (o : Operand) (w : Perm) : Type 0 where
  pub readable : CanRead b g (located o)
  pub held : IsTrue (matches (counted g (located o)) (permission_of w))

-- a slot can end: it owns no asset, and isn't under test
pub record CanDrop (b : BodyFrame) (ts : TestedPlaces) (g : Context) (k : ℕ) : Type 0 where
  pub loses_none : IsFalse (owns_asset b g (slot k))
  pub untested : IsFalse (is_tested ts (slot k))

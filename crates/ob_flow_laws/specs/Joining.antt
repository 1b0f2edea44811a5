-- What holds where two branches join (Coblenz et al., TOPLAS 42(3), 2020, "Silica"; the facts are this project's
-- own).
use Rattle.std.specs.Prelude.{◌≡◌, ℕ, ◌<◌, Option, Some, None, IsTrue, IsFalse}
use Rattle.ob_perm.specs.Permissions.{Permission}
use Rattle.ob_silica_places.specs.Places.{slot, field, this}
use Rattle.ob_flow_spec.specs.Contexts.{BodyFrame, field_count, declared_permission, Context, permission_at, is_held_as, accessible_under, accessible}
use Rattle.ob_flow_spec.specs.Joining.{same_mode, join_loses, joined_context}

-- a field that is accessible in a branch, where `this` has this permission, and not after it is held there as
-- declared
abbrev pub HandsFieldOn : BodyFrame → Permission → Context → Context → ℕ → Type 0
HandsFieldOn b under g after f =
    IsTrue (accessible_under b under f) → IsFalse (accessible b after f)
    → IsTrue (is_held_as (g (field f)) (declared_permission b f))

-- a field joins: each branch hands it on, and no owner of an asset is lost of it
pub record JoinsField (b : BodyFrame) (under : Permission) (g h : Context) (f : ℕ) : Type 0 where
  pub first : HandsFieldOn b under g (joined_context g h) f
  pub second : HandsFieldOn b (permission_at h this) h (joined_context g h) f
  pub loses_none : IsFalse (join_loses b.table (g (field f)) (h (field f)))

-- two branches join: `this` is held in the same way, of no slot an owner of an asset is lost, and each field joins
pub record JoinsBranches (b : BodyFrame) (under : Permission) (g h : Context) : Type 0 where
  pub itself : IsTrue (same_mode (permission_at g this) (permission_at h this))
  pub slots : (k : ℕ) → k < b.slots → IsFalse (join_loses b.table (g (slot k)) (h (slot k)))
  pub fields : (f : ℕ) → f < field_count b → JoinsField b under g h f

-- two branches end, and this is left after both: where one isn't passed, what the other leaves; else they join
abbrev pub LeavesBoth : BodyFrame → Permission → Option Context → Option Context → Option Context → Type 0
LeavesBoth b under None second left = left ≡ second
LeavesBoth b under (Some g) None left = left ≡ Some g
LeavesBoth b under (Some g) (Some h) left = JoinsBranches b under g h × (left ≡ Some (joined_context g h))

-- The rule of a change of state (Coblenz et al., TOPLAS 42(3), 2020, "Silica"; the premises and their order are this
-- project's own).
use Rattle.std.specs.Prelude.{ℕ, Bool, false, not, ◌&&◌, ◌||◌, nat_eq, nat_lt, List, [], ◌∷◌, ◌++◌, Option, Some, None, if◌then◌else◌}
use Rattle.ob_base.specs.Faults.{asset_lost, asset_overwritten, not_accessible, field_mismatch, unset, under_test, view_changes, used_twice}
use Rattle.ob_base.specs.declared.fault.Span.{Span}
use Rattle.ob_base.specs.declared.id.StateId.{StateId}
use Rattle.ob_perm.specs.States.{only}
use Rattle.ob_perm.specs.Permissions.{owned, owns, is_shared, is_unowned}
use Rattle.ob_silica.specs.declared.place.Given.{Given}
use Rattle.ob_silica_places.specs.Places.{Location, slot, field, this, same_location, located}
use Rattle.ob_flow_spec.specs.Premises.{Premise, one, each, for_all}
use Rattle.ob_flow_spec.specs.Contexts.{BodyFrame, field_count, available, declared_permission, declared_known, Context, put, permission_at, with_permission, is_set, is_held_as, accessible, maybe_there, owns_asset, TestedPlaces, is_tested}
use Rattle.ob_flow_spec.specs.Binding.{read_of}
use Rattle.ob_flow_spec.specs.Filling.{fills_field, after_fill, got}

-- the place from which a given field is filled
abbrev pub given_from : Given → Location
given_from x = located x.from

-- the first given field of this number, if it is given
abbrev pub given_at : ℕ → List Given → Option Given
given_at f [] = None
given_at f (x ∷ xs) = if nat_eq x.field.0 f then Some x else given_at f xs

-- whether a field is given
abbrev pub is_given : ℕ → List Given → Bool
is_given f [] = false
is_given f (x ∷ xs) = nat_eq x.field.0 f || is_given f xs

-- a given field is there in the state
abbrev pub is_of_state : BodyFrame → StateId → Given → List Premise
is_of_state b s x = one not_accessible x.span (available b x.field.0 s.0)

-- a field of the state that isn't given is accessible and set
abbrev pub has_value : BodyFrame → Context → Span → StateId → List Given → ℕ → List Premise
has_value b g at s xs f =
    one unset at (not (available b f s.0) || (is_given f xs || (accessible b g f && is_set (g (field f)))))

-- whether a given field wants an owner
abbrev pub takes_owner : BodyFrame → Given → Bool
takes_owner b x = owns (declared_permission b x.field.0)

-- whether a place fills some of these fields that want an owner
abbrev pub fills_owner : BodyFrame → Location → List Given → Bool
fills_owner b p [] = false
fills_owner b p (x ∷ xs) = (same_location p (given_from x) && takes_owner b x) || fills_owner b p xs

-- no place fills two fields that want an owner, and `this` fills none; `before` are the given fields before these
abbrev pub fills_once : BodyFrame → List Given → List Given → List Premise
fills_once b before [] = []
fills_once b before (x ∷ xs) =
    one used_twice x.from.span
    (not (takes_owner b x && (same_location (given_from x) this || fills_owner b (given_from x) before)))
    ++ fills_once b (x ∷ before) xs

-- where a fault of a field under test stands: at its name where it is given, and else where the form does
abbrev pub tested_field : BodyFrame → Span → StateId → ℕ → Option Given → List Premise
tested_field b at s f (Some x) = one under_test x.span false
tested_field b at s f None = one under_test at (available b f s.0)

-- a field under test isn't given, and is there in the state
abbrev pub stays_under_test : BodyFrame → TestedPlaces → Span → StateId → List Given → ℕ → List Premise
stays_under_test b ts at s xs f = if is_tested ts (field f) then tested_field b at s f (given_at f xs) else []

-- fields are filled one after another
abbrev pub fills_all : BodyFrame → TestedPlaces → Context → Span → List Given → List Premise
fills_all b ts g at [] = []
fills_all b ts g at (x ∷ xs) =
    fills_field b ts g at x.field.0 (read_of x.from) ++ fills_all b ts (after_fill b g x.field.0 (given_from x)) at xs

-- the context once all places were given, before any field gets its permission
abbrev pub filled_all : BodyFrame → Context → List Given → Context
filled_all b g [] = g
filled_all b g (x ∷ xs) = filled_all b (after_fill b g x.field.0 (given_from x)) xs

-- a context in which the fields get their permissions, which the places have as each is given
abbrev pub got_all : BodyFrame → Context → List Given → Context → Context
got_all b g [] h = h
got_all b g (x ∷ xs) h =
    got_all b (after_fill b g x.field.0 (given_from x)) xs
    (put h (field x.field.0) (got b g x.field.0 (given_from x)))

-- a given field that may be there owns no asset any more
abbrev pub overwrites_none : BodyFrame → Context → Given → List Premise
overwrites_none b g x =
    one asset_overwritten x.span (not (maybe_there b g x.field.0 && owns_asset b g (field x.field.0)))

-- a field that isn't there in the state and may be there now owns no asset
abbrev pub loses_none : BodyFrame → Context → Span → StateId → ℕ → List Premise
loses_none b g at s f =
    one asset_lost at (available b f s.0 || not (maybe_there b g f && owns_asset b g (field f)))

-- under a Shared `this` a given field that isn't accessible is held as declared; `g` is before it got its permission
abbrev pub shares_as_declared : BodyFrame → Context → Context → Given → List Premise
shares_as_declared b g h x =
    one field_mismatch x.span
    (not (is_shared (permission_at g this))
    || (accessible b g x.field.0 || is_held_as (h (field x.field.0)) (declared_permission b x.field.0)))

-- the context in which all places were given and all fields got their permissions
abbrev pub refilled : BodyFrame → Context → List Given → Context
refilled b g xs = got_all b g xs (filled_all b g xs)

-- Changing the state: `this` lets it change; the given fields are there in it; its other fields have values; no place fills
-- two owning fields; no field under test is given or lost; all are filled; no asset is overwritten or lost; and under a
-- Shared `this` what others may see is as declared.
abbrev pub changes_state : BodyFrame → TestedPlaces → Context → Span → StateId → List Given → List Premise
changes_state b ts g at s xs =
    one view_changes at (not (is_unowned (permission_at g this)))
    ++ for_all xs (is_of_state b s)
    ++ each (field_count b) (has_value b g at s xs)
    ++ fills_once b [] xs
    ++ each (field_count b) (stays_under_test b ts at s xs)
    ++ fills_all b ts g at xs
    ++ for_all xs (overwrites_none b (filled_all b g xs))
    ++ each (field_count b) (loses_none b (filled_all b g xs) at s)
    ++ for_all xs (shares_as_declared b (filled_all b g xs) (refilled b g xs))

-- what holds in the state: an owner's `this` is in it, and a field that isn't there has what is declared
abbrev pub in_state : BodyFrame → StateId → Context → Context
in_state b s g (slot k) =
    if nat_eq k 0 && owns (permission_at g this) then with_permission (owned (only s.0)) (g (slot k)) else g (slot k)
in_state b s g (field f) =
    if nat_lt f (field_count b) && not (available b f s.0) then Some (declared_known b f) else g (field f)

-- the context after a change of state
abbrev pub after_change : BodyFrame → Context → StateId → List Given → Context
after_change b g s xs = in_state b s (refilled b g xs)

-- Parts of the rule of a change of state that the check works out on their own.
use Rattle.std.specs.Prelude.{ℕ, zero, suc, not, ◌&&◌, ◌||◌, List, Some, if◌then◌else◌}
use Rattle.ob_base.specs.Faults.{used_twice}
use Rattle.ob_base.specs.declared.id.StateId.{StateId}
use Rattle.ob_perm.specs.States.{only}
use Rattle.ob_perm.specs.Permissions.{owned, owns}
use Rattle.ob_silica.specs.declared.place.Given.{Given}
use Rattle.ob_silica_places.specs.Places.{field, this, same_location}
use Rattle.ob_flow_spec.specs.Premises.{Premise, one}
use Rattle.ob_flow_spec.specs.Contexts.{BodyFrame, available, declared_known, Context, put, now, permission_at}
use Rattle.ob_flow_spec.specs.Changing.{given_from, takes_owner, fills_owner}

-- of a place that fills a field: no place before it fills one that wants an owner too, and it isn't `this`
abbrev pub fills_once_at : BodyFrame → List Given → Given → List Premise
fills_once_at b before x =
    one used_twice x.from.span
    (not (takes_owner b x && (same_location (given_from x) this || fills_owner b (given_from x) before)))

-- an owner's `this` is in the state
abbrev pub this_in_state : StateId → Context → Context
this_in_state s g = if owns (permission_at g this) then now g this (owned (only s.0)) else g

-- a field that isn't there in the state has what is declared
abbrev pub field_in_state : BodyFrame → StateId → ℕ → Context → Context
field_in_state b s f g = if available b f s.0 then g else put g (field f) (Some (declared_known b f))

-- the same of each field of a number below this one
abbrev pub fields_in_state : BodyFrame → StateId → ℕ → Context → Context
fields_in_state b s zero g = g
fields_in_state b s (suc n) g = field_in_state b s n (fields_in_state b s n g)

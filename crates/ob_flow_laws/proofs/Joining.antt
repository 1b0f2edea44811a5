-- What holds where two branches join.
use Rattle.std.proofs.Common.{◌≡◌, ℕ, Option, Some, None, Ok, sym}
use Rattle.ob_base.specs.declared.fault.Span.{Span}
use Rattle.ob_perm.specs.Permissions.{Permission}
use Rattle.ob_silica_places.specs.Places.{slot, field, this}
use Rattle.ob_flow_spec.specs.Premises.{each}
use Rattle.ob_flow_spec.specs.Contexts.{BodyFrame, field_count, declared_permission, Context, permission_at, is_held_as, accessible_under, accessible}
use Rattle.ob_flow_spec.specs.Joining.{join_loses, joined_context, joins_slot, hands_field_on, joins_field, joins_branches, joined_branches}
use Rattle.ob_flow_laws.specs.Premises.{Hold}
use Rattle.ob_flow_laws.specs.Joining.{HandsFieldOn, JoinsField, JoinsBranches, LeavesBoth}
use Rattle.ob_flow_laws.proofs.Tests.{isnt, where_first, second_of}
use Rattle.ob_flow_laws.proofs.Premises.{both_hold, each_holds, checked_holds, ok_same}

pub field_handed_on : (b : BodyFrame) (under : Permission) (g after : Context) (at : Span) (f : ℕ)
    → Hold (hands_field_on b under g after at f) → HandsFieldOn b under g after f
field_handed_on b under g after at f h u a =
    second_of (accessible b after f) (is_held_as (g (field f)) (declared_permission b f))
    (where_first (accessible_under b under f) _ h.0 u) a

pub field_joins : (b : BodyFrame) (under : Permission) (g h : Context) (at : Span) (f : ℕ)
    → Hold (joins_field b under g h at f) → JoinsField b under g h f
field_joins b under g h at f k = record {
  first = field_handed_on b under g (joined_context g h) at f (k.0, tt);
  second = field_handed_on b (permission_at h this) h (joined_context g h) at f (k.1.0, tt);
  loses_none = isnt (join_loses b.table (g (field f)) (h (field f))) k.1.1.0;
}

pub branches_join : (b : BodyFrame) (under : Permission) (g h : Context) (at : Span)
    → Hold (joins_branches b under g h at) → JoinsBranches b under g h
branches_join b under g h at k =
    let r = both_hold (each b.slots (joins_slot b g h at)) (each (field_count b) (joins_field b under g h at)) k.1 in
    record {
      itself = k.0;
      slots = λ n lt. isnt (join_loses b.table (g (slot n)) (h (slot n)))
          (each_holds b.slots (joins_slot b g h at) r.0 n lt).0;
      fields = λ f lt. field_joins b under g h at f (each_holds (field_count b) (joins_field b under g h at) r.1 f lt);
    }

pub both_left : (b : BodyFrame) (under : Permission) (first second : Option Context) (at : Span)
    (left : Option Context) → joined_branches b under first second at ≡ Ok left → LeavesBoth b under first second left
both_left b under None second at left e = sym (ok_same second left e)
both_left b under (Some g) None at left e = sym (ok_same (Some g) left e)
both_left b under (Some g) (Some h) at left e =
    let r = checked_holds (joins_branches b under g h at) (Some (joined_context g h)) left e in
    (branches_join b under g h at r.0, sym r.1)

-- What holds where a form without branches and calls derives.
use Rattle.std.proofs.Common.{◌≡◌, ℕ, true, ◌++◌, subst}
use Rattle.std.specs.Prelude.{not}
use Rattle.ob_base.specs.Faults.{under_test, view_changes}
use Rattle.ob_base.specs.declared.fault.Span.{Span}
use Rattle.ob_base.specs.declared.permission.Perm.{Perm}
use Rattle.ob_perm.specs.Permissions.{is_unowned}
use Rattle.ob_silica.specs.declared.place.Operand.{Operand}
use Rattle.ob_silica_places.specs.Places.{Location, slot, field, this, located}
use Rattle.ob_flow_spec.specs.Premises.{one}
use Rattle.ob_flow_spec.specs.Contexts.{BodyFrame, Context, permission_at, accessible, owns_asset, TestedPlaces, is_tested}
use Rattle.ob_flow_spec.specs.Uses.{reads_place, uses_place}
use Rattle.ob_flow_spec.specs.Binding.{read_of}
use Rattle.ob_flow_spec.specs.Filling.{fills_field, after_fill}
use Rattle.ob_flow_spec.specs.Straight.{operates_on, copies_place, moves_to_slot, moves_to_field, moves_place, asserts_permission, disowns_place, drops_slot}
use Rattle.ob_flow_laws.specs.Premises.{Hold}
use Rattle.ob_flow_laws.specs.Filling.{CanGiveUp}
use Rattle.ob_flow_laws.specs.Straight.{CanOperate, CanCopy, CanMoveToSlot, CanMoveToField, CanMove, IsAsserted, CanDrop}
use Rattle.ob_flow_laws.proofs.Tests.{isnt}
use Rattle.ob_flow_laws.proofs.Premises.{both_hold}
use Rattle.ob_flow_laws.proofs.Uses.{can_read, can_use}
use Rattle.ob_flow_laws.proofs.Filling.{can_give_up, can_fill}

pub can_operate : (b : BodyFrame) (g : Context) (x y : Operand) → Hold (operates_on b g x y) → CanOperate b g x y
can_operate b g x y h =
    let r = both_hold (uses_place b g (read_of x)) (uses_place b g (read_of y)) h in
    record { left = can_use b g (read_of x) r.0; right = can_use b g (read_of y) r.1 }

same_field : (f h : ℕ) → field f ≡ field h → f ≡ h
same_field f h e = cc

pub can_copy : (b : BodyFrame) (g : Context) (at : Span) (to : Location) (from : Operand)
    → Hold (copies_place b g at to from) → CanCopy b g to from
can_copy b g at (slot k) from h = record {
  usable = can_use b g (read_of from) h;
  changes = λ f e. absurd (cc);
  reached = λ f e. absurd (cc);
}
can_copy b g at (field f) from h =
    let last = both_hold (uses_place b g (read_of from) ++ one view_changes at
    (not (is_unowned (permission_at g this)))) _ h in
    let first = both_hold (uses_place b g (read_of from)) _ last.0 in
    record {
      usable = can_use b g (read_of from) first.0;
      changes = λ j e. isnt (is_unowned (permission_at g this)) first.1.0;
      reached = λ j e. subst (λ n. accessible b g n ≡ true) (same_field f j e) last.1.0;
    }

pub can_move_to_slot : (b : BodyFrame) (ts : TestedPlaces) (g : Context) (at : Span) (k : ℕ) (from : Operand)
    → Hold (moves_to_slot b ts g at k from) → CanMoveToSlot b ts g k from
can_move_to_slot b ts g at k from h =
    let asset = both_hold (uses_place b g (read_of from) ++ one under_test from.span
    (not (is_tested ts (located from))) ++ one under_test at (not (is_tested ts (slot k)))) _ h in
    let to = both_hold (uses_place b g (read_of from) ++ one under_test from.span
    (not (is_tested ts (located from)))) _ asset.0 in
    let first = both_hold (uses_place b g (read_of from)) _ to.0 in
    record {
      usable = can_use b g (read_of from) first.0;
      from_untested = isnt (is_tested ts (located from)) first.1.0;
      to_untested = isnt (is_tested ts (slot k)) to.1.0;
      overwrites_none = isnt (owns_asset b g (slot k)) asset.1.0;
    }

pub can_move_to_field : (b : BodyFrame) (ts : TestedPlaces) (g : Context) (at : Span) (f : ℕ) (from : Operand)
    → Hold (moves_to_field b ts g at f from) → CanMoveToField b ts g f from
can_move_to_field b ts g at f from h =
    let r = both_hold (fills_field b ts g at f (read_of from)) _ h.1.1 in
    record {
      reached = h.0;
      to_untested = isnt (is_tested ts (field f)) h.1.0;
      fills = can_fill b ts g at f (read_of from) r.0;
      overwrites_none = isnt (owns_asset b (after_fill b g f (located from)) (field f)) r.1.0;
    }

pub can_move : (b : BodyFrame) (ts : TestedPlaces) (g : Context) (at : Span) (to : Location) (from : Operand)
    → Hold (moves_place b ts g at to from) → CanMove b ts g to from
can_move b ts g at (slot k) from h = can_move_to_slot b ts g at k from h
can_move b ts g at (field f) from h = can_move_to_field b ts g at f from h

pub is_asserted : (b : BodyFrame) (g : Context) (o : Operand) (w : Perm) → Hold (asserts_permission b g o w)
    → IsAsserted b g o w
is_asserted b g o w h =
    let r = both_hold (reads_place b g (located o) o.span) _ h in
    record { readable = can_read b g (located o) o.span r.0; held = r.1.0 }

pub can_disown : (b : BodyFrame) (ts : TestedPlaces) (g : Context) (o : Operand) → Hold (disowns_place b ts g o)
    → CanGiveUp b ts g (located o)
can_disown b ts g o h = can_give_up b ts g (read_of o) h

pub can_drop : (b : BodyFrame) (ts : TestedPlaces) (g : Context) (at : Span) (k : ℕ) → Hold (drops_slot b ts g at k)
    → CanDrop b ts g k
can_drop b ts g at k h = record {
  loses_none = isnt (owns_asset b g (slot k)) h.0;
  untested = isnt (is_tested ts (slot k)) h.1.0;
}

-- What holds of a place that fills a field.
use Rattle.std.proofs.Common.{ℕ, List, ◌++◌}
use Rattle.std.specs.Prelude.{not}
use Rattle.ob_base.specs.Faults.{not_owning, under_test}
use Rattle.ob_base.specs.declared.fault.Span.{Span}
use Rattle.ob_perm.specs.Permissions.{Permission, owned, shared, unowned, owns, is_unowned}
use Rattle.ob_silica_places.specs.Places.{this}
use Rattle.ob_flow_spec.specs.Premises.{Premise, one}
use Rattle.ob_flow_spec.specs.Contexts.{BodyFrame, Context, permission_at, counted, declared_permission, TestedPlaces, is_tested}
use Rattle.ob_flow_spec.specs.Uses.{Read, uses_place}
use Rattle.ob_flow_spec.specs.Filling.{field_parameter, fills_as, fills_field}
use Rattle.ob_flow_laws.specs.Premises.{Hold}
use Rattle.ob_flow_laws.specs.Filling.{CanGiveUp, CanFillAs, CanFill}
use Rattle.ob_flow_laws.proofs.Tests.{isnt}
use Rattle.ob_flow_laws.proofs.Premises.{both_hold}
use Rattle.ob_flow_laws.proofs.Uses.{can_use, can_give}

-- the premises on a place of which ownership is given up
abbrev pub gives_up : BodyFrame → TestedPlaces → Context → Read
    → List Premise
gives_up b ts g r =
    uses_place b g r ++ one not_owning r.span (owns (counted g r.location))
    ++ one under_test r.span (not (is_tested ts r.location))

pub can_give_up : (b : BodyFrame) (ts : TestedPlaces) (g : Context) (r : Read) → Hold (gives_up b ts g r)
    → CanGiveUp b ts g r.location
can_give_up b ts g r h =
    let last = both_hold (uses_place b g r ++ one not_owning r.span (owns (counted g r.location))) _ h in
    let first = both_hold (uses_place b g r) _ last.0 in
    record {
      usable = can_use b g r first.0;
      owner = first.1.0;
      untested = isnt (is_tested ts r.location) last.1.0;
    }

pub can_fill_as : (b : BodyFrame) (ts : TestedPlaces) (g : Context) (f : ℕ) (r : Read) (w : Permission)
    → Hold (fills_as b ts g f r w) → CanFillAs b ts g f r.location w
can_fill_as b ts g f r (owned a) h = can_give_up b ts g r h
can_fill_as b ts g f r shared h = can_give b ts g r (field_parameter b f) h
can_fill_as b ts g f r unowned h = can_give b ts g r (field_parameter b f) h

pub can_fill : (b : BodyFrame) (ts : TestedPlaces) (g : Context) (at : Span) (f : ℕ) (r : Read)
    → Hold (fills_field b ts g at f r) → CanFill b ts g f r.location
can_fill b ts g at f r h = record {
  changes = isnt (is_unowned (permission_at g this)) h.0;
  serves = can_fill_as b ts g f r (declared_permission b f) h.1;
}

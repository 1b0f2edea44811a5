-- Filling a field from a place (this project's own).
use Rattle.std.specs.Prelude.{ℕ, List, ◌++◌, not, Option, Some}
use Rattle.ob_base.specs.Faults.{not_owning, under_test, view_changes}
use Rattle.ob_base.specs.declared.fault.Span.{Span}
use Rattle.ob_perm.specs.Permissions.{Permission, owned, shared, unowned, owns, is_unowned}
use Rattle.ob_perm.specs.Masks.{perm_of}
use Rattle.ob_table_spec.specs.WellFormed.{kind_of_resolved}
use Rattle.ob_silica_places.specs.Parameters.{Parameter}
use Rattle.ob_silica_places.specs.Known.{Known, known}
use Rattle.ob_silica_places.specs.Places.{Location, this}
use Rattle.ob_silica_places.specs.Converting.{gotten}
use Rattle.ob_flow_spec.specs.Premises.{Premise, one}
use Rattle.ob_flow_spec.specs.Contexts.{BodyFrame, Context, permission_at, counted, type_of_field, declared_permission, TestedPlaces, is_tested}
use Rattle.ob_flow_spec.specs.Uses.{Read, uses_place, gives_place, after_give, said_for_type}

-- a field as a parameter that gives nothing back
abbrev pub field_parameter : BodyFrame → ℕ → Parameter
field_parameter b f = record { of = type_of_field b f; exit = perm_of unowned }

-- what a place that fills a field of this declared permission must be: an owner that isn't under test, or what may be given
abbrev pub fills_as : BodyFrame → TestedPlaces → Context → ℕ → Read → Permission → List Premise
fills_as b ts g f r (owned a) =
    uses_place b g r ++ one not_owning r.span (owns (counted g r.location))
    ++ one under_test r.span (not (is_tested ts r.location))
fills_as b ts g f r shared = gives_place b ts g r (field_parameter b f)
fills_as b ts g f r unowned = gives_place b ts g r (field_parameter b f)

-- filling a field from a place, where `this` lets its fields change; the form stands at this span
abbrev pub fills_field : BodyFrame → TestedPlaces → Context → Span → ℕ → Read → List Premise
fills_field b ts g at f r =
    one view_changes at (not (is_unowned (permission_at g this)))
    ++ fills_as b ts g f r (declared_permission b f)

-- the context once the place was given, before the field gets its permission
abbrev pub after_fill : BodyFrame → Context → ℕ → Location → Context
after_fill b g f p = after_give g p (declared_permission b f)

-- what the field gets of the place
abbrev pub got : BodyFrame → Context → ℕ → Location → Option Known
got b g f p =
    Some (known (kind_of_resolved (type_of_field b f))
    (gotten (declared_permission b f) (said_for_type b g p (type_of_field b f))))

-- Parts of the rule of a change of state that the check works out on their own.
use Rattle.std.specs.Prelude.{not, List, [], ◌++◌}
use Rattle.ob_base.specs.Faults.{view_changes}
use Rattle.ob_base.specs.declared.fault.Span.{Span}
use Rattle.ob_base.specs.declared.id.StateId.{StateId}
use Rattle.ob_perm.specs.Permissions.{is_unowned}
use Rattle.ob_silica.specs.declared.place.Given.{Given}
use Rattle.ob_silica_places.specs.Places.{this}
use Rattle.ob_flow_spec.specs.Premises.{Premise, one, each, for_all}
use Rattle.ob_flow_spec.specs.Contexts.{BodyFrame, field_count, Context, permission_at, TestedPlaces}
use Rattle.ob_flow_spec.specs.Changing.{is_of_state, has_value, fills_once, stays_under_test, fills_all, filled_all, overwrites_none, loses_none, shares_as_declared, refilled}

-- what a change of state is asked for before any field is filled
unfoldable pub may_change_to : BodyFrame → TestedPlaces → Context → Span → StateId → List Given → List Premise
may_change_to b ts g at s xs =
    one view_changes at (not (is_unowned (permission_at g this)))
    ++ for_all xs (is_of_state b s)
    ++ each (field_count b) (has_value b g at s xs)
    ++ fills_once b [] xs
    ++ each (field_count b) (stays_under_test b ts at s xs)

-- the same, with what is asked while they are filled and once they are
abbrev pub refills : BodyFrame → TestedPlaces → Context → Span → StateId → List Given → List Premise
refills b ts g at s xs =
    may_change_to b ts g at s xs
    ++ fills_all b ts g at xs
    ++ for_all xs (overwrites_none b (filled_all b g xs))
    ++ each (field_count b) (loses_none b (filled_all b g xs) at s)

-- the same, with what is asked once they have their permissions
abbrev pub refills_and_shares : BodyFrame → TestedPlaces → Context → Span → StateId → List Given → List Premise
refills_and_shares b ts g at s xs =
    refills b ts g at s xs ++ for_all xs (shares_as_declared b (filled_all b g xs) (refilled b g xs))

-- What holds where a return derives.
use Rattle.std.proofs.Common.{◌≡◌, true, ◌++◌, Option, Some, None}
use Rattle.ob_base.specs.declared.fault.Span.{Span}
use Rattle.ob_perm.specs.Permissions.{owns}
use Rattle.ob_table.specs.declared.contract.ResolvedType.{ResolvedType}
use Rattle.ob_silica.specs.declared.place.Operand.{Operand}
use Rattle.ob_silica_places.specs.Places.{Location}
use Rattle.ob_flow_spec.specs.Premises.{for_all, first_failing}
use Rattle.ob_flow_spec.specs.Contexts.{BodyFrame, Context, permission_at, TestedPlaces, is_tested}
use Rattle.ob_flow_spec.specs.Binding.{read_of}
use Rattle.ob_flow_spec.specs.Returning.{result_parameter, returns_value, value_returned, still_owns, leaves_all, returns_result}
use Rattle.ob_flow_laws.specs.Laws.{at_return, MeetsExits}
use Rattle.ob_flow_laws.specs.Premises.{Hold}
use Rattle.ob_flow_laws.specs.Returning.{CanGiveValue, CanReturn}
use Rattle.ob_flow_laws.proofs.Premises.{both_hold, for_all_holds, all_hold}
use Rattle.ob_flow_laws.proofs.Places.{tested_is_there}
use Rattle.ob_flow_laws.proofs.Uses.{can_use, can_give}
use Rattle.ob_flow_laws.proofs.Exits.{all_left}

pub can_give_value : (b : BodyFrame) (ts : TestedPlaces) (g : Context) (value : Option Operand)
    (result : Option ResolvedType) → Hold (returns_value b ts g value result) → CanGiveValue b ts g value result
can_give_value b ts g None result h = tt
can_give_value b ts g (Some o) None h = can_use b g (read_of o) h
can_give_value b ts g (Some o) (Some of) h = can_give b ts g (read_of o) (result_parameter of) h

pub can_return : (b : BodyFrame) (ts : TestedPlaces) (g : Context) (at : Span) (value : Option Operand)
    → Hold (returns_result b ts g at value) → CanReturn b ts g value
can_return b ts g at value h =
    let gives = returns_value b ts g value b.signature.result in
    let owned = still_owns (value_returned g value b.signature.result) at in
    let last = both_hold (gives ++ for_all ts owned) (leaves_all b (at_return b ts g value) at) h in
    let first = both_hold gives (for_all ts owned) last.0 in
    record {
      gives = can_give_value b ts g value b.signature.result first.0;
      tests = λ p c. (for_all_holds ts owned first.1 p c).0;
      exits = all_left b (at_return b ts g value) at last.1;
    }

pub at_exits : (b : BodyFrame) (ts : TestedPlaces) (g : Context) (at : Span) (value : Option Operand)
    → first_failing (returns_result b ts g at value) ≡ None → MeetsExits b (at_return b ts g value)
at_exits b ts g at value h = (can_return b ts g at value (all_hold (returns_result b ts g at value) h)).exits

-- a place under test owns at a return
pub tested_owns : (b : BodyFrame) (ts : TestedPlaces) (g : Context) (value : Option Operand) → CanReturn b ts g value
    → (p : Location) → is_tested ts p ≡ true
    → owns (permission_at (value_returned g value b.signature.result) p) ≡ true
tested_owns b ts g value r p t = r.tests p (tested_is_there ts p t)

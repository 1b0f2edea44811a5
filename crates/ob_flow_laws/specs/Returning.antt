-- What holds where a return derives (Coblenz et al., TOPLAS 42(3), 2020, "Silica"; the facts are this project's own).
use Rattle.std.specs.Prelude.{Option, Some, None, Contains, IsTrue, ⊤}
use Rattle.ob_perm.specs.Permissions.{owns}
use Rattle.ob_table.specs.declared.contract.ResolvedType.{ResolvedType}
use Rattle.ob_silica.specs.declared.place.Operand.{Operand}
use Rattle.ob_silica_places.specs.Places.{Location, located}
use Rattle.ob_flow_spec.specs.Contexts.{BodyFrame, Context, permission_at, TestedPlaces}
use Rattle.ob_flow_spec.specs.Returning.{result_parameter, value_returned}
use Rattle.ob_flow_laws.specs.Laws.{at_return, MeetsExits}
use Rattle.ob_flow_laws.specs.Uses.{CanUse, CanGive}

-- the value that is returned, if there is one, can be given as the result, or used where there is none
abbrev pub CanGiveValue : BodyFrame → TestedPlaces → Context → Option Operand → Option ResolvedType → Type 0
CanGiveValue b ts g None result = ⊤
CanGiveValue b ts g (Some o) None = CanUse b g (located o)
CanGiveValue b ts g (Some o) (Some of) = CanGive b ts g (located o) (result_parameter of)

-- The body can return: the value can be given; each place under test then owns; and once the tests have ended each
-- exit is met.
pub record CanReturn (b : BodyFrame) (ts : TestedPlaces) (g : Context) (value : Option Operand) : Type 0 where
  pub gives : CanGiveValue b ts g value b.signature.result
  pub tests : (p : Location) → Contains ts p
      → IsTrue (owns (permission_at (value_returned g value b.signature.result) p))
  pub exits : MeetsExits b (at_return b ts g value)

-- The terms of the bodies of a class table, or the first slot that isn't there.
use Rattle.std.specs.Prelude.{◌≡◌, List, [], ◌∷◌, Option, Some, None, Ok, ⊤}
use Rattle.std.specs.Option.{option_or}
use Rattle.ob_base.specs.Faults.{limit}
use Rattle.ob_base.specs.declared.fault.Span.{Span}
use Rattle.ob_base.specs.declared.fault.ProgramFault.{ProgramFault}
use Rattle.ob_table.specs.Statements.{ResolvedBody}
use Rattle.ob_table.specs.Tables.{ClassTable}
use Rattle.ob_silica.specs.Terms.{SilicaBody}
use Rattle.ob_lower_spec.specs.SlotNeeds.{slots_run_out}
use Rattle.ob_lower_functions.specs.BodyCode.{body_code}

-- These are the terms of a body: those that taking one slot after the other gives. By `slots_in_order_lower` it may be lowered to them,
-- and needs no slot past the most.
abbrev pub IsLoweredTo : ClassTable → ResolvedBody → SilicaBody → Type 0
IsLoweredTo table body lowered = body_code table body ≡ Ok lowered

-- these are the terms of bodies, in their order
abbrev pub AreLoweredTo : ClassTable → List ResolvedBody → List SilicaBody → Type 0
AreLoweredTo table [] [] = ⊤
AreLoweredTo table (b ∷ bs) (l ∷ ls) = IsLoweredTo table b l × AreLoweredTo table bs ls
AreLoweredTo table bs ls = ⊥

-- the place at which the first body that needs more slots than it may have needs the first one past these
abbrev pub first_slot_past : ClassTable → List ResolvedBody → Option Span
first_slot_past table [] = None
first_slot_past table (b ∷ bs) = option_or (slots_run_out table b) (first_slot_past table bs)

-- a body of the table needs more slots than it may have: the fault of the first one
pub record LacksSlots (table : ClassTable) (fault : ProgramFault) : Type 0 where
  pub number : fault.number ≡ limit
  pub place : first_slot_past table table.bodies ≡ Some fault.span

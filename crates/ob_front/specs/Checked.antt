-- The permission rules over bodies, or the first premise that fails.
use Rattle.std.specs.Prelude.{◌≡◌, ℕ, ◌≤◌, List, [], ◌∷◌, Option, Some, None, All, slice_get}
use Rattle.std.specs.List.{AllWithin}
use Rattle.std.specs.Option.{option_or}
use Rattle.std.specs.Result.{result_err}
use Rattle.ob_base.specs.declared.fault.ProgramFault.{ProgramFault}
use Rattle.ob_table.specs.Tables.{ClassTable}
use Rattle.ob_silica.specs.Terms.{SilicaBody}
use Rattle.ob_flow_spec.specs.Deriving.{derive_body, Derives, IsFlowFault}
use Rattle.ob_flow_spec.specs.Numbered.{AllNameStates}

-- the states that bodies name have the numbers that a state can have
abbrev pub AllNumbered : List SilicaBody → Type 0
AllNumbered bodies = All (λ body. AllNameStates body.terms) bodies

-- the fault of the first body that doesn't derive, if one doesn't
abbrev pub first_flow_fault : ClassTable → List SilicaBody → Option ProgramFault
first_flow_fault table [] = None
first_flow_fault table (b ∷ bs) = option_or (result_err (derive_body table b)) (first_flow_fault table bs)

-- a body doesn't derive: the fault of the first one
abbrev pub FailsPremise : ClassTable → List SilicaBody → ProgramFault → Type 0
FailsPremise table bodies fault = first_flow_fault table bodies ≡ Some fault

-- Of the bodies from a number on, the one of this number is the first that doesn't derive, and this is its fault.
pub record IsNextFault (table : ClassTable) (bodies : List SilicaBody) (from number : ℕ) (fault : ProgramFault) : Type 0 where
  pub reached : from ≤ number
  pub body : SilicaBody
  pub at : slice_get bodies number ≡ Some body
  pub fails : IsFlowFault table body fault
  pub before : AllWithin (Derives table) bodies from number

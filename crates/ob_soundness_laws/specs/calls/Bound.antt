-- What a call has bound (Coblenz et al., TOPLAS 42(3), 2020, "Silica"; the statements are this project's own).
use Rattle.std.specs.Prelude.{◌≡◌, ℕ, suc, List, [], ◌∷◌, Option, Some, ⊤}
use Rattle.ob_table.specs.Tables.{ClassTable}
use Rattle.ob_table.specs.declared.contract.ResolvedType.{ResolvedType}
use Rattle.ob_heap_spec.specs.Values.{Value}
use Rattle.ob_heap_spec.specs.Objects.{Object}
use Rattle.ob_silica_places.specs.Parameters.{Parameter}
use Rattle.ob_silica_steps.specs.Cells.{Cell}
use Rattle.ob_silica_steps.specs.Configurations.{SlotCells}
use Rattle.ob_silica_steps.specs.Binding.{bound_cell}
use Rattle.ob_coherent_spec.specs.Standing.{Stands}

-- a slot has a value as a type declares it, and what is noted of it is so
pub record IsBoundTo (table : ClassTable) (objects : List Object) (of : ResolvedType) (x : Option Cell) : Type 0 where
  pub value : Value
  pub set : x ≡ Some (bound_cell of value)
  pub stands : Stands table objects (bound_cell of value)

-- the slots from a number on have values as these parameters declare them
abbrev pub AreBound : ClassTable → List Object → SlotCells → ℕ → List Parameter → Type 0
AreBound table objects slots k [] = ⊤
AreBound table objects slots k (p ∷ ps) =
    IsBoundTo table objects p.of (slots k) × AreBound table objects slots (suc k) ps

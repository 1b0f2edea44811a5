-- Which fault is told of a program, and what the resolver answers.
use Rattle.std.specs.Prelude.{◌≡◌, Some}
use Rattle.ob_base.specs.declared.fault.ProgramFault.{ProgramFault}
use Rattle.ob_table.specs.Tables.{ClassTable}
use Rattle.ob_resolve_spec.specs.Declarations.{Program}
use Rattle.ob_resolve_spec.specs.Faults.{HasNoFault, IsLeast}
use Rattle.ob_resolve_spec.specs.Least.{least_fault}
use Rattle.ob_resolve_spec.specs.TableOf.{table_of}

-- The fault that is told of a program: none has a lesser place, or at its place a lesser number. Of several with this place
-- and number it is that of the first site.
pub record IsFirstFault (program : Program) (fault : ProgramFault) : Type 0 where
  pub least : IsLeast program fault
  pub first : least_fault program ≡ Some fault

-- the program has no fault, and the table is its class table
pub record HasClassTable (program : Program) (table : ClassTable) : Type 0 where
  pub clean : HasNoFault program
  pub is : table ≡ table_of program

-- The class table of a program without faults, and its bodies, are as the later stages need them.
use Rattle.std.specs.Prelude.{All}
use Rattle.std.proofs.lemmas.List.Elements.{All-from_recursion, recursion_from_All}
use Rattle.ob_resolve_spec.specs.Declarations.{Program}
use Rattle.ob_resolve_spec.specs.Faults.{HasNoFault}
use Rattle.ob_resolve_spec.specs.Shape.{HasShape, HasContractShape}
use Rattle.ob_resolve_spec.specs.TableOf.{table_of}
use Rattle.ob_table_spec.specs.Conditions.{IsClassTable}
use Rattle.ob_table_spec.specs.WellFormed.{IsWellFormed, HasBodies}
use Rattle.ob_resolve_laws.proofs.Clean.{clean_sites}
use Rattle.ob_resolve_laws.proofs.TableFacts.{table_is, placed, clear_program}
use Rattle.ob_resolve_laws.proofs.BodyFacts.{all_bodies_made, bodies_there}

-- the program has its shape (`HasShape`), and no condition of a fault holds at any site, so each part of the table is as it must be
pub table_conditions_lem : (program : Program) → HasShape program → HasNoFault program → IsClassTable (table_of program)
table_conditions_lem program shape none = table_is program shape (clean_sites program none)

-- by the sites of each body, at which no condition of a fault holds
pub bodies_well_formed_lem : (program : Program) → HasShape program → HasNoFault program
    → All (IsWellFormed (table_of program)) (table_of program).bodies
bodies_well_formed_lem program shape none =
    All-from_recursion (IsWellFormed (table_of program)) (table_of program).bodies
    (all_bodies_made program (clear_program program (clean_sites program none))
    (recursion_from_All HasContractShape program shape) (placed program))

pub bodies_there_lem : (program : Program) → HasShape program → HasNoFault program → HasBodies (table_of program)
bodies_there_lem program shape none =
    bodies_there program (clear_program program (clean_sites program none))
    (recursion_from_All HasContractShape program shape)

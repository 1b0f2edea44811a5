-- What is asked of a program whose code is emitted (this project's own).
use Rattle.std.specs.Prelude.{All}
use Rattle.ob_table_spec.specs.Conditions.{IsClassTable}
use Rattle.ob_silica_formed.specs.WellFormedTerms.{IsWellFormedTerms}
use Rattle.ob_silica_steps.specs.Configurations.{SilicaProgram}
use Rattle.ob_coherent_spec.specs.Remaining.{HasTerms}

-- A program whose class table meets the conditions, which has a body for each constructor and transaction of a contract, and whose
-- bodies are well-formed. That they derive isn't asked.
pub record IsWellFormedProgram (program : SilicaProgram) : Type 0 where
  pub table : IsClassTable program.table
  pub terms : HasTerms program
  pub bodies : All (IsWellFormedTerms program.table) program.bodies

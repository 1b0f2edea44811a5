-- The states that the terms of a body name (this project's own).
use Rattle.ob_table.specs.Statements.{ResolvedBody}
use Rattle.ob_table.specs.Tables.{ClassTable}
use Rattle.ob_table_spec.specs.Conditions.{IsClassTable}
use Rattle.ob_table_spec.specs.WellFormed.{IsWellFormed}
use Rattle.ob_silica.specs.Terms.{SilicaBody}
use Rattle.ob_flow_spec.specs.Numbered.{AllNameStates}
use Rattle.ob_lower_spec.specs.BodyTerms.{Lowers}

-- the terms to which a well-formed body of a class table may be lowered name states by the numbers that a state can have
abbrev pub LoweredTermsNameStates : Type 0
LoweredTermsNameStates =
    (table : ClassTable) (body : ResolvedBody) (lowered : SilicaBody) → IsClassTable table → IsWellFormed table body
    → Lowers table body lowered → AllNameStates lowered.terms

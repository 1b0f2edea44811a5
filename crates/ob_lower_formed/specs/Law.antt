-- The law of lowering and well-formed terms (this project's own).
use Rattle.std.specs.Prelude.{◌≤◌, List, All}
use Rattle.ob_base.specs.Limits.{most_slots}
use Rattle.ob_table.specs.Statements.{ResolvedBody}
use Rattle.ob_table.specs.Tables.{ClassTable}
use Rattle.ob_table_spec.specs.WellFormed.{IsWellFormed}
use Rattle.ob_silica.specs.Terms.{SilicaBody}
use Rattle.ob_silica_formed.specs.WellFormedTerms.{IsWellFormedTerms}
use Rattle.ob_lower_spec.specs.BodyTerms.{Lowers, AllLower}

-- a body has few slots
abbrev pub HasFewSlots : SilicaBody → Type 0
HasFewSlots lowered = lowered.slots ≤ most_slots

-- Where a well-formed body of a class table may be lowered to terms with few slots, they are well-formed.
abbrev pub LoweringIsWellFormed : Type 0
LoweringIsWellFormed =
    (table : ClassTable) (body : ResolvedBody) (lowered : SilicaBody) → IsWellFormed table body
    → Lowers table body lowered → HasFewSlots lowered → IsWellFormedTerms table lowered

-- the same of bodies in their order
abbrev pub LoweringIsAllWellFormed : Type 0
LoweringIsAllWellFormed =
    (table : ClassTable) (bodies : List ResolvedBody) (lowered : List SilicaBody) → All (IsWellFormed table) bodies
    → AllLower table bodies lowered → All HasFewSlots lowered → All (IsWellFormedTerms table) lowered

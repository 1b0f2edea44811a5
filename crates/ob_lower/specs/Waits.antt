-- What waits for a change of state, seen as plain data.
use Rattle.std.specs.Prelude.{Result}
use Rattle.ob_silica.specs.Terms.{SilicaTerms}
use Rattle.ob_lower_functions.specs.Progress.{Stop, ◌>>=◌}
use Rattle.ob_lower_functions.specs.StatementCode as code
use Rattle.ob_lower.specs.declared.position.Waiting.{Waiting}
use Rattle.ob_lower.specs.declared.position.Waiting.TheVariants.{Nothing, Fields, Refused}

-- what waits
abbrev pub waiting_of : Waiting → code.Waiting
waiting_of Nothing = code.none_waits
waiting_of (Fields row) = code.row_waits row.first row.given row.slots
waiting_of Refused = code.refused_waits

-- the terms of a statement that declares and stages nothing, with the position after it
abbrev pub then_settled : code.BlockPosition → Result SilicaTerms Stop → Result (code.BlockPosition × SilicaTerms) Stop
then_settled q terms = terms >>= code.past_statement q

-- Where a body begins.
use Rattle.std.specs.Prelude.{ℕ, List}
use Rattle.ob_table.specs.Statements.{Block, resolved_block, ResolvedBody}
use Rattle.ob_lower_spec.specs.Forms.{SlotVariable}
use Rattle.ob_lower_functions.specs.StatementCode.{BlockPosition, none_waits}

-- the statements of a body, as a block
abbrev pub block_of : ResolvedBody → Block
block_of body = resolved_block body.statements body.end

-- the position at which these variables are visible, which have so many slots with `this`, and nothing waits
abbrev pub begins : List SlotVariable → ℕ → BlockPosition
begins variables slots = record { variables = variables; slots = slots; waiting = none_waits }

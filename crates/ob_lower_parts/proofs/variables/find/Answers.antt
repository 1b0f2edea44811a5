use Rattle.std.proofs.Common.{◌-◌, ◌∙◌, arith}
use Rattle.ob_lower_parts.proofs.VariablesLemmas.{variable_at-here, variable_at-past}
use Rattle.ob_lower_parts.proofs.variables.find.Goals as goal

pub returns-then-variable-local : goal.returns-then-variable-local
returns-then-variable-local c =
    let k = c.loop-index.index - 1 in
    variable_at-here c.args.variables.now k c.loop-index.index _ c.args.local (omega arith) (omega arith)
    c.if-variable-local.true ∙ c.loop-index.invariant

pub loop-index-preserved : goal.loop-index-preserved
loop-index-preserved c =
    let k = c.loop-index.index - 1 in
    variable_at-past c.args.variables.now k c.loop-index.index _ c.args.local (omega arith) (omega arith)
    c.if-variable-local.false ∙ c.loop-index.invariant

use Rattle.std.proofs.Common.{◌≡◌, drop}
use Rattle.std.specs.Prelude.{max}
use Rattle.ob_emit_spec.specs.Operands.{all_scratch_slots}
use Rattle.ob_emit.proofs.scratch.of_operands.Given as goal

abbrev pub invariant-loop-operand : goal.invariant-loop-operand
invariant-loop-operand l =
    max l.most (all_scratch_slots l.number (drop l.operand-index l.operands)) ≡ all_scratch_slots l.first l.operands

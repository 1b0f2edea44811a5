use Rattle.std.proofs.Common.{◌≡◌, drop}
use Rattle.std.specs.Prelude.{max}
use Rattle.ob_silica.specs.Slots.{slots_of_operands}
use Rattle.ob_lower_parts.proofs.counts.of_operands.Given as goal

abbrev pub invariant-loop-operand : goal.invariant-loop-operand
invariant-loop-operand l =
    max l.most (slots_of_operands (drop l.operand-index l.operands)) ≡ slots_of_operands l.operands

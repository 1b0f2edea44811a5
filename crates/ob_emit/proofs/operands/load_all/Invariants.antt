use Rattle.std.proofs.Common.{◌≡◌, ◌++◌, drop}
use Rattle.ob_emit_spec.specs.Operands.{slots_read, loads}
use Rattle.ob_emit.proofs.operands.load_all.Given as goal

abbrev pub invariant-loop-operand : goal.invariant-loop-operand
invariant-loop-operand l = record {
  slots : l.slots ++ slots_read l.scratch l.number (drop l.operand-index l.operands) ≡ slots_read l.scratch l.first l.operands;
  code : l.out ++ loads l.scratch l.number (drop l.operand-index l.operands) ≡ l.fn.out ++ loads l.scratch l.first l.operands;
}

use Rattle.std.proofs.Common.{◌≡◌, ◌++◌, drop}
use Rattle.ob_emit_spec.specs.Operands.{loads, values_given}
use Rattle.ob_emit_spec.specs.Emission.{given_slots}
use Rattle.ob_emit.proofs.operands.load_given.Given as goal

abbrev pub invariant-loop-one : goal.invariant-loop-one
invariant-loop-one l = record {
  slots : l.slots ++ given_slots l.scratch l.number (drop l.one-index l.given) ≡ given_slots l.scratch 0 l.given;
  code : l.out ++ loads l.scratch l.number (values_given (drop l.one-index l.given))
      ≡ l.fn.out ++ loads l.scratch 0 (values_given l.given);
}

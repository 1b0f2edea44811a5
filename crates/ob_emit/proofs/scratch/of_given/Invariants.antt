use Rattle.std.proofs.Common.{◌≡◌, drop}
use Rattle.std.specs.Prelude.{max}
use Rattle.ob_emit_spec.specs.Operands.{all_scratch_slots, values_given}
use Rattle.ob_emit.proofs.scratch.of_given.Given as goal

abbrev pub invariant-loop-one : goal.invariant-loop-one
invariant-loop-one l =
    max l.most (all_scratch_slots l.number (values_given (drop l.one-index l.given))) ≡ all_scratch_slots 0 (values_given l.given)

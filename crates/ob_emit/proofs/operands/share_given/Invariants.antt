use Rattle.std.proofs.Common.{◌≡◌, ◌++◌, drop}
use Rattle.ob_emit_spec.specs.Emission.{shares_of_given}
use Rattle.ob_emit.proofs.operands.share_given.Given as goal

abbrev pub invariant-loop-one : goal.invariant-loop-one
invariant-loop-one l =
    l.out ++ shares_of_given l.frame.static.own (drop l.one-index l.given)
    ≡ l.fn.out ++ shares_of_given l.frame.static.own l.given

use Rattle.std.proofs.Common.{◌≡◌, ◌++◌, drop}
use Rattle.std.specs.Prelude.{map}
use Rattle.ob_emit_spec.specs.Operands.{shares}
use Rattle.ob_emit.proofs.operands.share_params.Given as goal

abbrev pub invariant-loop-index : goal.invariant-loop-index
invariant-loop-index l =
    l.out ++ shares (map (λ p. p.of) (drop l.index l.params)) (drop l.index l.slots)
    ≡ l.fn.out ++ shares (map (λ p. p.of) l.params) l.slots

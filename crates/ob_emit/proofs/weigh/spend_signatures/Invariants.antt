use Rattle.std.proofs.Common.{◌≡◌, ◌+◌, drop}
use Rattle.ob_weight_laws.specs.Counting.{size_of_signatures}
use Rattle.ob_emit.proofs.weigh.spend_signatures.Given as goal

abbrev pub invariant-loop-signature : goal.invariant-loop-signature
invariant-loop-signature l =
    l.left + size_of_signatures l.signatures ≡ l.fn.left + size_of_signatures (drop l.signature-index l.signatures)

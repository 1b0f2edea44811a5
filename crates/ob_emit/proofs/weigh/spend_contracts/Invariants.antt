use Rattle.std.proofs.Common.{◌≡◌, ◌+◌, drop}
use Rattle.ob_weight_laws.specs.Counting.{size_of_contracts}
use Rattle.ob_emit.proofs.weigh.spend_contracts.Given as goal

abbrev pub invariant-loop-own : goal.invariant-loop-own
invariant-loop-own l = l.left + size_of_contracts l.contracts ≡ l.fn.left + size_of_contracts (drop l.own-index l.contracts)

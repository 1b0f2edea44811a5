use Rattle.std.proofs.Common.{◌≡◌, map, take}
use Rattle.ob_resolve_spec.specs.Declarations.{transactions_of}
use Rattle.ob_resolve_scope.specs.Once.{asked_of, parts_of}
use Rattle.ob_resolve_scope.specs.Types.{program_of}
use Rattle.ob_resolve_scope.proofs.asked.all_asked.Given as goal

abbrev pub invariant-loop-node : goal.invariant-loop-node
invariant-loop-node l =
    map (map parts_of) l.all ≡ map (λ c. map asked_of (transactions_of c)) (program_of (take l.node-index l.nodes))

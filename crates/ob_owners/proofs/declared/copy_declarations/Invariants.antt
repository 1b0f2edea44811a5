use Rattle.std.proofs.Common.{◌≡◌, take, map}
use Rattle.ob_owners.specs.Indexes.{without_bodies}
use Rattle.ob_owners.proofs.declared.copy_declarations.Given as goal

-- what has been gone over is copied
abbrev pub invariant-loop-contract : goal.invariant-loop-contract
invariant-loop-contract l = l.copies ≡ map without_bodies (take l.contract-index l.contracts)

use Rattle.std.proofs.Common.{◌≡◌, ◌++◌, drop, map}
use Rattle.ob_silica.specs.TermsView.{silica_body_of}
use Rattle.ob_weight_laws.specs.Bodies.{contracts_in_order}
use Rattle.ob_emit.proofs.bodies.emit_contracts.Given as goal

abbrev pub invariant-loop-own : goal.invariant-loop-own
invariant-loop-own l =
    l.code ++ contracts_in_order l.table (map silica_body_of l.rest) l.number (drop l.own-index l.contracts)
    ≡ contracts_in_order l.table (map silica_body_of l.bodies) 0 l.contracts

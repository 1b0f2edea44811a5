use Rattle.std.proofs.Common.{◌≡◌, ◌++◌, drop, map}
use Rattle.ob_silica.specs.TermsView.{silica_body_of}
use Rattle.ob_weight_laws.specs.Bodies.{bodies_in_order}
use Rattle.ob_emit.proofs.bodies.emit_bodies.Given as goal

abbrev pub invariant-loop-signature : goal.invariant-loop-signature
invariant-loop-signature l =
    l.code ++ bodies_in_order l.table (map silica_body_of l.bodies) l.id l.own l.number (drop l.signature-index l.signatures)
    ≡ bodies_in_order l.table (map silica_body_of l.bodies) l.id l.own 0 l.signatures

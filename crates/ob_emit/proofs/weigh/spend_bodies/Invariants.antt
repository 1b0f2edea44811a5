use Rattle.std.proofs.Common.{◌≡◌, ◌+◌, drop}
use Rattle.std.specs.Prelude.{map}
use Rattle.ob_silica.specs.TermsView.{silica_body_of}
use Rattle.ob_emit_spec.specs.Weights.{weight_of_bodies}
use Rattle.ob_weight_laws.specs.Lines.{AllLinesFit}
use Rattle.ob_emit.proofs.weigh.spend_bodies.Given as goal

abbrev pub invariant-loop-body : goal.invariant-loop-body
invariant-loop-body l = record {
  left : l.left + weight_of_bodies (map silica_body_of l.bodies)
      ≡ l.fn.left + weight_of_bodies (map silica_body_of (drop l.body-index l.bodies));
  lines : AllLinesFit (map silica_body_of (drop l.body-index l.bodies)) → AllLinesFit (map silica_body_of l.bodies);
}

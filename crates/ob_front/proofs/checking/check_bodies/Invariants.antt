use Rattle.std.proofs.Common.{◌≡◌, map, drop}
use Rattle.ob_silica.specs.TermsView.{silica_body_of}
use Rattle.ob_front.specs.Checked.{first_flow_fault}
use Rattle.ob_front.proofs.checking.check_bodies.Given as goal

abbrev pub invariant-loop-body : goal.invariant-loop-body
invariant-loop-body l =
    first_flow_fault l.table (map silica_body_of (drop l.body-index l.bodies))
    ≡ first_flow_fault l.table (map silica_body_of l.bodies)

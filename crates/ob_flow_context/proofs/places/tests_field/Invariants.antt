use Rattle.std.proofs.Common.{◌≡◌, take}
use Rattle.ob_flow_spec.specs.Contexts.{tests_field}
use Rattle.ob_flow_context.specs.View.{tested_of}
use Rattle.ob_flow_context.proofs.places.tests_field.Given as goal

abbrev pub invariant-loop-place : goal.invariant-loop-place
invariant-loop-place l = l.found ≡ tests_field (tested_of (take l.place-index l.tested))

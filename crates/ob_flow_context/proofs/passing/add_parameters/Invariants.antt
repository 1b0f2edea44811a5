use Rattle.std.proofs.Common.{◌≡◌, ◌++◌, map, take}
use Rattle.ob_silica_places.specs.Parameters.{parameter_of}
use Rattle.ob_flow_context.specs.Parameters.{plain_parameters}
use Rattle.ob_flow_context.proofs.passing.add_parameters.Given as goal

abbrev pub invariant-loop-param : goal.invariant-loop-param
invariant-loop-param l = plain_parameters l.all ≡ plain_parameters l.fn.all ++ map parameter_of (take l.param-index l.params)

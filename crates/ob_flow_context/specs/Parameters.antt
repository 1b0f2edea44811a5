-- What the parameters of the code represent.
use Rattle.std.specs.Prelude.{List, map}
use Rattle.ob_silica_places.specs.Parameters.{Parameter}
use Rattle.ob_flow_context.specs.declared.passing.Parameter.{Parameter as ParameterOfCall}

-- a parameter, or `this`
abbrev pub plain_parameter : ParameterOfCall → Parameter
plain_parameter p = record { of = p.of; exit = p.exit }

-- parameters in their order
abbrev pub plain_parameters : List ParameterOfCall → List Parameter
plain_parameters ps = map plain_parameter ps

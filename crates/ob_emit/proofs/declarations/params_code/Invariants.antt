use Rattle.std.proofs.Common.{◌≡◌, ◌++◌, drop, map}
use Rattle.ob_emit_spec.specs.EmittedImages.{param_code}
use Rattle.ob_emit.proofs.declarations.params_code.Given as goal

abbrev pub invariant-loop-param : goal.invariant-loop-param
invariant-loop-param l = l.code ++ map param_code (drop l.param-index l.params) ≡ map param_code l.params

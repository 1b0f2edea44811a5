use Rattle.std.proofs.Common.{◌≡◌, take, map}
use Rattle.ob_tree.specs.ExprsView.{expr_of}
use Rattle.ob_generic_spec.specs.InstanceBodies.{expr_in}
use Rattle.ob_generic.proofs.expressions.+instance.Given as goal

abbrev pub invariant-args_in-loop-arg : goal.invariant-args_in-loop-arg
invariant-args_in-loop-arg l = map expr_of l.out ≡ map (expr_in l.own) (map expr_of (take l.arg-index l.args))

use Rattle.std.proofs.Common.{◌≡◌, map, take}
use Rattle.ob_tree.specs.MembersView.{formal_of}
use Rattle.ob_resolve_spec.specs.Kinds.{kinds_of_params}
use Rattle.ob_resolve_scope.specs.Types.{program_of}
use Rattle.ob_resolve_scope.proofs.declared.param_kinds.Given as goal

abbrev pub invariant-loop-param : goal.invariant-loop-param
invariant-loop-param l = l.kinds ≡ kinds_of_params (program_of l.types) (map formal_of (take l.param-index l.params))

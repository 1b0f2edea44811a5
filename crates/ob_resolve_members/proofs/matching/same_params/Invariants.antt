use Rattle.std.proofs.Common.{◌≡◌, map}
use Rattle.std.specs.Cmp.Lexicographic.{pointwise}
use Rattle.ob_tree.specs.MembersView.{formal_of}
use Rattle.ob_resolve_spec.specs.Declarations.{params_of}
use Rattle.ob_resolve_spec.specs.Interfaces.{same_param}
use Rattle.ob_resolve_scope.specs.Types.{program_of}
use Rattle.ob_resolve_members.specs.Same.{params_from}
use Rattle.ob_resolve_members.proofs.matching.same_params.Given as goal

abbrev pub invariant-loop-param : goal.invariant-loop-param
invariant-loop-param l =
    pointwise (same_param (program_of l.declared)) (params_from l.param-index l.params) (params_from l.at l.asked)
    ≡ pointwise (same_param (program_of l.declared)) (params_of (map formal_of l.params))
    (params_of (map formal_of l.asked))

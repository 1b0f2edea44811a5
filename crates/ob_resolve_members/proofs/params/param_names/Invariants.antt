use Rattle.std.proofs.Common.{◌≡◌, map, take}
use Rattle.ob_tree.specs.MembersView.{formal_of}
use Rattle.ob_resolve_spec.specs.Declarations.{params_of}
use Rattle.ob_resolve_members.proofs.params.param_names.Given as goal

abbrev pub invariant-loop-param : goal.invariant-loop-param
invariant-loop-param l = l.names ≡ map (λ p. p.name) (params_of (map formal_of (take l.param-index l.params)))

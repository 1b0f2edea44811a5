use Rattle.std.proofs.Common.{◌≡◌, map, take}
use Rattle.ob_tree.specs.MembersView.{formal_of}
use Rattle.ob_resolve_spec.specs.Declarations.{params_of}
use Rattle.ob_resolve_spec.specs.TableOf.{param_in_table}
use Rattle.ob_resolve_scope.specs.Types.{program_of}
use Rattle.ob_resolve_table.proofs.signatures.table_params.Given as goal

abbrev pub invariant-loop-param : goal.invariant-loop-param
invariant-loop-param l =
    l.made ≡ map (param_in_table (program_of l.types)) (params_of (map formal_of (take l.param-index l.params)))

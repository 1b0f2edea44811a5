use Rattle.std.proofs.Common.{◌≡◌, map}
use Rattle.ob_tree.specs.MembersView.{formal_of, contract_of}
use Rattle.ob_table_spec.specs.Names.{in_order}
use Rattle.ob_resolve_spec.specs.Visible.{visible_in}
use Rattle.ob_resolve_spec.specs.MemberSites.{formal_sites}
use Rattle.ob_resolve_scope.specs.Types.{program_of}
use Rattle.ob_resolve_sites.specs.Noted.{noted}
use Rattle.ob_resolve_members.proofs.ParamLemmas.{rest_of_formals}
use Rattle.ob_resolve_members.proofs.params.walk_formals.Given as goal

abbrev pub invariant-loop-before : goal.invariant-loop-before
invariant-loop-before l =
    let v = visible_in (program_of l.around.program) (contract_of l.around.own) in
    noted l.least (rest_of_formals v l.constructor l.params l.before)
    ≡ noted l.fn.least (in_order (formal_sites v l.constructor) (map formal_of l.params))

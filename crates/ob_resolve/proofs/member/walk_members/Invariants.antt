use Rattle.std.proofs.Common.{◌≡◌, map, flat_map, drop}
use Rattle.ob_tree.specs.MembersView.{member_of, contract_of}
use Rattle.ob_resolve_spec.specs.MemberSites.{member_sites}
use Rattle.ob_resolve_scope.specs.Types.{program_of}
use Rattle.ob_resolve_sites.specs.Noted.{noted}
use Rattle.ob_resolve.proofs.member.walk_members.Given as goal

abbrev pub invariant-loop-member : goal.invariant-loop-member
invariant-loop-member l =
    let sites = flat_map (member_sites (program_of l.around.program) (contract_of l.around.own)) in
    noted l.least (sites (map member_of (drop l.member-index l.members))) ≡ noted l.fn.least (sites (map member_of l.members))

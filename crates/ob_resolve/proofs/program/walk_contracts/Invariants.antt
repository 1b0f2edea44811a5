use Rattle.std.proofs.Common.{◌≡◌, flat_map, drop}
use Rattle.ob_resolve_spec.specs.MemberSites.{contract_sites}
use Rattle.ob_resolve_scope.specs.Types.{program_of}
use Rattle.ob_resolve_sites.specs.Noted.{noted}
use Rattle.ob_resolve.proofs.program.walk_contracts.Given as goal

abbrev pub invariant-loop-number : goal.invariant-loop-number
invariant-loop-number l =
    let sites = flat_map (contract_sites (program_of l.declared)) in
    noted l.least (sites (program_of (drop l.number l.declared))) ≡ noted l.fn.least (sites (program_of l.declared))

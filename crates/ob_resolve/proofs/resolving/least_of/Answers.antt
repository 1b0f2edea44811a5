use Rattle.std.proofs.Common.{◌≡◌, None, IfOk, map, subst}
use Rattle.ob_tree.specs.MembersView.{contract_of}
use Rattle.ob_resolve_spec.specs.MemberSites.{sites_of}
use Rattle.ob_resolve_sites.specs.Noted.{noted_is}
use Rattle.ob_resolve.proofs.resolving.least_of.Goals as goal

-- the least of all sites' faults, noted one after another
pub returns : goal.returns
returns c = subst (λ l. IfOk c.find_least.result (λ least. least ≡ l))
    (noted_is None (sites_of (map contract_of c.args.declared.now))) c.find_least.ensures

use Rattle.std.proofs.Common.{◌∙◌}
use Rattle.ob_resolve_sites.proofs.NamingLemmas.{mapped-is_some, variable-is_some}
use Rattle.ob_resolve_sites.proofs.naming.is_local.Goals as goal

pub returns : goal.returns
returns c = c.is_some.ensures ∙ mapped-is_some _ _ _ c.variable.ensures
    ∙ variable-is_some c.args.name.now c.args.scope.now.variables

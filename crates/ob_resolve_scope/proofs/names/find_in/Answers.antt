use Rattle.std.proofs.Common.{◌∙◌}
use Rattle.ob_resolve_scope.proofs.NamesLemmas.{find-plain}
use Rattle.ob_resolve_scope.proofs.names.find_in.Goals as goal

pub returns : goal.returns
returns c = c.copied.ensures ∙ c.get.ensures.value ∙ find-plain c.args.name.now c.args.map.now.entries

use Rattle.std.proofs.Common.{ap, ◌∙◌}
use Rattle.ob_resolve_scope.specs.Numbered.{plain}
use Rattle.ob_resolve_scope.proofs.NamesLemmas.{take-plain}
use Rattle.ob_resolve_scope.proofs.names.cut.Goals as goal

pub returns : goal.returns
returns c = ap plain c.truncate.ensures.entries ∙ take-plain _ _

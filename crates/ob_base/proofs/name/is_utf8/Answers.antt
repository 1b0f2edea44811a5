use Rattle.std.proofs.Common.{◌∙◌}
use Rattle.ob_base.proofs.Utf8.{by_conversion}
use Rattle.ob_base.proofs.name.is_utf8.Goals as goal

pub returns : goal.returns
returns c = c.is_ok.ensures.value ∙ by_conversion _ _ _ _ c.from_utf8.ensures.cases

use Rattle.std.proofs.Common.{◌∙◌, ap}
use Rattle.ob_base.specs.Names.{is_text}
use Rattle.ob_store_payload.proofs.ConditionLemmas.{text_is}
use Rattle.ob_store_payload.proofs.conditions.is_text.Goals as goal

pub returns : goal.returns
returns c = text_is c.as_str.result.now c.as_str.utf8 ∙ ap is_text c.as_str.ensures

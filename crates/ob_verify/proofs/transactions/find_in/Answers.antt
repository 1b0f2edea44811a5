use Rattle.std.proofs.Common.{◌∙◌}
use Rattle.ob_verify.proofs.PlaceLemmas.{find-plain}
use Rattle.ob_verify.proofs.transactions.find_in.Goals as goal

pub returns : goal.returns
returns c = c.copied.ensures ∙ c.get.ensures.value ∙ find-plain c.args.name.now c.args.map.now.entries

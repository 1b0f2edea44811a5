use Rattle.std.proofs.Common.{◌∙◌, sym}
use Rattle.ob_machine_parts.proofs.NewestLemmas.{among_reverse}
use Rattle.ob_machine_parts.proofs.numbers.is_in.Goals as goal

pub returns : goal.returns
returns c = c.contains.ensures ∙ sym (among_reverse c.args.number c.args.set.now.keys)

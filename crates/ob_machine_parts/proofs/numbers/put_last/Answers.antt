use Rattle.std.proofs.Common.{◌∙◌, ap}
use Rattle.std.specs.Prelude.{reverse}
use Rattle.ob_machine_parts.proofs.NewestLemmas.{reverse_insert}
use Rattle.ob_machine_parts.proofs.numbers.put_last.Goals as goal

pub returns-in-Ok-clause-ok : goal.returns-in-Ok-clause-ok
returns-in-Ok-clause-ok c = ap reverse c.in-Ok.ensures.keys ∙ reverse_insert c.args.number c.args.set.now.keys c.requires

use Rattle.std.proofs.Common.{◌∙◌}
use Rattle.ob_lanes.proofs.ListLemmas.{added_last}
use Rattle.ob_lanes.proofs.lists.add_last.Goals as goal

pub returns-in-Ok-clause-ok : goal.returns-in-Ok-clause-ok
returns-in-Ok-clause-ok c = c.in-Ok.ensures.keys ∙ added_last c.args.object c.args.objects.now.keys c.requires

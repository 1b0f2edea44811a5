use Rattle.std.proofs.Common.{◌∙◌}
use Rattle.ob_heap.proofs.OverlaysLemmas.{lookup_changed}
use Rattle.ob_heap.proofs.changed.find_in.Goals as goal

pub returns : goal.returns
returns c = c.get.ensures.value ∙ lookup_changed c.args.id c.args.map.now.entries

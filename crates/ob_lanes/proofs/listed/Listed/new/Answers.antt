use Rattle.std.proofs.Common.{◌∙◌, map, sym, ap}
use Rattle.ob_lanes.specs.Readers.{objects_read}
use Rattle.ob_lanes.proofs.StaleLemmas.{entered_idle}
use Rattle.ob_lanes.proofs.listed.Listed.new.Goals as goal

pub invariant_of-result : goal.invariant_of-result
invariant_of-result c = c.in_ok-readers.ensures ∙ entered_idle c.args.count ∙ ap (map objects_read) (sym c.in_ok-lanes.ensures)

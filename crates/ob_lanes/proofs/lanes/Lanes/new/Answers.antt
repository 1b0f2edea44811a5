use Rattle.std.proofs.Common.{[], refl}
use Rattle.ob_lanes.proofs.Idle.{idle_stands}
use Rattle.ob_lanes.proofs.lanes.Lanes.new.Goals as goal

pub returns-clause-stand : goal.returns-clause-stand
returns-clause-stand c = λ image fuel base. idle_stands image fuel base [] c.args.lanes _ c.new.ensures.items c.in_ok-new.ensures refl c.requires.some c.requires.slice

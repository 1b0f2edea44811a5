-- From what the schedule keeps.
use Rattle.ob_lanes_laws.proofs.Keeping.{schedules_are_serializable}
use Rattle.ob_lanes_laws.proofs.laws.schedules_are_serializable.Goals as goal

pub returns : goal.returns
returns g c = schedules_are_serializable

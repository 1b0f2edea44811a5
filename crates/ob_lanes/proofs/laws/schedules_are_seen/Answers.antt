use Rattle.ob_lanes.proofs.Seen.{turns_are_seen, commits_are_seen}
use Rattle.ob_lanes.proofs.laws.schedules_are_seen.Goals as goal

pub returns : goal.returns
returns g c = record { turns = turns_are_seen; commits = commits_are_seen }

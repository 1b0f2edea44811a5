use Rattle.std.proofs.Common.{◌-◌, length}
use Rattle.ob_journal.specs.Surveys.{EndsAt}
use Rattle.ob_journal.proofs.records.records_end.Given as goal

-- the records before the gate were read
abbrev pub invariant-records : goal.invariant-records
invariant-records l = EndsAt l.gate l.bytes

abbrev pub decreases-records : goal.decreases-records
decreases-records l = length l.bytes - l.gate

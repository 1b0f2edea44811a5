use Rattle.std.proofs.Common.{length}
use Rattle.ob_conformance.proofs.desk.put_payloads.Given as goal

abbrev pub decreases-records : goal.decreases-records
decreases-records l = length l.records

use Rattle.std.proofs.Common.{drop}
use Rattle.ob_journal.proofs.AreaHeads.{whole_of}
use Rattle.ob_journal.proofs.finding.read_area.Goals as goal

pub returns-clause-bytes : goal.returns-clause-bytes
returns-clause-bytes g c = λ c' reads.
    whole_of c.in_ok-bytes.bytes.items (drop c.args.at c') c.bytes_there.result c.args.area (c.bytes_there.ensures.length c' (c.requires.counts c' reads)) (c.in_ok-bytes.ensures.bytes c' reads)

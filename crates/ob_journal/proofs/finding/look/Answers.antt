use Rattle.std.proofs.Common.{ℕ, ◌∙◌, ap, take, drop}
use Rattle.ob_disk_spec.proofs.Behind.{behind_none}
use Rattle.ob_journal.proofs.AreaHeads.{front_of}
use Rattle.ob_journal.proofs.finding.look.Goals as goal

pub returns-then-there-eq0-clause-behind : goal.returns-then-there-eq0-clause-behind
returns-then-there-eq0-clause-behind g c = λ size. behind_none size (g.D.Disk.view c.args.disk.now)

pub returns-clause-head : goal.returns-clause-head
returns-clause-head g c = λ c' reads.
    let count = c.bytes_there-there.ensures.length c' (c.requires c' reads) in
    c.read_head.ensures (take c.args.area (drop c.args.at c')) (front_of c.as_slice.result.now (drop c.args.at c') c.bytes_there-there.result c.args.area count (c.as_slice.ensures.value ∙ c.in_ok-bytes.ensures.bytes c' reads ∙ ap (λ (n : ℕ). take n (drop c.args.at c')) c.min.ensures))

use Rattle.ob_journal.proofs.AreaHeads.{begins_marked, second_greater, first_not_less}
use Rattle.ob_journal_spec.specs.Disks.{second, area_at}
use Rattle.ob_journal.proofs.heads.first_marked.Goals as goal

pub returns-then-serial-second : goal.returns-then-serial-second
returns-then-serial-second c = λ size bytes marked other.
    second_greater size bytes c.args.serial c.in-Marked.second marked (begins_marked c.args.other c.in-Marked.second (area_at size second bytes) c.in-Marked.is other) c.if-serial-second.true

pub returns-else-serial-second : goal.returns-else-serial-second
returns-else-serial-second c = λ size bytes marked other.
    first_not_less size bytes c.args.serial c.in-Marked.second marked (begins_marked c.args.other c.in-Marked.second (area_at size second bytes) c.in-Marked.is other) c.if-serial-second.false

-- Where an area is too small.
use Rattle.std.specs.Prelude.{⊤, Result, Err}
use Rattle.ob_disk_spec.specs.Disk.{DiskView}
use Rattle.ob_disk_spec.specs.Durable.{May, During}
use Rattle.ob_journal.specs.declared.error.JournalError.{JournalError}
use Rattle.ob_journal.specs.declared.error.JournalError.TheVariants.{Room}
use Rattle.ob_journal.specs.declared.journal.Found.{Found}
use Rattle.ob_journal.specs.declared.journal.Journal.{Journal}

-- nothing is written there
abbrev pub StaysWithoutRoom : DiskView → DiskView → Result Journal JournalError → Type 0
StaysWithoutRoom old new (Err (Room need size)) = During old new (May old)
StaysWithoutRoom old new answer = ⊤

-- to find a journal no room is needed
abbrev pub NeedsNoRoom : Result Found JournalError → Type 0
NeedsNoRoom (Err (Room need size)) = ⊥
NeedsNoRoom answer = ⊤

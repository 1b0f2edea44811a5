use Rattle.std.proofs.Common.{List, ℕ, ◌∙◌, sym, subst}
use Rattle.ob_disk.specs.Memory.{notes_of}
use Rattle.ob_disk.specs.Notes.{Left}
use Rattle.ob_disk_spec.proofs.TornLemmas.{unsome}
use Rattle.ob_disk.proofs.Noted.{stopped_left}
use Rattle.ob_disk.proofs.memory.MemoryDisk.stop.Goals as goal

pub returns-clause-image : goal.returns-clause-image
returns-clause-image c = λ c' reads.
    let notes = notes_of c.args.self.now in
    let bytes = c.args.self.now.bytes.items in
    subst (λ (l : List ℕ). Left notes bytes l) (sym c.roll_back.ensures.bytes ∙ unsome _ c' reads) (stopped_left c.args.images notes bytes)

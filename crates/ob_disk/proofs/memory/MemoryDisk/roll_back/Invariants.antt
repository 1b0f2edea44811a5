use Rattle.std.proofs.Common.{◌≡◌, reverse, length}
use Rattle.ob_disk.specs.Notes.{stopped}
use Rattle.ob_disk.proofs.memory.MemoryDisk.roll_back.Given as goal

-- what is left of the number selects the same image of what is left of the calls
abbrev pub invariant-calls : goal.invariant-calls
invariant-calls l = record {
  image : stopped l.left (reverse l.self.notes.items) l.self.bytes.items ≡ stopped l.images (reverse l.fn.self.notes.items) l.fn.self.bytes.items;
  plan : l.self.plan ≡ l.fn.self.plan;
  room : l.self.room ≡ l.fn.self.room;
  calls : l.self.calls ≡ l.fn.self.calls;
  notes_all : l.self.notes_all ≡ l.fn.self.notes_all;
}

abbrev pub decreases-calls : goal.decreases-calls
decreases-calls l = length l.self.notes.items

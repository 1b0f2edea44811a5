-- What was read of a file, what is written of its text, and how a run ends as its session did; for private clauses.
use Rattle.std.specs.Prelude.{ℕ, ◌≡◌, ◌≤◌, List, length, take, Option, None, Some}
use Rattle.ob_io.specs.Views.{SinkView}
use Rattle.ob_store_spec.specs.Stores.{StoreRefusal}
use Rattle.ob_words.specs.Asked.{Command, Asked}
use Rattle.ob_run.specs.FileAsks.{most_read}
use Rattle.ob_run.specs.Statuses.{IsRefusal, IsFinding, IsOfText}
use Rattle.ob_run.specs.StoreLine.{store_line}
use Rattle.ob_outside.specs.Writes.{WritesWhole, WritesFront}
use Rattle.ob_outside.specs.declared.exit.Exit.{Exit}
use Rattle.ob_outside.specs.declared.exit.Exit.TheVariants.{Done, Refused, ReadFault, WriteFault, DiskFault, StoreRefused, Memory, Long}
use Rattle.ob_serve.specs.declared.serving.Served.{Served}
use Rattle.ob_serve.specs.declared.serving.Served.TheVariants as ended

-- what was read of a file: at most `most_read` bytes, and where its content is observable, a prefix of that
abbrev pub IsReadOf : Option (List ℕ) → List ℕ → Type 0
IsReadOf None text = length text ≤ most_read
IsReadOf (Some content) text = text ≡ take most_read content

-- What is written of a text alone, without a store and without input; nothing where memory runs out.
abbrev pub Tells : Command → List ℕ → SinkView → SinkView → Exit → Type 0
Tells command text before after Done = WritesWhole (IsFinding command text) before after
Tells command text before after Refused = WritesWhole (IsRefusal text) before after
Tells command text before after WriteFault = WritesFront (IsOfText command text) before after
Tells command text before after Memory = after ≡ before
Tells command text before after exit = ⊥

-- the line of a store that is refused was written, whole or in part, or memory ran out before it
abbrev pub TellsRefusal : StoreRefusal → SinkView → SinkView → Exit → Type 0
TellsRefusal refusal before after StoreRefused = WritesWhole (λ bytes. bytes ≡ store_line refusal) before after
TellsRefusal refusal before after WriteFault = WritesFront (λ bytes. bytes ≡ store_line refusal) before after
TellsRefusal refusal before after Memory = after ≡ before
TellsRefusal refusal before after exit = ⊥

-- a command with these settings
abbrev pub asked_with : Command → ℕ → ℕ → ℕ → Asked
asked_with command fuel lanes slice = record { command = command; limits = record { fuel = fuel; lanes = lanes; slice = slice } }

-- how a run ends whose session ended so
abbrev pub exit_of : Served → Exit
exit_of ended.Done = Done
exit_of ended.ReadFault = ReadFault
exit_of ended.WriteFault = WriteFault
exit_of ended.DiskFault = DiskFault
exit_of ended.Memory = Memory
exit_of ended.Long = Long

-- What each end of a session says of the input, the output and the disk: each row of the table of statuses is read downwards through
-- the four definitions by cases (this project's own).
use Rattle.std.specs.Prelude.{ℕ, ◌≡◌, ◌+◌, ◌<◌, ◌≤◌, ◌⊎◌, ⊤, List, ◌++◌, length, take, Option, None, Some}
use Rattle.ob_base.specs.Limits.{most_taken}
use Rattle.ob_disk_spec.specs.Disk.{DiskView, LeavesOnly}
use Rattle.ob_disk_spec.specs.Durable.{May, Throughout}
use Rattle.ob_io.specs.Causes.{Rose}
use Rattle.ob_outside.specs.Devices.{Devices}
use Rattle.ob_io.specs.Told.{TakesFrom, Gives, IsEnd}
use Rattle.ob_io.specs.LinesOfText.{lines_of, whole_lines}
use Rattle.ob_io.specs.Views.{SourceView, SinkView}
use Rattle.ob_serve.specs.Crash.{AfterFirst, AfterSome}
use Rattle.ob_serve.specs.Session.{SessionItem, items_from, replies}
use Rattle.ob_serve.specs.declared.serving.Served.{Served}
use Rattle.ob_serve.specs.declared.serving.Served.TheVariants.{Done, ReadFault, WriteFault, DiskFault, Memory, Long}

-- the bytes are what is observable; where nothing is observable, nothing is said
abbrev pub IsToldAs : Option (List ℕ) → List ℕ → Type 0
IsToldAs None bytes = ⊤
IsToldAs (Some all) bytes = bytes ≡ all

-- The input was read to its end, of fewer than `most_taken` bytes, and these are its lines.
pub record ReadsAll (old new : SourceView) (lines : List (List ℕ)) : Type 0 where
  pub input : List ℕ
  pub took : TakesFrom old new input
  pub end : IsEnd new.left
  pub within : length input < most_taken
  pub is : lines ≡ lines_of input

-- Some bytes were taken, whose number has P, and these are the lines that they hold whole.
pub record ReadsSome (P : ℕ → Type 0) (old new : SourceView) (lines : List (List ℕ)) : Type 0 where
  pub taken : List ℕ
  pub took : TakesFrom old new taken
  pub many : P (length taken)
  pub is : lines ≡ whole_lines taken

-- These are all lines of the input, whether or not they were read.
pub record HasLines (old : SourceView) (lines : List (List ℕ)) : Type 0 where
  pub input : List ℕ
  pub all : IsToldAs old.left input
  pub is : lines ≡ lines_of input

-- which lines an end speaks of
abbrev pub SpeaksOf : Served → SourceView → SourceView → List (List ℕ) → Type 0
SpeaksOf Done old new lines = ReadsAll old new lines
SpeaksOf ReadFault old new lines = ReadsSome (λ n. n < most_taken) old new lines
SpeaksOf Long old new lines = ReadsSome (λ n. n ≡ most_taken) old new lines
SpeaksOf WriteFault old new lines = HasLines old lines
SpeaksOf DiskFault old new lines = HasLines old lines
SpeaksOf Memory old new lines = HasLines old lines

-- how many of the items have their whole reply written
abbrev pub IsAnswered : Served → ℕ → ℕ → Type 0
IsAnswered Done items k = k ≡ items
IsAnswered ReadFault items k = k ≡ items
IsAnswered Long items k = k ≡ items
IsAnswered WriteFault items k = k < items
IsAnswered DiskFault items k = k < items
IsAnswered Memory items k = k ≤ items

-- what was written, where the whole replies of k items were: at WriteFault a prefix of the next follows
abbrev pub IsGiven : {S : Type 0} → Served → List (SessionItem S) → ℕ → List ℕ → Type 0
IsGiven WriteFault items k given =
    (front rest : List ℕ) × (given ≡ replies (take k items) ++ front) × (replies (take (k + 1) items) ≡ given ++ rest)
IsGiven Done items k given = given ≡ replies (take k items)
IsGiven ReadFault items k given = given ≡ replies (take k items)
IsGiven Long items k given = given ≡ replies (take k items)
IsGiven DiskFault items k given = given ≡ replies (take k items)
IsGiven Memory items k given = given ≡ replies (take k items)

-- how many items the store has, where the whole replies of k were written
abbrev pub IsStored : Served → ℕ → ℕ → Type 0
IsStored WriteFault k j = j ≡ k + 1
IsStored DiskFault k j = (j ≡ k) ⊎ (j ≡ k + 1)
IsStored Done k j = j ≡ k
IsStored ReadFault k j = j ≡ k
IsStored Long k j = j ≡ k
IsStored Memory k j = j ≡ k

-- the fault that an end has for its cause
abbrev pub IsCause : Served → Devices → Devices → Type 0
IsCause ReadFault old new = Rose old.input.faults new.input.faults
IsCause WriteFault old new = Rose old.output.faults new.output.faults
IsCause DiskFault old new = Rose old.disk.faults new.disk.faults
IsCause Done old new = ⊤
IsCause Long old new = ⊤
IsCause Memory old new = ⊤

-- A session ended: the row of its status. `items` says the items of a line, and `stands` when bytes represent a store.
pub record Ends {S : Type 0} (items : S → List ℕ → List (SessionItem S)) (stands : S → List ℕ → Type 0) (start : S) (old new : Devices) (served : Served) : Type 0 where
  pub lines : List (List ℕ)
  pub of_input : SpeaksOf served old.input new.input lines
  pub k : ℕ
  pub answered : IsAnswered served (length (items_from items start lines)) k
  pub given : List ℕ
  pub written : Gives old.output.written new.output.written given
  pub given_is : IsGiven served (items_from items start lines) k given
  pub stored : Throughout new.disk (AfterFirst stands start (items_from items start lines) (IsStored served k))
  pub since : LeavesOnly old.disk new.disk (λ c. May old.disk c ⊎ AfterSome stands start (items_from items start lines) c)
  pub cause : IsCause served old new

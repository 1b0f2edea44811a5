-- What a run asks of the files.
use Rattle.std.specs.Prelude.{ℕ, ◌≡◌, ◌+◌, List, Option, None, Some}
use Rattle.std.specs.Option.{option_and_then}
use Rattle.ob_base.specs.Limits.{longest_program}
use Rattle.ob_io.specs.Files.{IsAsked, IsAskedAtMost}
use Rattle.ob_io.specs.Views.{Ask}
use Rattle.ob_words.specs.Asked.{Asked}
use Rattle.ob_run.specs.Commands.{file_of}

-- the most bytes of a program's file that are read: one more than a program may have
abbrev pub most_read : ℕ
most_read = longest_program + 1

-- what is asked of the file P: its content, cut after the most bytes that are read
abbrev pub program_ask : List ℕ → Ask
program_ask name = record { name = name; limit = most_read }

-- P was asked, once, and no other file; nothing, where a command has no file
abbrev pub AsksOnce : Option (List ℕ) → List Ask → List Ask → Type 0
AsksOnce None old new = new ≡ old
AsksOnce (Some name) old new = IsAsked old new (program_ask name)

-- the same, once at most
abbrev pub AsksAtMostOnce : Option (List ℕ) → List Ask → List Ask → Type 0
AsksAtMostOnce None old new = new ≡ old
AsksAtMostOnce (Some name) old new = IsAskedAtMost old new (program_ask name)

-- the file of what the words ask for, if they are a command that has one
abbrev pub file_asked : Option Asked → Option (List ℕ)
file_asked asked = option_and_then (λ (a : Asked). file_of a.command) asked

-- At most the file of what the words ask for was asked, once. Where they are no command nothing was.
abbrev pub AsksFor : Option Asked → List Ask → List Ask → Type 0
AsksFor asked old new = AsksAtMostOnce (file_asked asked) old new

-- The text that a command is about (this project's own).
use Rattle.std.specs.Prelude.{ℕ, List, Option, Some, None}
use Rattle.ob_io.specs.Views.{FilesView}
use Rattle.ob_words.specs.Asked.{Command, check, serve, serve_stored, audit, trial}
use Rattle.ob_run.specs.VendingMachine.{vending_machine}

-- the file P of a command; a trial has none
abbrev pub file_of : Command → Option (List ℕ)
file_of (check name) = Some name
file_of (serve name) = Some name
file_of (serve_stored name store) = Some name
file_of (audit name store) = Some name
file_of (trial length) = None

-- what is observable of the text of a command: of P what the view of the files has; a trial is one of the vending machine
abbrev pub text_in : FilesView → Option (List ℕ) → Option (List ℕ)
text_in files None = Some vending_machine
text_in files (Some name) = files.content name

-- The command line, as a value of `clap` (the crate's own documentation says how it reads words; the words are this project's own).
use Rattle.std.specs.Prelude.{Bool, true, false, List, [], ◌∷◌, Some, codes}
use Rattle.clap.specs.Kinds.{Kinds}
use Rattle.clap.specs.Walk.{Rule, Row, Text}
use Rattle.clap.specs.Simple.{App, new_app, new_rule, on_top, with_rule, matches_of}
use Rattle.clap.specs.Faults.{fault_of}
use Rattle.clap.specs.declared.builder.action.ArgAction.TheVariants.{Append}

-- an option with one value: `--NAME VALUE` or `--NAME=VALUE`
abbrev pub option_rule : Text → Rule
option_rule name = record (new_rule name) { long = Some name }

-- the word for the command, which is required
abbrev pub command_rule : Rule
command_rule = record (new_rule (codes "command")) { required = true }

-- the words after it, of which there may be any number
abbrev pub words_rule : Rule
words_rule = record (new_rule (codes "words")) { action = Some Append }

-- The program's own name isn't among the words.
abbrev pub bare_line : App
bare_line = on_top (λ s. record s { no_binary_name = true }) (new_app (codes "obsidian"))

-- The command line: three options, a word for the command, and words after it. There are no subcommands. `clap` itself adds `--help`
-- and `-h`.
abbrev pub command_line : App
command_line = with_rule (with_rule (with_rule (with_rule (with_rule bare_line
    (option_rule (codes "fuel"))) (option_rule (codes "lanes"))) (option_rule (codes "slice")))
    command_rule) words_rule

-- there is no cause
abbrev pub is_none : Kinds → Bool
is_none [] = true
is_none (kind ∷ kinds) = false

-- `clap` takes the words: it has no cause to refuse them. A request for help is such a cause.
abbrev pub is_taken : List Text → Bool
is_taken words = is_none (fault_of command_line words)

-- the values that it finds in words that it takes
abbrev pub values_in : List Text → List Row
values_in words = matches_of command_line words

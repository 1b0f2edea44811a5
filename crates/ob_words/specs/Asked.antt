-- What the words of the command line ask for (this project's own).
use Rattle.std.specs.Prelude.{ℕ, List, [], ◌∷◌, Option, None, Some, codes, if◌then◌else◌, option_map, option_and_then}
use Rattle.std.specs.Str.{bytes_eq}
use Rattle.clap.specs.Walk.{Row, Text, all_of, first_of}
use Rattle.ob_base.specs.Limits.{longest_trial}
use Rattle.ob_words.specs.CommandLine.{is_taken, values_in}
use Rattle.ob_words.specs.Settings.{fuel, lanes, slice, number_in, setting_of}

-- The commands. `check P` tells the first fault of the text in the file P, or that it has none. `serve P` serves lines for the program
-- in the file P over a store in memory, and `serve P STORE` over the store on the disk STORE. `audit P STORE` counts what that store
-- holds. `trial N` answers the lines of the trial of length N.
pub data Command : Type 0 where
  check : Text → Command
  serve : Text → Command
  serve_stored : Text → Text → Command
  audit : Text → Text → Command
  trial : ℕ → Command

-- the settings of a session: the units of fuel that each request has, the lanes, and the units of a slice
pub record Limits : Type 0 where
  pub fuel : ℕ
  pub lanes : ℕ
  pub slice : ℕ

-- a command, and the settings of the sessions that it begins
pub record Asked : Type 0 where
  pub command : Command
  pub limits : Limits

-- the command that is a word with one word after it
abbrev pub command_of_one : Text → Text → Option Command
command_of_one word one =
    if bytes_eq word (codes "check") then Some (check one)
    else (if bytes_eq word (codes "serve") then Some (serve one)
    else (if bytes_eq word (codes "trial") then option_map trial (number_in 0 longest_trial one) else None))

-- the command that is a word with two words after it
abbrev pub command_of_two : Text → Text → Text → Option Command
command_of_two word one two =
    if bytes_eq word (codes "serve") then Some (serve_stored one two)
    else (if bytes_eq word (codes "audit") then Some (audit one two) else None)

-- the command that is a word with these words after it
abbrev pub command_of : Text → List Text → Option Command
command_of word [] = None
command_of word (one ∷ []) = command_of_one word one
command_of word (one ∷ two ∷ []) = command_of_two word one two
command_of word (one ∷ two ∷ three ∷ more) = None

-- the settings, by the values of their options
abbrev pub limits_of : Option Text → Option Text → Option Text → Option Limits
limits_of fuel_text lanes_text slice_text =
    option_and_then (λ f. option_and_then (λ l. option_map (λ s. record { fuel = f; lanes = l; slice = s })
    (setting_of slice slice_text)) (setting_of lanes lanes_text)) (setting_of fuel fuel_text)

-- what is asked, by the settings, the word for the command and the words after it
abbrev pub asked_with : Option Limits → Option Text → Option (List Text) → Option Asked
asked_with limits word words =
    option_and_then (λ bounds. option_and_then (λ w. option_map (λ c. record { command = c; limits = bounds })
    (option_and_then (command_of w) words)) word) limits

-- what the values that `clap` finds ask for
abbrev pub asked_in : List Row → Option Asked
asked_in rows =
    asked_with (limits_of (first_of (codes "fuel") rows) (first_of (codes "lanes") rows) (first_of (codes "slice") rows))
    (first_of (codes "command") rows) (all_of (codes "words") rows)

-- what the words ask for, if they are a command: `clap` takes them, the word is in the table with so many words after it, and each
-- number is in its range
abbrev pub asked_of : List Text → Option Asked
asked_of words = if is_taken words then asked_in (values_in words) else None

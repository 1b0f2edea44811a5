-- What the words of the command line ask for beside the commands of `Asked` (this project's own).
use Rattle.std.specs.Prelude.{ℕ, ◌^◌, ◌-◌, List, [], ◌∷◌, Option, None, Some, codes, if◌then◌else◌, option_map, option_and_then}
use Rattle.std.specs.Str.{bytes_eq}
use Rattle.clap.specs.Walk.{Row, Text, all_of, first_of}
use Rattle.ob_words.specs.CommandLine.{is_taken, values_in}
use Rattle.ob_words.specs.Settings.{number_in}
use Rattle.ob_words.specs.Asked.{Limits, limits_of}

-- a place in the records of a store: the serial of an area, and the number of a record in it
pub record Position : Type 0 where
  pub serial : ℕ
  pub index : ℕ

-- The further commands. `upgrade OLD NEW STORE` takes the store on the disk STORE from the program in the file OLD to that in NEW. `ship P
-- STORE` writes the records of that store, and `ship P STORE SERIAL INDEX` those from this position on. `follow P STORE` keeps the records
-- that it is given in the store. `build P` writes the program in P as a file that others can check. `exec FILE` serves lines for the
-- program in such a file over a store in memory, and `exec FILE STORE` over the store on the disk STORE. `plan P SCRIPT` holds the script
-- in the file SCRIPT against the program in P.
pub data Further : Type 0 where
  upgrade : Text → Text → Text → Further
  ship : Text → Text → Option Position → Further
  follow : Text → Text → Further
  build : Text → Further
  exec : Text → Further
  exec_stored : Text → Text → Further
  plan : Text → Text → Further

-- a further command, and the settings of the sessions that it begins
pub record AskedFurther : Type 0 where
  pub further : Further
  pub limits : Limits

-- the greatest serial of an area
abbrev pub most_serial : ℕ
most_serial = 2 ^ 63 - 1

-- the greatest number of a record
abbrev pub most_index : ℕ
most_index = 2 ^ 32 - 1

-- the position that two words write
abbrev pub position_of : Text → Text → Option Position
position_of serial index =
    option_and_then (λ s. option_map (λ i. record { serial = s; index = i }) (number_in 0 most_index index)) (number_in 1 most_serial serial)

-- the further command that is a word with one word after it
abbrev pub further_of_one : Text → Text → Option Further
further_of_one word one =
    if bytes_eq word (codes "build") then Some (build one)
    else (if bytes_eq word (codes "exec") then Some (exec one) else None)

-- the further command that is a word with two words after it
abbrev pub further_of_two : Text → Text → Text → Option Further
further_of_two word one two =
    if bytes_eq word (codes "ship") then Some (ship one two None)
    else (if bytes_eq word (codes "follow") then Some (follow one two)
    else (if bytes_eq word (codes "exec") then Some (exec_stored one two)
    else (if bytes_eq word (codes "plan") then Some (plan one two) else None)))

-- the further command that is a word with three words after it
abbrev pub further_of_three : Text → Text → Text → Text → Option Further
further_of_three word one two three = if bytes_eq word (codes "upgrade") then Some (upgrade one two three) else None

-- the further command that is a word with four words after it
abbrev pub further_of_four : Text → Text → Text → Text → Text → Option Further
further_of_four word one two three four =
    if bytes_eq word (codes "ship") then option_map (λ from. ship one two (Some from)) (position_of three four) else None

-- the further command that is a word with these words after it
abbrev pub further_of_words : Text → List Text → Option Further
further_of_words word [] = None
further_of_words word (one ∷ []) = further_of_one word one
further_of_words word (one ∷ two ∷ []) = further_of_two word one two
further_of_words word (one ∷ two ∷ three ∷ []) = further_of_three word one two three
further_of_words word (one ∷ two ∷ three ∷ four ∷ []) = further_of_four word one two three four
further_of_words word (one ∷ two ∷ three ∷ four ∷ five ∷ more) = None

-- what is asked of a further command, by the settings, the word for the command and the words after it
abbrev pub further_with : Option Limits → Option Text → Option (List Text) → Option AskedFurther
further_with limits word words =
    option_and_then (λ bounds. option_and_then (λ w. option_map (λ f. record { further = f; limits = bounds })
    (option_and_then (further_of_words w) words)) word) limits

-- what the values that `clap` finds ask of a further command
abbrev pub further_in : List Row → Option AskedFurther
further_in rows =
    further_with (limits_of (first_of (codes "fuel") rows) (first_of (codes "lanes") rows) (first_of (codes "slice") rows))
    (first_of (codes "command") rows) (all_of (codes "words") rows)

-- what the words ask for, if they are a further command: `clap` takes them, the word is in the table with so many words after it, and
-- each number is in its range
abbrev pub further_of : List Text → Option AskedFurther
further_of words = if is_taken words then further_in (values_in words) else None

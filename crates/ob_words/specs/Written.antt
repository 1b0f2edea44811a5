-- Commands as they are written: a row of the table, with options before and after it.
use Rattle.std.specs.Prelude.{◌≡◌, ◌≤◌, ℕ, Bool, true, not, nat_eq, List, [], ◌∷◌, ◌++◌, Option, Some, is_some, codes, length, slice_get, if◌then◌else◌}
use Rattle.std.specs.List.{list_all}
use Rattle.std.specs.Str.{bytes_eq}
use Rattle.clap.specs.Walk.{Text}
use Rattle.ob_base.specs.Limits.{longest_trial}
use Rattle.ob_words.specs.Settings.{Setting, fuel, lanes, slice, name_of, setting_of, number_in}
use Rattle.ob_words.specs.Asked.{Command, check, serve, serve_stored, audit, trial, Asked}

-- The words are a row of the table, and this is its command.
abbrev pub IsRow : List Text → Command → Type 0
IsRow words (check p) = words ≡ codes "check" ∷ p ∷ []
IsRow words (serve p) = words ≡ codes "serve" ∷ p ∷ []
IsRow words (serve_stored p store) = words ≡ codes "serve" ∷ p ∷ store ∷ []
IsRow words (audit p store) = words ≡ codes "audit" ∷ p ∷ store ∷ []
IsRow words (trial n) = (digits : Text) × (words ≡ codes "trial" ∷ digits ∷ []) × (number_in 0 longest_trial digits ≡ Some n)

-- a setting, with the text of its value
abbrev pub Given : Type 0
Given = Setting × Text

-- the words of options: `--NAME VALUE` for each
abbrev pub option_words : List Given → List Text
option_words [] = []
option_words (g ∷ gs) = (45 ∷ 45 ∷ name_of g.0) ∷ g.1 ∷ option_words gs

-- the values that are given of a setting
abbrev pub values_of : Setting → List Given → List Text
values_of setting [] = []
values_of setting (g ∷ gs) =
    if bytes_eq (name_of g.0) (name_of setting) then g.1 ∷ values_of setting gs else values_of setting gs

-- whether a given value is a number in its range
abbrev pub is_in_range : Given → Bool
is_in_range g = is_some (setting_of g.0 (Some g.1))

-- what a setting is, by the options that are given
abbrev pub setting_by : Setting → List Given → Option ℕ
setting_by setting gs = setting_of setting (slice_get (values_of setting gs) 0)

-- the word doesn't begin with a hyphen
abbrev pub is_plain : Text → Bool
is_plain [] = true
is_plain (c ∷ cs) = not (nat_eq c 45)

-- The words are a row of the table whose names don't begin with a hyphen, with options before and after it, each at most once and with
-- a number in its range; and this is what they ask for.
pub record IsWritten (words : List Text) (asked : Asked) : Type 0 where
  pub before : List Given
  pub after : List Given
  pub row : List Text
  pub is : words ≡ option_words before ++ (row ++ option_words after)
  pub command : IsRow row asked.command
  pub plain : list_all is_plain row ≡ true
  pub once : (setting : Setting) → length (values_of setting (before ++ after)) ≤ 1
  pub in_range : list_all is_in_range (before ++ after) ≡ true
  pub fuel_is : setting_by fuel (before ++ after) ≡ Some asked.limits.fuel
  pub lanes_is : setting_by lanes (before ++ after) ≡ Some asked.limits.lanes
  pub slice_is : setting_by slice (before ++ after) ≡ Some asked.limits.slice

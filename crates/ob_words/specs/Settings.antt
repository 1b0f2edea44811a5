-- The numbers among the words, and the settings of a session (this project's own).
use Rattle.std.specs.Prelude.{ℕ, ◌&&◌, Option, None, Some, codes, nat_le, if◌then◌else◌}
use Rattle.std.specs.Str.Parse.{digits_value}
use Rattle.clap.specs.Walk.{Text}
use Rattle.clap.specs.ValueTests.{is_numeral}
use Rattle.ob_base.specs.Limits.{most_fuel, default_fuel, most_lanes, default_lanes, most_slice, default_slice}

-- the number from `least` to `most` that the text writes in decimal digits, without a sign
abbrev pub number_in : ℕ → ℕ → Text → Option ℕ
number_in least most text =
    if is_numeral text && (nat_le least (digits_value 10 text) && nat_le (digits_value 10 text) most)
    then Some (digits_value 10 text) else None

-- What an option sets: the units of fuel that each request has, the lanes in which the requests of a batch run, and the units of a
-- slice of a lane.
pub data Setting : Type 0 where
  fuel : Setting
  lanes : Setting
  slice : Setting

-- the name of its option
abbrev pub name_of : Setting → Text
name_of fuel = codes "fuel"
name_of lanes = codes "lanes"
name_of slice = codes "slice"

-- the most that it may be; the least is 1
abbrev pub most : Setting → ℕ
most fuel = most_fuel
most lanes = most_lanes
most slice = most_slice

-- what it is where it isn't given
abbrev pub default : Setting → ℕ
default fuel = default_fuel
default lanes = default_lanes
default slice = default_slice

-- the number that a given text writes, or the default where none is given
abbrev pub number_or : ℕ → ℕ → Option Text → Option ℕ
number_or most default None = Some default
number_or most default (Some text) = number_in 1 most text

-- what a setting is, if its option is given this text, or none
abbrev pub setting_of : Setting → Option Text → Option ℕ
setting_of setting given = number_or (most setting) (default setting) given

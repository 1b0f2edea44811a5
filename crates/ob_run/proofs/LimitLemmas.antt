-- The settings that words ask for are in their ranges.
use Rattle.std.specs.Prelude.{Option, None, Some, codes, option_map, option_and_then, if◌then◌else◌, nat_le, ◌&&◌}
use Rattle.std.specs.Str.Parse.{digits_value}
use Rattle.std.proofs.Common.{◌≡◌, ℕ, ◌≤◌, Bool, true, false, List, refl, ap, arith}
use Rattle.std.proofs.lemmas.Bool.{leb-true}
use Rattle.clap.specs.ValueTests.{is_numeral}
use Rattle.clap.specs.Walk.{Text, all_of, first_of}
use Rattle.ob_words.specs.Asked.{Command, command_of, Limits, limits_of, Asked, asked_with, asked_in, asked_of}
use Rattle.ob_words.specs.CommandLine.{is_taken, values_in}
use Rattle.ob_words.specs.Settings.{fuel, lanes, slice, number_in, number_or, setting_of}

-- the lanes and the units of a slice lie in their ranges
pub record AreInRange (limits : Limits) : Type 0 where
  pub lanes : 1 ≤ limits.lanes
  pub most_lanes : limits.lanes ≤ 8
  pub slice : 1 ≤ limits.slice

-- a number, and what was asked of it
number_in_range : (least most n : ℕ) (text : Text) → number_in least most text ≡ Some n → (least ≤ n) × (n ≤ most)
number_in_range least most n text is = by (digits_value 10 text) (is_numeral text) (nat_le least (digits_value 10 text)) (nat_le (digits_value 10 text) most) refl refl is
  where
    by : (v : ℕ) (a b c : Bool) → nat_le least v ≡ b → nat_le v most ≡ c → (if a && (b && c) then Some v else None) ≡ Some n → (least ≤ n) × (n ≤ most)
    by v true true true low high is =
        let same : v ≡ n = cc is in
        (omega (arith, leb-true least v low, same), omega (arith, leb-true v most high, same))
    by v true true false low high is = absurd (cc is)
    by v true false c low high is = absurd (cc is)
    by v false b c low high is = absurd (cc is)

setting_in_range : (most default n : ℕ) (given : Option Text) → 1 ≤ default → default ≤ most → number_or most default given ≡ Some n → (1 ≤ n) × (n ≤ most)
setting_in_range most default n None low high is = let same : default ≡ n = cc is in (omega (arith, low, same), omega (arith, high, same))
setting_in_range most default n (Some text) low high is = number_in_range 1 most n text is

-- the settings come from their options
pub record ComesFrom (l s : Option ℕ) (limits : Limits) : Type 0 where
  pub lanes : l ≡ Some limits.lanes
  pub slice : s ≡ Some limits.slice

from_options : (f l s : Option ℕ) (limits : Limits)
    → option_and_then (λ f. option_and_then (λ l. option_map (λ s. record { fuel = f; lanes = l; slice = s }) s) l) f ≡ Some limits → ComesFrom l s limits
from_options None l s limits is = absurd (cc is)
from_options (Some f) None s limits is = absurd (cc is)
from_options (Some f) (Some l) None limits is = absurd (cc is)
from_options (Some f) (Some l) (Some s) limits is =
    let same : record { fuel = f; lanes = l; slice = s } ≡ limits = cc is in
    record { lanes = ap (λ (x : Limits). Some x.lanes) same; slice = ap (λ (x : Limits). Some x.slice) same }

options_in_range : (f l s : Option Text) (limits : Limits) → limits_of f l s ≡ Some limits → AreInRange limits
options_in_range f l s limits is =
    let from = from_options (setting_of fuel f) (setting_of lanes l) (setting_of slice s) limits is in
    let lanes_are = setting_in_range 8 1 limits.lanes l (omega arith) (omega arith) from.lanes in
    let slice_is = setting_in_range 1000000 1000 limits.slice s (omega arith) (omega arith) from.slice in
    record { lanes = lanes_are.0; most_lanes = lanes_are.1; slice = slice_is.0 }

-- what is asked has them
has_limits : (limits : Option Limits) (word : Option Text) (words : Option (List Text)) (asked : Asked) → asked_with limits word words ≡ Some asked → limits ≡ Some asked.limits
has_limits None word words asked is = absurd (cc is)
has_limits (Some bounds) None words asked is = absurd (cc is)
has_limits (Some bounds) (Some w) words asked is = by (option_and_then (command_of w) words) is
  where
    by : (o : Option Command) → option_map (λ c. record { command = c; limits = bounds }) o ≡ Some asked → Some bounds ≡ Some asked.limits
    by None is = absurd (cc is)
    by (Some c) is = let same : record { command = c; limits = bounds } ≡ asked = cc is in ap (λ (x : Asked). Some x.limits) same

pub in_range : (words : List Text) (asked : Asked) → asked_of words ≡ Some asked → AreInRange asked.limits
in_range words asked is = by (is_taken words) is
  where
    by : (taken : Bool) → (if taken then asked_in (values_in words) else None) ≡ Some asked → AreInRange asked.limits
    by false is = absurd (cc is)
    by true is =
        let rows = values_in words in
        let f = first_of (codes "fuel") rows in
        let l = first_of (codes "lanes") rows in
        let s = first_of (codes "slice") rows in
        options_in_range f l s asked.limits (has_limits (limits_of f l s) (first_of (codes "command") rows) (all_of (codes "words") rows) asked is)

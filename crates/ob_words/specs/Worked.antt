-- What is asked by words alone.
use Rattle.std.specs.Prelude.{Option, Some}
use Rattle.ob_words.specs.Settings.{fuel, lanes, slice, default}
use Rattle.ob_words.specs.Asked.{Command, Limits, Asked}
use Rattle.ob_words.specs.Further.{Further, AskedFurther}

-- the settings where none is given
abbrev pub default_limits : Limits
default_limits = record { fuel = default fuel; lanes = default lanes; slice = default slice }

-- a command with these
abbrev pub plainly : Command → Option Asked
plainly command = Some (record { command = command; limits = default_limits })

-- a command with these settings
abbrev pub within : Limits → Command → Option Asked
within limits command = Some (record { command = command; limits = limits })

-- a further command with the settings where none is given
abbrev pub plainly_further : Further → Option AskedFurther
plainly_further further = Some (record { further = further; limits = default_limits })

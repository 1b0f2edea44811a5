-- What the code's values represent.
use Rattle.ob_words.specs.Asked.{Command, check, serve, serve_stored, audit, trial, Limits, Asked}
use Rattle.ob_words.specs.declared.asked.Command.{Command as CodeCommand}
use Rattle.ob_words.specs.declared.asked.Command.TheVariants.{Check, Serve, ServeStored, Audit, Trial}
use Rattle.ob_words.specs.declared.asked.Limits.{Limits as CodeLimits}
use Rattle.ob_words.specs.declared.asked.Asked.{Asked as CodeAsked}

-- the command, with the names of its files
abbrev pub command_view : CodeCommand → Command
command_view (Check p) = check p.now
command_view (Serve p) = serve p.now
command_view (ServeStored p store) = serve_stored p.now store.now
command_view (Audit p store) = audit p.now store.now
command_view (Trial n) = trial n

-- the settings
abbrev pub limits_view : CodeLimits → Limits
limits_view l = record { fuel = l.fuel; lanes = l.lanes; slice = l.slice }

-- what is asked
abbrev pub asked_view : CodeAsked → Asked
asked_view a = record { command = command_view a.command; limits = limits_view a.limits }

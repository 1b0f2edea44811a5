-- What was asked of files, as it is kept.
use Rattle.std.specs.Prelude.{List, map, string_bytes}
use Rattle.ob_io.specs.Views.{Ask}
use Rattle.ob_io.specs.declared.asks.Call.{Call}
use Rattle.ob_io.specs.declared.asks.Asks.TheInside.{Inside}

-- what a call asks
abbrev pub ask_of : Call → Ask
ask_of call = record { name = string_bytes call.name; limit = call.limit }

-- what all calls ask
abbrev pub asks_of : Inside → List Ask
asks_of kept = map ask_of kept.calls.items

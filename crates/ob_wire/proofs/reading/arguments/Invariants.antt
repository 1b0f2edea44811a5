use Rattle.std.proofs.Common.{◌≡◌, ◌++◌, drop}
use Rattle.serde_json.specs.View.{items_view}
use Rattle.ob_wire.specs.Requests.{arguments_of}
use Rattle.ob_wire.proofs.reading.arguments.Given as goal

-- the arguments so far and those of the rest are all
abbrev pub invariant-loop-value : goal.invariant-loop-value
invariant-loop-value l = l.args ++ arguments_of (items_view (drop l.value-index l.values)) ≡ arguments_of (items_view l.values)

use Rattle.std.proofs.Common.{◌≡◌, drop}
use Rattle.ob_client.specs.RequestLines.{arguments_json}
use Rattle.ob_client.proofs.RequestValues.{items_before}
use Rattle.ob_client.proofs.requests.argument_values.Given as goal

-- the values so far and those of the rest are all
abbrev pub invariant-loop-arg : goal.invariant-loop-arg
invariant-loop-arg l = items_before l.values.items (arguments_json (drop l.arg-index l.args)) ≡ arguments_json l.args

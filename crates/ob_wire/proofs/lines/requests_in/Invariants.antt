use Rattle.std.proofs.Common.{◌≡◌, drop}
use Rattle.serde_json.specs.View.{items_view}
use Rattle.ob_wire.specs.Reading.{requests_in}
use Rattle.ob_wire.proofs.IncomingLaws.{with_rest}
use Rattle.ob_wire.proofs.lines.requests_in.Given as goal

-- the requests so far and those of the rest are all
abbrev pub invariant-loop-value : goal.invariant-loop-value
invariant-loop-value l = with_rest l.requests (requests_in (items_view (drop l.value-index l.values))) ≡ requests_in (items_view l.values)

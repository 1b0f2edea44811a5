use Rattle.std.proofs.Common.{subst, sym, ◌≡◌, ◌+◌, drop}
use Rattle.serde_json.specs.View.{items_view}
use Rattle.ob_wire.specs.Reading.{requests_in}
use Rattle.ob_wire.proofs.IncomingLaws.{with_rest, asks_on}
use Rattle.ob_wire.proofs.lines.requests_in.Goals as goal

pub loop-value-preserved : goal.loop-value-preserved
loop-value-preserved c =
    let values = c.args.values.now in
    let more = requests_in (items_view (drop (c.loop-value.value-index + 1) values)) in
    subst (λ requests. with_rest requests more ≡ requests_in (items_view values)) (sym c.in_ok-push.ensures.ok)
    (asks_on c.loop-value.requests values c.loop-value.value-index c.value-item.result c.in_ok-request_in.field-0 _ c.loop-value-test.true c.value-item.is c.in_ok-request_in.ensures c.loop-value.invariant)

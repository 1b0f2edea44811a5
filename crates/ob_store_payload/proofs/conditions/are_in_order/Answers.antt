use Rattle.std.proofs.Common.{◌≡◌, ◌<◌, ◌≤◌, false, length, rules}
use Rattle.ob_store_payload.proofs.ConditionLemmas.{is_before, order_true, order_false}
use Rattle.ob_store_payload.proofs.conditions.are_in_order.Goals as goal

pub returns-then-not-is_before : goal.returns-then-not-is_before
returns-then-not-is_before c =
    let inside : c.loop-place.place < length c.args.handles.now = search rules in
    let later : is_before c.index-handles-place.result c.index-handles-place-in-loop-place.result ≡ false = search rules in
    order_false c.args.handles.now c.loop-place.place c.index-handles-place.result c.index-handles-place-in-loop-place.result c.loop-place.invariant.some inside
    c.index-handles-place.is c.index-handles-place-in-loop-place.is later

pub returns : goal.returns
returns c =
    let end : length c.args.handles.now ≤ c.loop-place.place = search rules in
    order_true c.args.handles.now c.loop-place.place end c.loop-place.invariant.rise

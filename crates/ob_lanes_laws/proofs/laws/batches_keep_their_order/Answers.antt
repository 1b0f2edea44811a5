-- By each turn, and by the order of each client.
use Rattle.ob_lanes_laws.proofs.Orders.{one_lane, one_client}
use Rattle.ob_lanes_laws.proofs.laws.batches_keep_their_order.Goals as goal

pub returns : goal.returns
returns g c = record { lane = one_lane; client = one_client }

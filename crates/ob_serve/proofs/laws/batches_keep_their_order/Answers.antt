use Rattle.ob_serve.proofs.OwnOrder.{keeps_order_of_batches}
use Rattle.ob_serve.proofs.laws.batches_keep_their_order.Goals as goal

pub returns : goal.returns
returns c = keeps_order_of_batches

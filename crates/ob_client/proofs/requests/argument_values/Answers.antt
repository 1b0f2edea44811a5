use Rattle.std.proofs.Common.{arith}
use Rattle.ob_client.proofs.RequestValues.{none_left}
use Rattle.ob_client.proofs.requests.argument_values.Goals as goal

pub returns : goal.returns
returns c = none_left c.loop-arg.values.items c.args.args.now c.loop-arg.arg-index _ (omega (arith, c.loop-arg-test.false)) c.loop-arg.invariant

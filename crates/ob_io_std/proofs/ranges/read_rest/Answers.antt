use Rattle.std.proofs.Common.{arith}
use borrow.Rule.Slice.PartMut.{take_put}
use Rattle.ob_io_std.proofs.ranges.read_rest.Goals as goal

pub returns-clause-front : goal.returns-clause-front
returns-clause-front g c = take_put _ _ c.args.into.now _ (omega (arith, c.requires))

use Rattle.std.proofs.Common.{arith}
use Rattle.ob_format_spec.proofs.Failing.{are_bytes}
use Rattle.ob_format_spec.proofs.RangeLaws.{range_lawful}
use Rattle.ob_format.proofs.range.number_in.Goals as goal

pub returns-clause-within : goal.returns-clause-within
returns-clause-within c =
    let small = c.ranges.high.fits in
    ((range_lawful c.args.low c.args.high c.requires (omega (arith, small))).sound c.args.bytes.now (are_bytes c.args.bytes.now (λ i. (c.type_inv.bytes i).fits)) c.in_ok-number.number c.in_ok-number.rest.now c.in_ok-number.ensures).0

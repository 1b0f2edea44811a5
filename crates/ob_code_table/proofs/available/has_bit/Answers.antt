use Rattle.std.proofs.Common.{◌==◌, sym, ap}
use Rattle.std.proofs.lemmas.Nat.Bits.{bit_at_above}
use Rattle.ob_perm.specs.Masks.{states_of}
use Rattle.ob_code_table.proofs.available.has_bit.Goals as goal

pub returns-then-number-ge64 : goal.returns-then-number-ge64
unfolding states_of
returns-then-number-ge64 c = sym (ap (λ x. x == 1) (bit_at_above c.args.set 64 c.args.number c.ranges.set.fits c.if-number-ge64.true))

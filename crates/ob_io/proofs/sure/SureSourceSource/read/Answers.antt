use Rattle.std.proofs.Common.{length, arith, length-take}
use Rattle.ob_io.proofs.SureLemmas.{front_taken, nothing_left}
use Rattle.ob_io.proofs.sure.SureSourceSource.read.Goals as goal

pub returns-clause-bytes : goal.returns-clause-bytes
returns-clause-bytes c =
    let bytes = c.args.self.now.bytes.items in
    let got = rw c.rest.ensures at c.copy_front-count.ensures in
    (record { told = front_taken bytes _ _ _ got.front; counted = omega (arith, got.count, got.len, length-take c.copy_front-count.result c.copy_front-count.new.into) }, λ none some. nothing_left bytes _ _ (length c.args.into.now) got.count none (omega (arith, some, got.len)))

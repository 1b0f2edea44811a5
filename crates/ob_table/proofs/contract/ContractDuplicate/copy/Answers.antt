use Rattle.std.specs.Prelude.{refl}
use Rattle.ob_table.proofs.contract.ContractDuplicate.copy.Goals as goal

pub returns : goal.returns
returns c =
    let front = rw c.in_ok-name.ensures.0 at c.both.ensures in
    let back = rw c.in_ok-name.ensures.1 at c.both-2.ensures in
    let name = rw front.0 at c.copy.ensures in
    let states = rw front.1 at c.copy_items.ensures in
    let fields = rw back.0 at c.copy_items-2.ensures in
    let transactions = rw back.1 at c.copy_items-3.ensures in
    rw (name, states, fields, transactions) refl

use Rattle.std.specs.Prelude.{refl}
use Rattle.ob_tree.proofs.contract.ContractNodeDuplicate.copy.Goals as goal

pub returns : goal.returns
returns c =
    let front = rw c.in_ok-name.ensures.0 at c.both.ensures in
    let back = rw c.in_ok-name.ensures.1 at c.both-2.ensures in
    let name = rw front.0 at c.copy.ensures in
    let param = rw front.1 at c.copy_option.ensures in
    let implements = rw back.0 at c.copy_option-2.ensures in
    let members = rw back.1 at c.copy_items.ensures in
    rw (name, param, implements, members) refl

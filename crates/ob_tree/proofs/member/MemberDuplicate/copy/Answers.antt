use Rattle.std.proofs.Common.{sym}
use Rattle.ob_tree.proofs.member.MemberDuplicate.copy.Goals as goal

pub returns-in_ok-of-in-Constructor : goal.returns-in_ok-of-in-Constructor
returns-in_ok-of-in-Constructor c =
    let front = rw c.in_ok-of-in-Constructor.ensures.0 at c.both-in-Constructor.ensures in
    let back = rw c.in_ok-of-in-Constructor.ensures.1 at c.both-in-Constructor-2.ensures in
    let of = rw front.0 at c.copy-in-Constructor.ensures in
    let perm = rw front.1 at c.copy-in-Constructor-2.ensures in
    let params = rw back.0 at c.copy_items-in-Constructor.ensures in
    let body = rw back.1 at c.copy-in-Constructor-3.ensures in
    rw (of, perm, params, body) (sym c.in-Constructor.is)

pub returns-in_ok-listed-in-Transaction : goal.returns-in_ok-listed-in-Transaction
returns-in_ok-listed-in-Transaction c =
    let front = rw c.in_ok-listed-in-Transaction.ensures.0 at c.both-in-Transaction-2.ensures in
    let middle = rw front.1 at c.both-in-Transaction.ensures in
    let back = rw c.in_ok-listed-in-Transaction.ensures.1 at c.both-in-Transaction-3.ensures in
    let listed = rw front.0 at c.copy_items-in-Transaction.ensures in
    let name = rw middle.0 at c.copy-in-Transaction.ensures in
    let params = rw middle.1 at c.copy_items-in-Transaction-2.ensures in
    let result = rw back.0 at c.copy_option.ensures in
    let body = rw back.1 at c.copy_option-in-Transaction.ensures in
    rw (listed, name, params, result, body) (sym c.in-Transaction.is)

pub returns-in_ok-name-in-State : goal.returns-in_ok-name-in-State
returns-in_ok-name-in-State c =
    let name = rw c.in_ok-name-in-State.ensures.0 at c.copy.ensures in
    let fields = rw c.in_ok-name-in-State.ensures.1 at c.copy_items.ensures in
    rw (name, fields) (sym c.in-State.is)

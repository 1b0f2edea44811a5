use Rattle.std.proofs.Common.{◌≡◌, ◌<◌, ◌∙◌, ◌++◌, true, false, ap, sym, subst, length}
use Rattle.ob_heap.specs.Blocks.{starts_after}
use Rattle.ob_heap.specs.Contents.{name_of}
use Rattle.ob_heap.proofs.BlocksLemmas.{lower_order, upper_order, put_lower, put_upper, put_filled}
use Rattle.ob_heap.proofs.block.Block.put_halving.Goals as goal

pub put-requires-clause-order : goal.put-requires-clause-order
put-requires-clause-order c =
    lower_order c.halve.new.lower.items c.halve.new.upper.items c.args.self.now (c.halve.ensures.items ∙ c.self.view_is) c.requires.order

pub put-requires-else-starts_after-clause-order : goal.put-requires-else-starts_after-clause-order
put-requires-else-starts_after-clause-order c =
    upper_order c.halve.new.lower.items c.halve.new.upper.items c.args.self.now (c.halve.ensures.items ∙ c.self.view_is) c.requires.order

pub returns-then-starts_after-clause-items : goal.returns-then-starts_after-clause-items
returns-then-starts_after-clause-items c =
    let lower = c.halve.new.lower.items in
    let upper = c.halve.new.upper.items in
    let s : starts_after (name_of c.args.name) upper ≡ true =
    sym (ap (starts_after (name_of c.args.name)) c.as_slice.ensures) ∙ sym c.starts_after.ensures ∙ c.if-starts_after.true in
    ap (λ hs. hs ++ upper) c.put.ensures
    ∙ put_lower c.args.name c.args.handle lower upper c.args.self.now (c.halve.ensures.items ∙ c.self.view_is) c.requires.order s

pub returns-then-starts_after-clause-filled : goal.returns-then-starts_after-clause-filled
returns-then-starts_after-clause-filled c = (
  subst (λ hs. 0 < length hs) (sym c.put.ensures) (put_filled c.args.name c.args.handle c.halve.new.lower.items),
  c.halve.ensures.upper.0,
)

pub returns-else-starts_after-clause-items : goal.returns-else-starts_after-clause-items
returns-else-starts_after-clause-items c =
    let lower = c.halve.new.lower.items in
    let upper = c.halve.new.upper.items in
    let s : starts_after (name_of c.args.name) upper ≡ false =
    sym (ap (starts_after (name_of c.args.name)) c.as_slice.ensures) ∙ sym c.starts_after.ensures ∙ c.if-starts_after.false in
    ap (λ hs. lower ++ hs) c.put-else-starts_after.ensures
    ∙ put_upper c.args.name c.args.handle lower upper c.args.self.now (c.halve.ensures.items ∙ c.self.view_is) c.requires.order
    c.halve.ensures.upper.0 s

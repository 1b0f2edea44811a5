use Rattle.std.proofs.Common.{◌≡◌, ◌∙◌, ap, sym, true, false, arith}
use Rattle.std.specs.Prelude.{is_some}
use Rattle.ob_heap.specs.Blocks.{joined}
use Rattle.ob_heap.specs.Contents.{name_of, handle_at}
use Rattle.ob_heap.proofs.BlocksLemmas.{more_by, same_by}
use Rattle.ob_heap.proofs.handles.count_with.Goals as goal

pub returns-then-is_some : goal.returns-then-is_some
returns-then-is_some c =
    let hs = joined c.args.blocks.now in
    let n = c.args.name.now in
    let there : is_some (handle_at (name_of n) hs) ≡ true = ap is_some (sym c.find.ensures) ∙ sym c.is_some.ensures ∙ c.if-is_some.true in
    c.requires.count ∙ sym (same_by n c.args.handle hs c.requires.order there)

pub returns : goal.returns
returns c =
    let hs = joined c.args.blocks.now in
    let n = c.args.name.now in
    let none : is_some (handle_at (name_of n) hs) ≡ false = ap is_some (sym c.find.ensures) ∙ sym c.is_some.ensures ∙ c.if-is_some.false in
    let more = more_by n c.args.handle hs none in
    let count = c.requires.count in
    omega arith

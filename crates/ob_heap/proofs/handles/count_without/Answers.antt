use Rattle.std.proofs.Common.{◌≡◌, ◌∙◌, ap, sym, true, false, arith}
use Rattle.std.specs.Prelude.{is_some}
use Rattle.ob_heap.specs.Blocks.{joined}
use Rattle.ob_heap.specs.Contents.{name_of, handle_at}
use Rattle.ob_heap.proofs.BlocksLemmas.{less_by, kept_by}
use Rattle.ob_heap.proofs.handles.count_without.Goals as goal

pub overflow_sub-result : goal.overflow_sub-result
overflow_sub-result c =
    let hs = joined c.args.blocks.now in
    let n = c.args.name.now in
    let there : is_some (handle_at (name_of n) hs) ≡ true = ap is_some (sym c.find.ensures) ∙ sym c.is_some.ensures ∙ c.if-is_some.true in
    let less = less_by n hs c.requires.order there in
    let count = c.requires.count in
    omega arith

pub returns-then-is_some : goal.returns-then-is_some
returns-then-is_some c =
    let hs = joined c.args.blocks.now in
    let n = c.args.name.now in
    let there : is_some (handle_at (name_of n) hs) ≡ true = ap is_some (sym c.find.ensures) ∙ sym c.is_some.ensures ∙ c.if-is_some.true in
    let less = less_by n hs c.requires.order there in
    let count = c.requires.count in
    omega arith

pub returns : goal.returns
returns c =
    let hs = joined c.args.blocks.now in
    let n = c.args.name.now in
    let none : is_some (handle_at (name_of n) hs) ≡ false = ap is_some (sym c.find.ensures) ∙ sym c.is_some.ensures ∙ c.if-is_some.false in
    c.requires.count ∙ sym (kept_by n hs none)

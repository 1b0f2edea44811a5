use Rattle.std.proofs.Common.{◌≡◌, ◌+◌, ◌++◌, ◌∙◌, length, replicate, sym, ap, arith}
use Rattle.std.specs.Vec.{vec_len}
use Rattle.ob_links.specs.Chains.{no_ends}
use Rattle.ob_links.proofs.Seen.{resized}
use Rattle.ob_links.proofs.links.empty_ends.Goals as goal

pub returns : goal.returns
returns c =
    let none : length c.new-ends.result.items ≡ 0 = ap length c.new-ends.ensures.items in
    let len : vec_len c.new-ends.result ≡ 0 = c.new-ends.ensures.len in
    c.in_ok-resize.ensures.items
    ∙ resized c.new-ends.result.items c.args.count (vec_len c.new-ends.result) c.args.count no_ends (omega (arith, none)) (len ∙ sym none)
    ∙ ap (λ xs. xs ++ replicate c.args.count no_ends) c.new-ends.ensures.items

use Rattle.std.proofs.Common.{◌+◌, [], List, sym, subst, arith}
use Rattle.ob_links.specs.declared.node.Node.{Node}
use Rattle.ob_links.specs.declared.node.Ends.{Ends}
use Rattle.ob_links.specs.Chains.{IsSound}
use Rattle.ob_links.proofs.Seen.{start_sound, start_lists}
use Rattle.ob_links.proofs.links.Links.new.Goals as goal

pub invariant_of-result : goal.invariant_of-result
invariant_of-result c =
    let k = c.args.lists + 1 in
    subst (λ (ns : List Node). IsSound ns c.in_ok-empty_ends.field-0.items 0) (sym c.new.ensures.items)
    (subst (λ (es : List Ends). IsSound [] es 0) (sym c.in_ok-empty_ends.ensures) (start_sound k (omega arith) (omega arith)))

pub returns : goal.returns
returns c = start_lists _ c.in_ok-empty_ends.field-0.items c.args.lists c.in_ok-empty_ends.ensures

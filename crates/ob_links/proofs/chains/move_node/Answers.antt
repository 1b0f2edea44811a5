use Rattle.std.proofs.Common.{◌∙◌, ◌++◌, List, length, take, drop, sym, subst}
use Rattle.std.proofs.lemmas.List.{take_at}
use Rattle.ob_links.specs.declared.node.Node.{Node}
use Rattle.ob_links.specs.declared.node.Ends.{Ends}
use Rattle.ob_links.specs.Chains.{AreChains, chains_of}
use Rattle.ob_links.proofs.chains.move_node.Goals as goal

pub returns-clause-chains : goal.returns-clause-chains
returns-clause-chains c =
    let ns = take_at c.move_within.new.nodes (drop (length c.move_within.new.nodes) c.args.nodes.now.items) c.args.nodes.now.len (c.move_within.auto.nodes ∙ c.as_mut_slice.ensures.len) in
    let es = take_at c.move_within.new.ends (drop (length c.move_within.new.ends) c.args.ends.now.items) c.args.ends.now.len (c.move_within.auto.ends ∙ c.as_mut_slice-2.ensures.len) in
    let last = c.move_within.new.nodes in
    let behind = c.move_within.new.ends in
    let borders = take c.args.ends.now.len (behind ++ drop (length behind) c.args.ends.now.items) in
    subst (λ (ws : List Node). AreChains ws borders (chains_of ws borders)) (sym ns)
    (subst (λ (bs : List Ends). AreChains last bs (chains_of last bs)) (sym es) c.move_within.ensures.chains)

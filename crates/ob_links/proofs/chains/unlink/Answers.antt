use Rattle.std.proofs.Common.{◌≡◌, ◌<◌, ◌∙◌, get_or, set, map, sym, ap, subst}
use Rattle.std.specs.Prelude.{IfSome}
use Rattle.ob_links.specs.declared.node.Ends.{Ends}
use Rattle.ob_links.specs.Lists.{without_node}
use Rattle.ob_links.specs.Chains.{AreChains, chains_of, no_ends, with_next, with_previous, with_first, with_last}
use Rattle.ob_links.proofs.Walking.{told, read, within, beside, unlinked, no_node}
use Rattle.ob_links.proofs.chains.unlink.Goals as goal

pub bounds-nodes-node : goal.bounds-nodes-node
bounds-nodes-node c = within c.args.nodes.now c.args.ends.now (chains_of c.args.nodes.now c.args.ends.now) c.args.node c.requires.chains c.requires.node

pub bounds-nodes-node-2 : goal.bounds-nodes-node-2
bounds-nodes-node-2 c = within c.args.nodes.now c.args.ends.now (chains_of c.args.nodes.now c.args.ends.now) c.args.node c.requires.chains c.requires.node

pub bounds-nodes-node-3 : goal.bounds-nodes-node-3
bounds-nodes-node-3 c = within c.args.nodes.now c.args.ends.now (chains_of c.args.nodes.now c.args.ends.now) c.args.node c.requires.chains c.requires.node

pub slice_copy_out-around : goal.slice_copy_out-around
slice_copy_out-around c = (beside c.args.nodes.now c.args.ends.now (chains_of c.args.nodes.now c.args.ends.now) c.args.node c.requires.chains c.requires.node).list_within

pub set_after-requires : goal.set_after-requires
set_after-requires c = (beside c.args.nodes.now c.args.ends.now (chains_of c.args.nodes.now c.args.ends.now) c.args.node c.requires.chains c.requires.node).previous_within

pub set_before-requires : goal.set_before-requires
set_before-requires c =
    let v = get_or c.args.nodes.now c.args.node.0 no_node in
    let b = beside c.args.nodes.now c.args.ends.now (chains_of c.args.nodes.now c.args.ends.now) c.args.node c.requires.chains c.requires.node in
    subst (λ m. IfSome v.next (λ n. n.0 < m)) (sym c.set_after.auto.nodes) b.next_within

pub bounds-ends-list : goal.bounds-ends-list
bounds-ends-list c = (beside c.args.nodes.now c.args.ends.now (chains_of c.args.nodes.now c.args.ends.now) c.args.node c.requires.chains c.requires.node).list_within

pub returns : goal.returns
returns c =
    let nodes = c.args.nodes.now in
    let ends = c.args.ends.now in
    let chains = chains_of nodes ends in
    let v = get_or nodes c.args.node.0 no_node in
    let t = told nodes ends chains c.args.node c.requires.chains c.requires.node in
    let done = unlinked nodes ends chains c.args.node no_ends v c.requires.chains t (read nodes chains c.args.node t) in
    let e : c.set_before.new.ends ≡ with_last v.next v.previous (with_first v.previous v.next (get_or ends v.list no_ends)) =
    c.set_before.ensures.ends ∙ ap (with_last v.next v.previous) c.set_after.ensures.ends in
    let ns : c.set_before.new.nodes ≡ with_previous v.next v.previous (with_next v.previous v.next nodes) =
    c.set_before.ensures.nodes ∙ ap (with_previous v.next v.previous) c.set_after.ensures.nodes in
    subst (λ ws. AreChains ws (set ends v.list c.set_before.new.ends) (map (without_node c.args.node) chains)) (sym ns)
    (subst (λ (a : Ends). AreChains (with_previous v.next v.previous (with_next v.previous v.next nodes)) (set ends v.list a) (map (without_node c.args.node) chains)) (sym e) done)

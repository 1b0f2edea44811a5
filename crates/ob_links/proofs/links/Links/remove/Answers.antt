use Rattle.std.proofs.Common.{◌≡◌, ◌+◌, ◌-◌, ◌<◌, ◌∙◌, None, suc, length, refl, sym, ap, subst, arith, rules}
use Rattle.std.specs.Vec.{vec_len}
use Rattle.std.proofs.lemmas.Option.{slice_get_read}
use Rattle.ob_links.specs.Lists.{Linked}
use Rattle.ob_links.specs.Chains.{chains_of, linked_of}
use Rattle.ob_links.proofs.Counting.{longer}
use Rattle.ob_links.proofs.Seen.{parts_of, in_all, removed_is, sound_after, lists_apart, node_within, item_seen}
use Rattle.ob_links.proofs.links.Links.remove.Goals as goal

pub index-requires : goal.index-requires
index-requires c =
    let nodes = c.self.inside.nodes.items in
    let len : vec_len c.self.inside.nodes ≡ length nodes = search rules in
    subst (λ k. c.args.node.0 < k) (sym len) (node_within nodes c.self.inside.ends.items c.self.inside.spare c.args.self.now c.args.node c.self.invariant c.self.view_is c.requires)

pub move_node-requires-clause-node : goal.move_node-requires-clause-node
move_node-requires-clause-node c =
    in_all c.self.inside.nodes.items c.self.inside.ends.items c.self.inside.spare c.args.self.now c.args.node c.self.invariant c.self.view_is c.requires

pub invariant_of-self : goal.invariant_of-self
invariant_of-self c =
    let v = c.args.self.now in
    let nodes = c.self.inside.nodes.items in
    let ends = c.self.inside.ends.items in
    let spare = c.self.inside.spare in
    let after = chains_of c.move_node.new.nodes.items c.move_node.new.ends.items in
    let s = c.self.invariant in
    let p = parts_of nodes ends spare v s c.self.view_is in
    let is = removed_is nodes ends spare v c.args.node after s p c.requires c.move_node.ensures.lists in
    let now : (linked_of after).spare ≡ suc (length p.free) = ap (λ cs. (linked_of cs).spare) is ∙ longer None (c.args.node, 0) p.free in
    let was : spare ≡ v.spare = s.free ∙ ap (λ (w : Linked). w.spare) c.self.view_is in
    sound_after nodes c.move_node.new.nodes.items ends c.move_node.new.ends.items spare (spare + 1) s c.move_node.ensures.chains c.move_node.ensures.all
    (omega (arith, now, was, p.spare)) c.move_node.ensures.nodes c.move_node.ensures.ends

pub returns-clause-item : goal.returns-clause-item
returns-clause-item c =
    let nodes = c.self.inside.nodes.items in
    let there = node_within nodes c.self.inside.ends.items c.self.inside.spare c.args.self.now c.args.node c.self.invariant c.self.view_is c.requires in
    item_seen nodes c.self.inside.ends.items c.self.inside.spare c.args.self.now c.args.node c.index.result.now c.self.invariant c.self.view_is c.requires
    (slice_get_read nodes (length nodes) c.args.node.0 c.index.result.now refl there c.index.ensures)

pub returns-clause-spare : goal.returns-clause-spare
returns-clause-spare c =
    let v = c.args.self.now in
    let nodes = c.self.inside.nodes.items in
    let ends = c.self.inside.ends.items in
    let spare = c.self.inside.spare in
    let after = chains_of c.move_node.new.nodes.items c.move_node.new.ends.items in
    let p = parts_of nodes ends spare v c.self.invariant c.self.view_is in
    let is = removed_is nodes ends spare v c.args.node after c.self.invariant p c.requires c.move_node.ensures.lists in
    ap (λ cs. (linked_of cs).spare) is ∙ longer None (c.args.node, 0) p.free ∙ ap suc p.spare

pub returns-clause-apart : goal.returns-clause-apart
returns-clause-apart c =
    let nodes = c.self.inside.nodes.items in
    let ends = c.self.inside.ends.items in
    let after = chains_of c.move_node.new.nodes.items c.move_node.new.ends.items in
    let sound = sound_after nodes c.move_node.new.nodes.items ends c.move_node.new.ends.items c.self.inside.spare (linked_of after).spare c.self.invariant
    c.move_node.ensures.chains c.move_node.ensures.all refl c.move_node.ensures.nodes c.move_node.ensures.ends in
    lists_apart c.move_node.new.nodes.items c.move_node.new.ends.items (linked_of after).spare (linked_of after) sound refl

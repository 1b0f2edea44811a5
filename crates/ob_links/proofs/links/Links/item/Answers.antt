use Rattle.std.proofs.Common.{◌≡◌, ◌<◌, length, refl, rules, subst, sym}
use Rattle.std.specs.Vec.{vec_len}
use Rattle.std.proofs.lemmas.Option.{slice_get_read}
use Rattle.ob_links.proofs.Seen.{node_within, item_seen, lists_apart}
use Rattle.ob_links.proofs.links.Links.item.Goals as goal

pub index-requires : goal.index-requires
index-requires c =
    let nodes = c.self.inside.nodes.items in
    let len : vec_len c.self.inside.nodes ≡ length nodes = search rules in
    subst (λ k. c.args.node.0 < k) (sym len) (node_within nodes c.self.inside.ends.items c.self.inside.spare c.args.self.now c.args.node c.self.invariant c.self.view_is c.requires)

pub returns-clause-item : goal.returns-clause-item
returns-clause-item c =
    let nodes = c.self.inside.nodes.items in
    let there = node_within nodes c.self.inside.ends.items c.self.inside.spare c.args.self.now c.args.node c.self.invariant c.self.view_is c.requires in
    item_seen nodes c.self.inside.ends.items c.self.inside.spare c.args.self.now c.args.node c.index.result.now c.self.invariant c.self.view_is c.requires
    (slice_get_read nodes (length nodes) c.args.node.0 c.index.result.now refl there c.index.ensures)

pub returns-clause-apart : goal.returns-clause-apart
returns-clause-apart c = lists_apart c.self.inside.nodes.items c.self.inside.ends.items c.self.inside.spare c.args.self.now c.self.invariant c.self.view_is

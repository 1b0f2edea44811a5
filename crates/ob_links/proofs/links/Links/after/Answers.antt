use Rattle.std.proofs.Common.{◌≡◌, ◌<◌, length, refl, rules, subst, sym}
use Rattle.std.specs.Vec.{vec_len}
use Rattle.std.proofs.lemmas.Option.{slice_get_read}
use Rattle.ob_links.proofs.Seen.{node_within, after_seen}
use Rattle.ob_links.proofs.links.Links.after.Goals as goal

pub index-requires : goal.index-requires
index-requires g c =
    let nodes = c.self.inside.nodes.items in
    let len : vec_len c.self.inside.nodes ≡ length nodes = search rules in
    subst (λ k. c.args.node.0 < k) (sym len) (node_within nodes c.self.inside.ends.items c.self.inside.spare c.args.self.now c.args.node c.self.invariant c.self.view_is c.requires)

pub returns-clause-node : goal.returns-clause-node
returns-clause-node g c =
    let nodes = c.self.inside.nodes.items in
    let there = node_within nodes c.self.inside.ends.items c.self.inside.spare c.args.self.now c.args.node c.self.invariant c.self.view_is c.requires in
    after_seen nodes c.self.inside.ends.items c.self.inside.spare c.args.self.now c.args.node c.index.result.now c.self.invariant c.self.view_is c.requires
    (slice_get_read nodes (length nodes) c.args.node.0 c.index.result.now refl there c.index.ensures)

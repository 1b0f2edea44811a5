use Rattle.std.proofs.Common.{◌≡◌, ◌<◌, ◌∙◌, [], Option, true, get_or, length, sym, ap, subst}
use Rattle.std.specs.Prelude.{IfSome}
use Rattle.std.proofs.lemmas.Option.{same_Some}
use Rattle.ob_links.specs.declared.node.NodeId.{NodeId}
use Rattle.ob_links.specs.Lists.{has_node, node_after}
use Rattle.ob_lanes.specs.Readers.{node_with}
use Rattle.ob_lanes.proofs.ListLemmas.{node_turn, node_here}
use Rattle.ob_owners.proofs.WalkLemmas.{FromNode, from_node, from_first, first_inside, from_told, apart_at, has_at, list_there, item_there, shorter}
use Rattle.ob_lanes.proofs.lists.node_of.Goals as goal

pub item-requires : goal.item-requires
item-requires g c =
    let xs = get_or c.args.links.now.lists c.args.list [] in
    has_at c.args.links.now.lists c.args.list c.in-Some.node c.requires.list (subst (λ (o : Option NodeId). IfSome o (λ n. has_node n xs ≡ true)) c.in-Some.is c.loop-at.invariant.inside)

pub after-at-requires : goal.after-at-requires
after-at-requires g c =
    let xs = get_or c.args.links.now.lists c.args.list [] in
    has_at c.args.links.now.lists c.args.list c.in-Some.node c.requires.list (subst (λ (o : Option NodeId). IfSome o (λ n. has_node n xs ≡ true)) c.in-Some.is c.loop-at.invariant.inside)

pub loop-at-init : goal.loop-at-init
loop-at-init g c =
    let xs = get_or c.args.links.now.lists c.args.list [] in
    record {
      inside = subst (λ (o : Option NodeId). IfSome o (λ n. has_node n xs ≡ true)) (sym c.first-at.ensures.node) (first_inside xs);
      left = ap (λ (o : Option NodeId). node_with c.args.lane (from_node o xs)) c.first-at.ensures.node
          ∙ ap (node_with c.args.lane) (from_first xs);
    }

pub loop-at-preserved : goal.loop-at-preserved
loop-at-preserved g c =
    let lists = c.args.links.now.lists in
    let l = c.args.list in
    let n = c.in-Some.node in
    let xs = get_or lists l [] in
    let has : has_node n xs ≡ true = subst (λ (o : Option NodeId). IfSome o (λ m. has_node m xs ≡ true)) c.in-Some.is c.loop-at.invariant.inside in
    let f : FromNode n xs = from_told n xs (apart_at lists l c.item.ensures.apart) has in
    let after : c.after-at.result ≡ node_after n xs = c.after-at.ensures.node ∙ ap (node_after n) (list_there lists l n c.item.ensures.apart c.requires.list has) in
    let key : c.item.result ≡ f.pair.1 = same_Some c.item.result f.pair.1 (sym c.item.ensures.item ∙ item_there lists l n c.item.ensures.apart c.requires.list has ∙ f.item) in
    record {
      inside = subst (λ (o : Option NodeId). IfSome o (λ m. has_node m xs ≡ true)) (sym after) f.inside;
      left = ap (λ (o : Option NodeId). node_with c.args.lane (from_node o xs)) after
          ∙ node_turn c.args.lane xs n f c.item.result key c.if-lane-item.false
          ∙ ap (λ (o : Option NodeId). node_with c.args.lane (from_node o xs)) (sym c.in-Some.is)
          ∙ c.loop-at.invariant.left;
    }

pub loop-at-smaller : goal.loop-at-smaller
loop-at-smaller g c =
    let lists = c.args.links.now.lists in
    let l = c.args.list in
    let n = c.in-Some.node in
    let xs = get_or lists l [] in
    let has : has_node n xs ≡ true = subst (λ (o : Option NodeId). IfSome o (λ m. has_node m xs ≡ true)) c.in-Some.is c.loop-at.invariant.inside in
    let f : FromNode n xs = from_told n xs (apart_at lists l c.item.ensures.apart) has in
    let after : c.after-at.result ≡ node_after n xs = c.after-at.ensures.node ∙ ap (node_after n) (list_there lists l n c.item.ensures.apart c.requires.list has) in
    let here : length (from_node (node_after n xs) xs) < length (from_node c.loop-at.at xs) =
    subst (λ (o : Option NodeId). length (from_node (node_after n xs) xs) < length (from_node o xs)) (sym c.in-Some.is) (shorter xs n f) in
    let there : length (from_node c.after-at.result xs) < length (from_node c.loop-at.at xs) =
    subst (λ (o : Option NodeId). length (from_node o xs) < length (from_node c.loop-at.at xs)) (sym after) here in
    there

pub returns-clause-node : goal.returns-clause-node
returns-clause-node g c =
    let xs = get_or c.args.links.now.lists c.args.list [] in
    ap (λ (o : Option NodeId). node_with c.args.lane (from_node o xs)) (sym c.in_default.is) ∙ c.loop-at.invariant.left

pub returns-then-lane-item-clause-node : goal.returns-then-lane-item-clause-node
returns-then-lane-item-clause-node g c =
    let lists = c.args.links.now.lists in
    let l = c.args.list in
    let n = c.in-Some.node in
    let xs = get_or lists l [] in
    let has : has_node n xs ≡ true = subst (λ (o : Option NodeId). IfSome o (λ m. has_node m xs ≡ true)) c.in-Some.is c.loop-at.invariant.inside in
    let f : FromNode n xs = from_told n xs (apart_at lists l c.item.ensures.apart) has in
    let key : c.item.result ≡ f.pair.1 = same_Some c.item.result f.pair.1 (sym c.item.ensures.item ∙ item_there lists l n c.item.ensures.apart c.requires.list has ∙ f.item) in
    sym (node_here c.args.lane xs n f c.item.result key c.if-lane-item.true)
    ∙ ap (λ (o : Option NodeId). node_with c.args.lane (from_node o xs)) (sym c.in-Some.is)
    ∙ c.loop-at.invariant.left

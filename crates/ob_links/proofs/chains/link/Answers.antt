use Rattle.std.proofs.Common.{◌≡◌, ◌<◌, ◌∙◌, length, get_or, set, Some, sym, ap, subst}
use Rattle.std.specs.Prelude.{IfSome}
use Rattle.std.proofs.lemmas.List.{length-set}
use Rattle.ob_links.specs.declared.node.Ends.{Ends}
use Rattle.ob_links.specs.Chains.{AreChains, chains_of, no_ends, with_next, with_previous, with_first, with_last, previous_of, with_pair_in}
use Rattle.ob_links.proofs.Linking.{node_of}
use Rattle.ob_links.proofs.Placing.{place_told, linked_in}
use Rattle.ob_links.proofs.chains.link.Goals as goal

pub place_before-previous-requires : goal.place_before-previous-requires
place_before-previous-requires c =
    let nodes = c.args.nodes.now in
    (place_told nodes c.args.ends.now (chains_of nodes c.args.ends.now) c.args.list c.args.before c.requires.chains c.requires.list c.requires.before).place_within

pub set_after-requires : goal.set_after-requires
set_after-requires c =
    let nodes = c.args.nodes.now in
    let v = node_of c.args.list c.place_before-previous.result (c.args.node, c.args.item) c.args.before in
    let p = place_told nodes c.args.ends.now (chains_of nodes c.args.ends.now) c.args.list c.args.before c.requires.chains c.requires.list c.requires.before in
    let old : IfSome c.place_before-previous.result (λ n. n.0 < length nodes) =
    subst (λ o. IfSome o (λ n. n.0 < length nodes)) (sym c.place_before-previous.ensures) p.previous_within in
    subst (λ k. IfSome c.place_before-previous.result (λ n. n.0 < k)) (sym (length-set nodes c.args.node.0 v)) old

pub set_before-requires : goal.set_before-requires
set_before-requires c =
    let nodes = c.args.nodes.now in
    let v = node_of c.args.list c.place_before-previous.result (c.args.node, c.args.item) c.args.before in
    let p = place_told nodes c.args.ends.now (chains_of nodes c.args.ends.now) c.args.list c.args.before c.requires.chains c.requires.list c.requires.before in
    subst (λ k. IfSome c.args.before (λ n. n.0 < k)) (sym (c.set_after.auto.nodes ∙ length-set nodes c.args.node.0 v)) p.place_within

pub returns : goal.returns
returns c =
    let nodes = c.args.nodes.now in
    let ends = c.args.ends.now in
    let chains = chains_of nodes ends in
    let l = c.args.list in
    let place = c.args.before in
    let n = c.args.node in
    let r = c.place_before-previous.result in
    let around = get_or ends l no_ends in
    let p = place_told nodes ends chains l place c.requires.chains c.requires.list c.requires.before in
    let was : previous_of nodes around place ≡ r = sym c.place_before-previous.ensures in
    let done = linked_in nodes ends chains l place (n, c.args.item) c.requires.chains c.requires.list p c.requires.node c.requires.alone in
    let e : c.set_before.new.ends ≡ with_last place (Some n) (with_first r (Some n) around) = c.set_before.ensures.ends ∙ ap (with_last place (Some n)) c.set_after.ensures.ends in
    let ns : c.set_before.new.nodes ≡ with_previous place (Some n) (with_next r (Some n) (set nodes n.0 (node_of l r (n, c.args.item) place))) =
    c.set_before.ensures.nodes ∙ ap (with_previous place (Some n)) c.set_after.ensures.nodes in
    let now = subst (λ o. AreChains (with_previous place (Some n) (with_next o (Some n) (set nodes n.0 (node_of l o (n, c.args.item) place)))) (set ends l (with_last place (Some n) (with_first o (Some n) around))) (with_pair_in l place (n, c.args.item) chains)) was done in
    subst (λ ws. AreChains ws (set ends l c.set_before.new.ends) (with_pair_in l place (n, c.args.item) chains)) (sym ns)
    (subst (λ (a : Ends). AreChains (with_previous place (Some n) (with_next r (Some n) (set nodes n.0 (node_of l r (n, c.args.item) place)))) (set ends l a) (with_pair_in l place (n, c.args.item) chains)) (sym e) now)

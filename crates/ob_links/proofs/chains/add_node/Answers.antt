use Rattle.std.proofs.Common.{◌≡◌, ◌<◌, ◌+◌, ◌∙◌, ◌++◌, List, length, take, drop, None, sym, ap, subst, arith, rules}
use Rattle.std.proofs.lemmas.List.{take_at, length_push}
use Rattle.ob_links.specs.declared.node.NodeId.{NodeId}
use Rattle.ob_links.specs.declared.node.Node.{Node}
use Rattle.ob_links.specs.declared.node.Ends.{Ends}
use Rattle.ob_links.specs.Lists.{joined, has_node}
use Rattle.ob_links.specs.Chains.{AreChains, chains_of, linked_of, with_pair_in}
use Rattle.ob_links.proofs.Walking.{no_node, same_count}
use Rattle.ob_links.proofs.Counting.{with_new, past, added, added_count, more_free}
use Rattle.ob_links.proofs.chains.add_node.Goals as goal

pub link-requires-clause-chains : goal.link-requires-clause-chains
link-requires-clause-chains c =
    let m = with_new c.args.nodes.now.items c.as_mut_slice.result.now c.args.ends.now.items no_node c.requires.chains c.requires.all (c.as_mut_slice.ensures.value ∙ c.in_ok-push.ensures.items) in
    subst (λ (es : List Ends). AreChains c.as_mut_slice.result.now es (chains_of c.as_mut_slice.result.now es)) (sym c.as_mut_slice-2.ensures.value) m.stands

pub link-requires-clause-alone : goal.link-requires-clause-alone
link-requires-clause-alone c =
    let nodes = c.args.nodes.now.items in
    let ends = c.args.ends.now.items in
    let n : NodeId = record { 0 = c.len.result } in
    let count : c.len.result ≡ length nodes = search rules in
    let m = with_new nodes c.as_mut_slice.result.now ends no_node c.requires.chains c.requires.all (c.as_mut_slice.ensures.value ∙ c.in_ok-push.ensures.items) in
    ap (λ (es : List Ends). has_node n (joined (chains_of c.as_mut_slice.result.now es))) c.as_mut_slice-2.ensures.value ∙ ap (λ cs. has_node n (joined cs)) m.is ∙ past nodes ends (chains_of nodes ends) n c.requires.chains (omega (arith, count))

pub returns-clause-chains : goal.returns-clause-chains
returns-clause-chains c =
    let last = c.link.new.nodes in
    let behind = c.link.new.ends in
    let v : NodeId = record { 0 = c.len.result } in
    let put : AreChains last behind (with_pair_in 0 None (v, 0) (chains_of c.as_mut_slice.result.now c.args.ends.now.items)) =
    subst (λ (es : List Ends). AreChains last behind (with_pair_in 0 None (v, 0) (chains_of c.as_mut_slice.result.now es))) c.as_mut_slice-2.ensures.value c.link.ensures in
    let es = take_at behind (drop (length behind) c.args.ends.now.items) c.args.ends.now.len (c.link.auto.ends ∙ c.as_mut_slice-2.ensures.len) in
    let borders = take c.args.ends.now.len (behind ++ drop (length behind) c.args.ends.now.items) in
    let m = added c.args.nodes.now.items c.as_mut_slice.result.now last c.args.ends.now.items behind no_node (v, 0) c.requires.chains c.requires.all c.requires.free
    (c.as_mut_slice.ensures.value ∙ c.in_ok-push.ensures.items) c.link.auto.nodes put in
    let kept = take_at last (drop (length last) c.push.new.self.items) c.push.new.self.len (c.link.auto.nodes ∙ c.as_mut_slice.ensures.len) in
    subst (λ (ns : List Node). AreChains ns borders (chains_of ns borders)) (sym kept)
    (subst (λ (bs : List Ends). AreChains last bs (chains_of last bs)) (sym es) m.stands)

pub returns-clause-all : goal.returns-clause-all
returns-clause-all c =
    let nodes = c.args.nodes.now.items in
    let ends = c.args.ends.now.items in
    let last = c.link.new.nodes in
    let behind = c.link.new.ends in
    let v : NodeId = record { 0 = c.len.result } in
    let put : AreChains last behind (with_pair_in 0 None (v, 0) (chains_of c.as_mut_slice.result.now c.args.ends.now.items)) =
    subst (λ (es : List Ends). AreChains last behind (with_pair_in 0 None (v, 0) (chains_of c.as_mut_slice.result.now es))) c.as_mut_slice-2.ensures.value c.link.ensures in
    let es = take_at behind (drop (length behind) c.args.ends.now.items) c.args.ends.now.len (c.link.auto.ends ∙ c.as_mut_slice-2.ensures.len) in
    let borders = take c.args.ends.now.len (behind ++ drop (length behind) c.args.ends.now.items) in
    let after = c.as_mut_slice.ensures.value ∙ c.in_ok-push.ensures.items in
    let m = added nodes c.as_mut_slice.result.now last ends behind no_node (v, 0) c.requires.chains c.requires.all c.requires.free after c.link.auto.nodes put in
    let kept = take_at last (drop (length last) c.push.new.self.items) c.push.new.self.len (c.link.auto.nodes ∙ c.as_mut_slice.ensures.len) in
    let len : length last ≡ length nodes + 1 = c.link.auto.nodes ∙ ap length after ∙ length_push nodes no_node in
    let count = added_count nodes ends (v, 0) c.requires.chains c.requires.free in
    let total : length (joined (chains_of last behind)) ≡ length last = ap (λ cs. length (joined cs)) m.is ∙ omega (arith, len, count, c.requires.all) in
    subst (λ (ns : List Node). length (joined (chains_of ns borders)) ≡ length ns) (sym kept)
    (subst (λ (bs : List Ends). length (joined (chains_of last bs)) ≡ length last) (sym es) total)

pub returns-clause-lists : goal.returns-clause-lists
returns-clause-lists c =
    let nodes = c.args.nodes.now.items in
    let ends = c.args.ends.now.items in
    let last = c.link.new.nodes in
    let behind = c.link.new.ends in
    let v : NodeId = record { 0 = c.len.result } in
    let put : AreChains last behind (with_pair_in 0 None (v, 0) (chains_of c.as_mut_slice.result.now c.args.ends.now.items)) =
    subst (λ (es : List Ends). AreChains last behind (with_pair_in 0 None (v, 0) (chains_of c.as_mut_slice.result.now es))) c.as_mut_slice-2.ensures.value c.link.ensures in
    let es = take_at behind (drop (length behind) c.args.ends.now.items) c.args.ends.now.len (c.link.auto.ends ∙ c.as_mut_slice-2.ensures.len) in
    let borders = take c.args.ends.now.len (behind ++ drop (length behind) c.args.ends.now.items) in
    let m = added nodes c.as_mut_slice.result.now last ends behind no_node (v, 0) c.requires.chains c.requires.all c.requires.free
    (c.as_mut_slice.ensures.value ∙ c.in_ok-push.ensures.items) c.link.auto.nodes put in
    let kept = take_at last (drop (length last) c.push.new.self.items) c.push.new.self.len (c.link.auto.nodes ∙ c.as_mut_slice.ensures.len) in
    let some : 0 < length (chains_of nodes ends) = omega (arith, c.requires.free, same_count nodes ends (chains_of nodes ends) c.requires.chains) in
    ap (λ (ns : List Node). (linked_of (chains_of ns borders)).lists) kept ∙ ap (λ (bs : List Ends). (linked_of (chains_of last bs)).lists) es ∙ ap (λ cs. (linked_of cs).lists) m.is ∙ (more_free (chains_of nodes ends) (v, 0) some).0

pub returns-clause-spare : goal.returns-clause-spare
returns-clause-spare c =
    let nodes = c.args.nodes.now.items in
    let ends = c.args.ends.now.items in
    let last = c.link.new.nodes in
    let behind = c.link.new.ends in
    let v : NodeId = record { 0 = c.len.result } in
    let put : AreChains last behind (with_pair_in 0 None (v, 0) (chains_of c.as_mut_slice.result.now c.args.ends.now.items)) =
    subst (λ (es : List Ends). AreChains last behind (with_pair_in 0 None (v, 0) (chains_of c.as_mut_slice.result.now es))) c.as_mut_slice-2.ensures.value c.link.ensures in
    let es = take_at behind (drop (length behind) c.args.ends.now.items) c.args.ends.now.len (c.link.auto.ends ∙ c.as_mut_slice-2.ensures.len) in
    let borders = take c.args.ends.now.len (behind ++ drop (length behind) c.args.ends.now.items) in
    let m = added nodes c.as_mut_slice.result.now last ends behind no_node (v, 0) c.requires.chains c.requires.all c.requires.free
    (c.as_mut_slice.ensures.value ∙ c.in_ok-push.ensures.items) c.link.auto.nodes put in
    let kept = take_at last (drop (length last) c.push.new.self.items) c.push.new.self.len (c.link.auto.nodes ∙ c.as_mut_slice.ensures.len) in
    let some : 0 < length (chains_of nodes ends) = omega (arith, c.requires.free, same_count nodes ends (chains_of nodes ends) c.requires.chains) in
    ap (λ (ns : List Node). (linked_of (chains_of ns borders)).spare) kept ∙ ap (λ (bs : List Ends). (linked_of (chains_of last bs)).spare) es ∙ ap (λ cs. (linked_of cs).spare) m.is ∙ (more_free (chains_of nodes ends) (v, 0) some).1

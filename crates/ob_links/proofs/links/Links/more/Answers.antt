use Rattle.std.proofs.Common.{◌≡◌, ◌+◌, ◌-◌, ◌<◌, ◌≤◌, ◌^◌, ◌∙◌, ◌++◌, List, [], length, replicate, sym, ap, subst, rules, arith}
use Rattle.std.specs.Vec.{vec_len}
use Rattle.ob_links.specs.declared.node.Ends.{Ends}
use Rattle.ob_links.specs.Lists.{Linked}
use Rattle.ob_links.specs.Chains.{IsSound, linked_of, chains_of, no_ends}
use Rattle.ob_links.proofs.Walking.{same_count}
use Rattle.ob_links.proofs.Seen.{parts_of, more_sound, more_chains, more_lists, resized}
use Rattle.ob_links.proofs.links.Links.more.Goals as goal

pub invariant_of-self-2 : goal.invariant_of-self-2
invariant_of-self-2 c =
    let nodes = c.self.inside.nodes.items in
    let ends = c.self.inside.ends.items in
    let k = c.args.lists in
    let s = c.self.invariant in
    let len : vec_len c.self.inside.ends ≡ length ends = search rules in
    let was : c.len.result ≡ length ends = c.len.ensures ∙ len in
    let more : c.resize.new.self.items ≡ ends ++ replicate k no_ends =
    c.in_ok-resize.ensures.items ∙ resized ends (c.len.result + k) (vec_len c.self.inside.ends) k no_ends (ap (λ m. m + k) was) len in
    let p = parts_of nodes ends c.self.inside.spare c.args.self.now s c.self.view_is in
    let count : length ends ≡ length (chains_of nodes ends) = same_count nodes ends (chains_of nodes ends) s.chains in
    let few : length ends + k ≤ 2 ^ 32 = omega (arith, count, ap length p.is, c.requires) in
    subst (λ (es : List Ends). IsSound nodes es c.self.inside.spare) (sym more) (more_sound nodes ends c.self.inside.spare k s few)

pub returns-clause-ok : goal.returns-clause-ok
returns-clause-ok c =
    let nodes = c.self.inside.nodes.items in
    let ends = c.self.inside.ends.items in
    let k = c.args.lists in
    let s = c.self.invariant in
    let len : vec_len c.self.inside.ends ≡ length ends = search rules in
    let was : c.len.result ≡ length ends = c.len.ensures ∙ len in
    let more : c.resize.new.self.items ≡ ends ++ replicate k no_ends =
    c.in_ok-resize.ensures.items ∙ resized ends (c.len.result + k) (vec_len c.self.inside.ends) k no_ends (ap (λ m. m + k) was) len in
    let some : 0 < length (chains_of nodes ends) = omega (arith, s.some, same_count nodes ends (chains_of nodes ends) s.chains) in
    ap (λ (es : List Ends). (linked_of (chains_of nodes es)).lists) more ∙ ap (λ cs. (linked_of cs).lists) (more_chains nodes ends k)
    ∙ ap (λ (w : Linked). w.lists) (more_lists (chains_of nodes ends) k some) ∙ ap (λ (w : Linked). w.lists ++ replicate k []) c.self.view_is

use Rattle.std.proofs.Common.{◌≡◌, ◌+◌, ◌-◌, ◌∙◌, [], Some, suc, length, get_or, refl, sym, ap, subst, arith}
use Rattle.std.specs.Prelude.{IfSome, IsTrue}
use Rattle.ob_links.specs.Lists.{Linked, has_node}
use Rattle.ob_links.specs.Chains.{chains_of, linked_of, first_free}
use Rattle.ob_links.proofs.Seen.{inserting, inserted_is, later_place, sound_after, lists_apart}
use Rattle.ob_links.proofs.links.Links.insert.Goals as goal

pub move_node-requires-clause-before : goal.move_node-requires-clause-before
move_node-requires-clause-before c =
    let v = c.args.self.now in
    let first : first_free c.self.inside.ends.items ≡ Some c.first_free-node.result = ap first_free (sym c.as_slice.ensures.value) ∙ c.first_free-node.ensures in
    let i = inserting c.self.inside.nodes.items c.self.inside.ends.items c.self.inside.spare v c.first_free-node.result c.self.invariant c.self.view_is first in
    subst (λ xs. IfSome c.args.before (λ n. IsTrue (has_node n xs)))
    (sym (ap (λ cs. get_or cs (c.args.list + 1) []) i.left ∙ later_place c.args.list i.rest v.lists)) c.requires.before

pub invariant_of-self : goal.invariant_of-self
invariant_of-self c =
    let v = c.args.self.now in
    let nodes = c.self.inside.nodes.items in
    let ends = c.self.inside.ends.items in
    let chains = chains_of nodes ends in
    let after = chains_of c.move_node.new.nodes.items c.move_node.new.ends.items in
    let spare = c.self.inside.spare in
    let s = c.self.invariant in
    let first : first_free ends ≡ Some c.first_free-node.result = ap first_free (sym c.as_slice.ensures.value) ∙ c.first_free-node.ensures in
    let i = inserting nodes ends spare v c.first_free-node.result s c.self.view_is first in
    let is = inserted_is after chains v c.first_free-node.result c.args.list c.args.before c.args.item i c.move_node.ensures.lists in
    let now : (linked_of after).spare ≡ length i.rest = ap (λ cs. (linked_of cs).spare) is in
    let was : spare ≡ v.spare = s.free ∙ ap (λ (w : Linked). w.spare) c.self.view_is in
    sound_after nodes c.move_node.new.nodes.items ends c.move_node.new.ends.items spare (spare - 1) s c.move_node.ensures.chains c.move_node.ensures.all
    (omega (arith, now, was, i.spare)) c.move_node.ensures.nodes c.move_node.ensures.ends

pub returns-clause-lists : goal.returns-clause-lists
returns-clause-lists c =
    let v = c.args.self.now in
    let nodes = c.self.inside.nodes.items in
    let ends = c.self.inside.ends.items in
    let after = chains_of c.move_node.new.nodes.items c.move_node.new.ends.items in
    let first : first_free ends ≡ Some c.first_free-node.result = ap first_free (sym c.as_slice.ensures.value) ∙ c.first_free-node.ensures in
    let i = inserting nodes ends c.self.inside.spare v c.first_free-node.result c.self.invariant c.self.view_is first in
    let is = inserted_is after (chains_of nodes ends) v c.first_free-node.result c.args.list c.args.before c.args.item i c.move_node.ensures.lists in
    ap (λ cs. (linked_of cs).lists) is

pub returns-clause-node : goal.returns-clause-node
returns-clause-node c =
    let first : first_free c.self.inside.ends.items ≡ Some c.first_free-node.result = ap first_free (sym c.as_slice.ensures.value) ∙ c.first_free-node.ensures in
    (inserting c.self.inside.nodes.items c.self.inside.ends.items c.self.inside.spare c.args.self.now c.first_free-node.result c.self.invariant c.self.view_is first).alone

pub returns-clause-spare : goal.returns-clause-spare
returns-clause-spare c =
    let v = c.args.self.now in
    let nodes = c.self.inside.nodes.items in
    let ends = c.self.inside.ends.items in
    let after = chains_of c.move_node.new.nodes.items c.move_node.new.ends.items in
    let first : first_free ends ≡ Some c.first_free-node.result = ap first_free (sym c.as_slice.ensures.value) ∙ c.first_free-node.ensures in
    let i = inserting nodes ends c.self.inside.spare v c.first_free-node.result c.self.invariant c.self.view_is first in
    let is = inserted_is after (chains_of nodes ends) v c.first_free-node.result c.args.list c.args.before c.args.item i c.move_node.ensures.lists in
    ap (λ cs. suc (linked_of cs).spare) is ∙ i.spare

pub returns-clause-apart : goal.returns-clause-apart
returns-clause-apart c =
    let v = c.args.self.now in
    let nodes = c.self.inside.nodes.items in
    let ends = c.self.inside.ends.items in
    let chains = chains_of nodes ends in
    let after = chains_of c.move_node.new.nodes.items c.move_node.new.ends.items in
    let spare = c.self.inside.spare in
    let s = c.self.invariant in
    let sound = sound_after nodes c.move_node.new.nodes.items ends c.move_node.new.ends.items spare (linked_of after).spare s c.move_node.ensures.chains c.move_node.ensures.all
    refl c.move_node.ensures.nodes c.move_node.ensures.ends in
    lists_apart c.move_node.new.nodes.items c.move_node.new.ends.items (linked_of after).spare (linked_of after) sound refl

use Rattle.std.proofs.Common.{◌≡◌, List, map, length, sym, ap, ◌∙◌, arith}
use Rattle.std.specs.List.{list_all}
use Rattle.std.proofs.lemmas.Option.{same_Some}
use Rattle.ob_tree.specs.MembersView.{contract_of}
use Rattle.ob_table_spec.specs.Names.{Name}
use Rattle.ob_resolve_spec.specs.Declarations.{state_names}
use Rattle.ob_resolve_scope.specs.Numbered.{is_found, numbered}
use Rattle.ob_resolve_members.proofs.AgreeLemmas.{anywhere-interface, anywhere-stateless, anywhere-within}
use Rattle.ob_resolve_members.proofs.permissions.is_anywhere.Goals as goal
use Rattle.ob_resolve_members.proofs.permissions.is_anywhere.Goals.{then-node-via-then-node, then-node-via-else-node+then-len-eq0}

pub returns-then-node : goal.returns-then-node
returns-then-node c =
    let own = contract_of c.args.around.now.own in
    let names : List Name = map (λ s. s.name) c.args.states.now in
    let numbers : c.in-Some.own.now ≡ numbered (state_names own) = same_Some _ _ c.in-Some.ensures in
    elim c.then-node.branch [
      | then-node-via-then-node w ↦ sym (anywhere-interface own names
          (ap (λ n. n.interface) (sym c.node.ensures) ∙ w.if-node.true))
      | then-node-via-else-node+then-len-eq0 w ↦ sym
          (anywhere-stateless own names (ap length (sym numbers) ∙ sym w.len.ensures ∙ w.if-len-eq0.true))
    ]

pub returns : goal.returns
returns c =
    let own = contract_of c.args.around.now.own in
    let names : List Name = map (λ s. s.name) c.args.states.now in
    let numbers : c.in-Some.own.now ≡ numbered (state_names own) = same_Some _ _ c.in-Some.ensures in
    c.is_within.ensures
    ∙ ap (λ es. list_all (is_found es) c.in-Some.own.now) c.in_ok-listed.ensures
    ∙ ap (λ es. list_all (is_found (numbered names)) es) numbers
    ∙ sym (anywhere-within own names (ap (λ n. n.interface) (sym c.node.ensures) ∙ c.if-node.false)
    (λ none. let z : c.len.result ≡ 0 = c.len.ensures ∙ ap length numbers
    ∙ none in let n = c.if-len-eq0.false in absurd (omega (arith, z, n))))

use Rattle.std.proofs.Common.{[], ◌∷◌, ◌++◌, ap, sym, ◌∙◌, map, append-nil}
use Rattle.ob_tree.specs.MembersView.{contract_of}
use Rattle.ob_generic.proofs.Turns.{none_contract, some_contract, contracts_more}
use Rattle.ob_generic.proofs.contracts.put_instance.Goals as goal

pub returns-in-None : goal.returns-in-None
returns-in-None c =
    let out = map contract_of c.args.out.now in
    sym (ap (λ cs. out ++ cs) (none_contract c.args.nodes.now c.args.instance.now c.in-None.ensures) ∙ append-nil out)

pub returns-in_ok-push-in-Some : goal.returns-in_ok-push-in-Some
returns-in_ok-push-in-Some c =
    let out = map contract_of c.args.out.now in
    ap (map contract_of) c.in_ok-push-in-Some.ensures.ok
    ∙ contracts_more c.args.out.now c.in_ok-instance_in-in-Some.field-0
    ∙ ap (λ one. out ++ one ∷ []) c.in_ok-instance_in-in-Some.ensures
    ∙ ap (λ cs. out ++ cs) (sym (some_contract c.args.nodes.now c.args.instance.now c.in-Some.node.now c.in-Some.ensures))

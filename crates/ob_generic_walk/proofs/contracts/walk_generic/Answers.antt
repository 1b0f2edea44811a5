use Rattle.std.proofs.Common.{◌≡◌, ◌∙◌}
use Rattle.std.proofs.lemmas.Result.{on_ok_weaker}
use Rattle.ob_tree.specs.MembersView.{contract_of}
use Rattle.ob_generic_spec.specs.Instances.{own_of}
use Rattle.ob_generic_walk.proofs.ContractTurns.{own_none, own_some, instance_met}
use Rattle.ob_generic_walk.proofs.contracts.walk_generic.Goals as goal
use Rattle.ob_generic_walk.proofs.contracts.walk_generic.Goals.{in-None, in-Some}

pub returns : goal.returns
returns c =
    let node = contract_of c.args.node.now in
    let x = c.args.instance.now in
    let own = c.match-node.own in
    let is : own ≡ own_of node x = elim c.match-node.branch [
      | in-None w ↦ own_none node x own w.own-is w.in-None.is
      | in-Some w ↦ own_some node x own w.new.result w.in-Some.param w.own-is w.new.ensures w.in-Some.is
    ] in
    on_ok_weaker c.walk_contract.result (λ e. e
    ∙ instance_met c.args.heads.now c.args.found.now c.new-2.result node x own c.new-2.ensures is) c.walk_contract.ensures

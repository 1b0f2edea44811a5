use Rattle.std.proofs.Common.{◌∙◌}
use Rattle.std.proofs.lemmas.Result.{on_ok_weaker}
use Rattle.ob_tree.specs.MembersView.{contract_of}
use Rattle.ob_generic_walk.proofs.ContractTurns.{plain_met}
use Rattle.ob_generic_walk.proofs.contracts.walk_plain.Goals as goal

pub returns : goal.returns
returns c =
    on_ok_weaker c.walk_contract.result (λ e. e
    ∙ plain_met c.args.heads.now c.args.found.now c.new.result (contract_of c.args.node.now) c.new.ensures c.if-is_some.ensures)
    c.walk_contract.ensures

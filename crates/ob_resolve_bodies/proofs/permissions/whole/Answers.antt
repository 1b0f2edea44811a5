use Rattle.ob_resolve_bodies.proofs.StatesLemmas.{interface_mask, contract_mask}
use Rattle.ob_resolve_bodies.proofs.permissions.whole.Goals as goal

pub returns-then-node : goal.returns-then-node
returns-then-node c = interface_mask c.args.node.now c.in_ok-count.count _ c.in_ok-count.ensures c.if-node.true
    c.interface_states.ensures

pub returns-else-node : goal.returns-else-node
returns-else-node c = contract_mask c.args.node.now c.in_ok-count.count _ c.in_ok-count.ensures c.if-node.false
    c.all_states.ensures

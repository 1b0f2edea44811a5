use Rattle.ob_flow.proofs.joining.join.Goals as goal

pub returns : goal.returns
returns c = (c.in_ok-joins.ensures, c.in_ok-after.ensures)

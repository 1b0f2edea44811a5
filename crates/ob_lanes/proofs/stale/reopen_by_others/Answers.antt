use Rattle.ob_lanes.proofs.StaleLemmas.{none_freed_by_others}
use Rattle.ob_lanes.proofs.stale.reopen_by_others.Goals as goal

pub returns-else-may_change_others-clause-is : goal.returns-else-may_change_others-clause-is
returns-else-may_change_others-clause-is c =
    none_freed_by_others c.args.before.now c.args.delta.now c.args.lanes.now (c.may_change_others.ensures c.if-may_change_others.false)

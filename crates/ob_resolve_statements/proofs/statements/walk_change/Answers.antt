use Rattle.std.proofs.Common.{◌∙◌}
use Rattle.ob_resolve_scope.specs.Around.{around_of}
use Rattle.ob_resolve_statements.proofs.RowLemmas.{change_turn}
use Rattle.ob_resolve_statements.proofs.statements.walk_change.Goals as goal

pub loop-one-preserved : goal.loop-one-preserved
loop-one-preserved c =
    let l = c.loop-one in
    let walked = c.in_ok-walk_given.ensures in
    rw (walked.sites, walked.row)
    (change_turn (around_of c.args.around.now) c.args.scope.now l.row l.least c.args.given.now l.one-index
    c.one-item.result c.loop-one-test.true c.one-item.is ∙ l.invariant)

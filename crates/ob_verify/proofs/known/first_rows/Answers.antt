use Rattle.ob_verify_spec.specs.Passing.{first_rows}
use Rattle.ob_verify.proofs.PassLoops.{rows_more}
use Rattle.ob_verify.proofs.known.first_rows.Goals as goal

pub loop-i-preserved : goal.loop-i-preserved
loop-i-preserved c = rows_more (first_rows c.args.frame.now) c.loop-i.rows.items c.push-in-loop-i.new.self.items
    c.len-i-end.result c.loop-i._i c.loop-i-test.true c.loop-i.invariant c.in_ok-push-2.ensures.items

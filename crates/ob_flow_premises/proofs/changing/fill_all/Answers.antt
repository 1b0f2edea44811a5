use Rattle.std.proofs.Common.{◌∙◌}
use Rattle.std.proofs.lemmas.Result.{err_from_is_err_and}
use Rattle.ob_flow_context.specs.View.{context_of, tested_of, all_known}
use Rattle.ob_flow_premises.proofs.GivenLemmas.{asks_turn_at, leaves_turn_at, gets_turn_at, fills_fail_at}
use Rattle.ob_flow_premises.proofs.changing.fill_all.Goals as goal

pub returns-in_err-fill_one-clause-fills : goal.returns-in_err-fill_one-clause-fills
returns-in_err-fill_one-clause-fills c =
    let failed = err_from_is_err_and c.from_residual.result c.from_residual.ensures.1 in
    rw (failed.1, failed.2) (fills_fail_at c.args.frame.now (tested_of c.args.tested.now) c.args.at c.args.given.now
    (context_of c.args.context.now) (context_of c.loop-one.context) c.loop-one.one-index c.in_err-fill_one.field-0.0
    c.loop-one-test.true c.loop-one.invariant.asks c.in_err-fill_one.ensures.fills)

pub loop-one-preserved : goal.loop-one-preserved
loop-one-preserved c =
    let l = c.loop-one in
    let done = c.in_ok-fill_one.ensures in
    record {
      asks = l.invariant.asks ∙ asks_turn_at c.args.frame.now (tested_of c.args.tested.now) c.args.at c.args.given.now
          (context_of l.context) (context_of c.fill_one.new.context) l.one-index c.loop-one-test.true done.fills.0 done.fills.1;
      leaves = l.invariant.leaves ∙ leaves_turn_at c.args.frame.now c.args.given.now (context_of l.context)
          (context_of c.fill_one.new.context) l.one-index c.loop-one-test.true done.fills.1;
      gets = l.invariant.gets ∙ gets_turn_at c.args.frame.now c.args.given.now (context_of l.context)
          (context_of c.fill_one.new.context) l.one-index (all_known l.gots) (all_known c.fill_one.new.gots)
          c.loop-one-test.true done.fills.1 done.gets;
    }

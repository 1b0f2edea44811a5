use Rattle.std.proofs.Common.{arith, ◌+◌}
use Rattle.serde_json.specs.View.{view}
use Rattle.ob_client.specs.TrialView.{holding_view, wish_view}
use Rattle.ob_client.proofs.TrialLemmas.{goes_on}
use Rattle.ob_client.proofs.trial.trial_lines.Goals as goal

pub loop-done-preserved : goal.loop-done-preserved
loop-done-preserved c =
    goes_on c.args.length c.loop-done.lines.items c.put_line-in-loop-done.new.lines.items c.loop-done.done (c.loop-done.done + 1) c.loop-done.drawn
    c.drawn_after-drawn.result (holding_view c.loop-done.held) (holding_view c.note.new.self) (wish_view c.wish_of-wish.result)
    (view c.in_ok-wish_value.field-0) (omega arith) c.loop-done.invariant (omega (arith, c.loop-done-test.true)) c.drawn_after-drawn.ensures.drawn
    c.drawn_after-drawn.ensures.below c.wish_of-wish.ensures c.in_ok-wish_value.ensures c.in_ok-put_line-2.ensures c.in_ok-note.ensures

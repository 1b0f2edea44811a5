use Rattle.ob_silica.specs.declared.place.Place.TheVariants.{This}
use Rattle.ob_flow_context.specs.View.{context_of}
use Rattle.ob_flow_premises.proofs.StateLemmas.{ended_at_number}
use Rattle.ob_flow_premises.proofs.returning.end_tests.Goals as goal

pub loop-place-preserved : goal.loop-place-preserved
loop-place-preserved c =
    ended_at_number (context_of c.args.context.now) (context_of c.loop-place.context) (context_of c.share_again.new.context)
    c.args.tested.now c.loop-place.place-index This c.loop-place-test.true c.loop-place.invariant c.share_again.ensures

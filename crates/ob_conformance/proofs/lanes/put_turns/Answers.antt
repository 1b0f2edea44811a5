use Rattle.std.proofs.Common.{suc}
use Rattle.ob_serve.specs.Turning.{batch_on}
use Rattle.ob_serve.proofs.Commits.{as_goes}
use Rattle.ob_conformance.proofs.lanes.put_turns.Goals as goal

pub turns-init : goal.turns-init
turns-init g c = record { at_rest = c.requires.at_rest; stands = c.requires.stands; far = c.requires.far }

pub answer_turn-requires-clause-serving : goal.answer_turn-requires-clause-serving
answer_turn-requires-clause-serving g c = record { at_rest = c.turns.invariant.at_rest; stands = c.turns.invariant.stands }

pub answer_turn-requires-clause-far : goal.answer_turn-requires-clause-far
answer_turn-requires-clause-far g c = c.turns.invariant.far

pub turns-preserved : goal.turns-preserved
turns-preserved g c =
    let far = c.turns.invariant.far in
    let goes = as_goes (batch_on c.args.code.now c.args.limits far.0 far.1 far.2) far.4 far.3 _ _ _ c.in-Ok-false.field-0 c.in-Ok-false.field-0-test (c.in-Ok-false.ensures far.0 far.1 far.2 far.3 far.4 far.5) in
    record {
      at_rest = goes.answered.serving.at_rest;
      stands = goes.answered.serving.stands;
      far = (far.0, far.1, far.2, suc far.3, far.4, goes.far);
    }

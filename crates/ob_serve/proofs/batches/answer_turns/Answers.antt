use Rattle.std.proofs.lemmas.Result.{err_from_is_err_and}
use Rattle.ob_store.specs.Stores.{area_of_store, state_of}
use Rattle.ob_serve.specs.Turning.{batch_on}
use Rattle.ob_serve.proofs.Commits.{turns_go, turns_end, turns_stop, fewer_turns, entries_enough, as_last, as_goes}
use Rattle.ob_serve.proofs.Progress.{answered_none}
use Rattle.ob_serve.proofs.batches.answer_turns.Goals as goal

pub turns-init : goal.turns-init
turns-init g c = record {
  serving = c.requires.serving;
  far = λ requests can far. rw c.new-turns.ensures far;
  answered = λ requests can far. rw c.new-turns.ensures (answered_none c.args.code.now _ c.requires.serving);
}

pub answer_turn-requires-clause-far : goal.answer_turn-requires-clause-far
answer_turn-requires-clause-far g c =
    let r = c.requires.far in
    (area_of_store c.args.store.now, state_of c.args.store.now, r.0, c.turns.turns, r.1, c.turns.invariant.far r.0 r.1 r.2)

pub returns-then-is_done : goal.returns-then-is_done
returns-then-is_done g c = λ requests can far.
    let b = batch_on c.args.code.now c.args.limits (area_of_store c.args.store.now) (state_of c.args.store.now) requests in
    turns_end b can c.turns.turns _ _ _ (c.turns.invariant.answered requests can far)
    (as_last b can c.turns.turns _ _ _ c.in_ok-is_done.is_done c.if-is_done.true (c.in_ok-is_done.ensures (area_of_store c.args.store.now) (state_of c.args.store.now) requests c.turns.turns can (c.turns.invariant.far requests can far)))

pub returns-in_err-is_done : goal.returns-in_err-is_done
returns-in_err-is_done g c = λ requests can far.
    let b = batch_on c.args.code.now c.args.limits (area_of_store c.args.store.now) (state_of c.args.store.now) requests in
    let failed = err_from_is_err_and c.from_residual.result c.from_residual.ensures.1 in
    rw (failed.1, failed.2) (turns_stop b can c.turns.turns _ _ _ (c.turns.invariant.answered requests can far) c.in_err-is_done.field-0.0
    (c.in_err-is_done.ensures (area_of_store c.args.store.now) (state_of c.args.store.now) requests c.turns.turns can (c.turns.invariant.far requests can far)))

pub turns-preserved : goal.turns-preserved
turns-preserved g c =
    let inv = c.turns.invariant in
    let area = area_of_store c.args.store.now in
    let start = state_of c.args.store.now in
    let r = c.requires.far in
    record {
      serving = (as_goes (batch_on c.args.code.now c.args.limits area start r.0) r.1 c.turns.turns _ _ _ c.in_ok-is_done.is_done c.if-is_done.false (c.in_ok-is_done.ensures area start r.0 c.turns.turns r.1 (inv.far r.0 r.1 r.2))).answered.serving;
      far = λ requests can far. rw c.raise.ensures (as_goes (batch_on c.args.code.now c.args.limits area start requests) can c.turns.turns _ _ _ c.in_ok-is_done.is_done c.if-is_done.false (c.in_ok-is_done.ensures area start requests c.turns.turns can (inv.far requests can far))).far;
      answered = λ requests can far.
          rw c.raise.ensures (turns_go (batch_on c.args.code.now c.args.limits area start requests) can c.turns.turns _ _ _ (inv.answered requests can far) _
          (as_goes (batch_on c.args.code.now c.args.limits area start requests) can c.turns.turns _ _ _ c.in_ok-is_done.is_done c.if-is_done.false (c.in_ok-is_done.ensures area start requests c.turns.turns can (inv.far requests can far))));
    }

pub turns-smaller : goal.turns-smaller
turns-smaller g c =
    let area = area_of_store c.args.store.now in
    let start = state_of c.args.store.now in
    let r = c.requires.far in
    let b = batch_on c.args.code.now c.args.limits area start r.0 in
    let goes = as_goes b r.1 c.turns.turns _ _ _ c.in_ok-is_done.is_done c.if-is_done.false (c.in_ok-is_done.ensures area start r.0 c.turns.turns r.1 (c.turns.invariant.far r.0 r.1 r.2)) in
    rw c.raise.ensures (fewer_turns b c.turns.turns _ _ _ goes.far (entries_enough b c.args.store.now c.args.lanes.now r.2))

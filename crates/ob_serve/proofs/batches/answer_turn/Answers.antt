use Rattle.std.proofs.Common.{◌≡◌, true, sym, subst}
use Rattle.std.proofs.lemmas.Result.{err_from_is_err_and}
use Rattle.ob_code_table.specs.ImageTables.{table_of_image}
use Rattle.ob_heap.specs.Contents.{Stored, content_of}
use Rattle.ob_owners.specs.Indexes.{told_owner}
use Rattle.ob_owners.specs.Spots.{owner_place}
use Rattle.ob_owners.proofs.OwnersLemmas.{told_is_owner}
use Rattle.ob_store.specs.Stores.{kept_of}
use Rattle.ob_serve.specs.Turning.{batch_on}
use Rattle.ob_serve.proofs.Commits.{memory_stops, turn_done, turn_stopped, turn_quiet, turn_last}
use Rattle.ob_serve.proofs.Turning.{can_turn, goes_far, no_items, is_last, waits_with}
use Rattle.ob_serve.proofs.batches.answer_turn.Goals as goal

pub turn-requires-clause-index : goal.turn-requires-clause-index
turn-requires-clause-index g c = λ n.
    let table = table_of_image c.args.code.now in
    let owners = c.args.store.now.owners in
    subst (λ (x : Stored). told_owner owners n ≡ owner_place table (content_of x) n) (sym c.content.ensures)
    (told_is_owner table (content_of (kept_of c.args.store.now)) owners n c.requires.serving.stands.owners)

pub turn-requires-clause-stand : goal.turn-requires-clause-stand
turn-requires-clause-stand g c =
    let r = c.requires.far in
    rw c.content.ensures (_, r.5.state, can_turn (batch_on c.args.code.now c.args.limits r.0 r.1 r.2) r.4 r.3 c.args.store.now c.args.lanes.now r.5)

pub answer_commit-requires-clause-waits : goal.answer_commit-requires-clause-waits
answer_commit-requires-clause-waits g c =
    let r = c.requires.far in
    let b = batch_on c.args.code.now c.args.limits r.0 r.1 r.2 in
    let can = rw c.content.ensures at c.in_ok-turn.ensures.turned _ r.5.state (can_turn b r.4 r.3 c.args.store.now c.args.lanes.now r.5) in
    let did = rw c.in-Commit.is at can in
    let so = did.answers (λ x y. true) in (
      c.args.limits,
      r.0,
      r.1,
      r.2,
      r.3,
      r.4,
      waits_with b r.4 r.3 c.args.store.now c.args.lanes.now c.turn.new.self _ r.5 did c.turn.ensures.entries c.in-Commit.reply c.in-Commit.delta so.0 so.1 so.2,
    )

pub returns-in_ok-answer_commit-in-Commit : goal.returns-in_ok-answer_commit-in-Commit
returns-in_ok-answer_commit-in-Commit g c = λ area start requests turns can far.
    let b = batch_on c.args.code.now c.args.limits area start requests in
    let did = rw (c.content.ensures, c.in-Commit.is) at c.in_ok-turn.ensures.turned _ far.state (can_turn b can turns c.args.store.now c.args.lanes.now far) in
    let so = did.answers (λ x y. true) in
    let w = waits_with b can turns c.args.store.now c.args.lanes.now c.turn.new.self _ far did c.turn.ensures.entries c.in-Commit.reply c.in-Commit.delta so.0 so.1 so.2 in
    turn_done b can turns _ _ c.answer_commit.new.lanes c.answer_commit.result _ c.in_ok-answer_commit-in-Commit.was (c.answer_commit.ensures c.args.limits area start requests turns can w)

pub returns-in_err-answer_commit-in-Commit : goal.returns-in_err-answer_commit-in-Commit
returns-in_err-answer_commit-in-Commit g c = λ area start requests turns can far.
    let failed = err_from_is_err_and c.from_residual-in_err-answer_commit-in-Commit.result c.from_residual-in_err-answer_commit-in-Commit.ensures.1 in
    let b = batch_on c.args.code.now c.args.limits area start requests in
    let did = rw (c.content.ensures, c.in-Commit.is) at c.in_ok-turn.ensures.turned _ far.state (can_turn b can turns c.args.store.now c.args.lanes.now far) in
    let so = did.answers (λ x y. true) in
    let w = waits_with b can turns c.args.store.now c.args.lanes.now c.turn.new.self _ far did c.turn.ensures.entries c.in-Commit.reply c.in-Commit.delta so.0 so.1 so.2 in
    rw (failed.1, failed.2) (turn_stopped b can turns _ _ c.answer_commit.new.lanes c.answer_commit.result _ c.in_err-answer_commit-in-Commit.was (c.answer_commit.ensures c.args.limits area start requests turns can w))

pub returns-in-Going : goal.returns-in-Going
returns-in-Going g c = λ area start requests turns can far.
    let b = batch_on c.args.code.now c.args.limits area start requests in
    let did = rw (c.content.ensures, c.in-Going.is) at c.in_ok-turn.ensures.turned _ far.state (can_turn b can turns c.args.store.now c.args.lanes.now far) in
    let so = did.answers (λ x y. true) in
    turn_quiet b can turns _ c.turn.new.self c.requires.serving
    (no_items b can turns c.args.store.now c.args.lanes.now c.turn.new.self _ far did c.turn.ensures.entries so.0)
    (goes_far b can turns c.args.store.now c.args.lanes.now c.turn.new.self _ far did c.turn.ensures.entries so.0 so.1 so.2)

pub returns-in-Done : goal.returns-in-Done
returns-in-Done g c = λ area start requests turns can far.
    let b = batch_on c.args.code.now c.args.limits area start requests in
    let did = rw (c.content.ensures, c.in-Done.is) at c.in_ok-turn.ensures.turned _ far.state (can_turn b can turns c.args.store.now c.args.lanes.now far) in
    let so = did.answers (λ x y. true) in
    turn_last b can turns _ c.requires.serving (is_last b can turns c.args.store.now c.args.lanes.now c.turn.new.self _ far did c.turn.ensures.entries so.0 so.1)

pub returns-in_err-turn : goal.returns-in_err-turn
returns-in_err-turn g c = λ area start requests turns can far.
    let failed = err_from_is_err_and c.from_residual.result c.from_residual.ensures.1 in
    rw (failed.1, failed.2) (memory_stops (batch_on c.args.code.now c.args.limits area start requests) can turns c.args.store.now (g.K.Sink.view c.args.output.now) (g.D.Disk.view c.args.disk.now) far.few c.requires.serving)

use Rattle.std.proofs.Common.{Err}
use Rattle.ob_store_laws.specs.Recorded.{content_with}
use Rattle.ob_store_spec.specs.Settling.{payload_of_all}
use Rattle.ob_store.specs.Stores.{program_of}
use Rattle.ob_store.proofs.Built.{drafted, move_built}
use Rattle.ob_store.proofs.writing.build_move.Goals as goal

pub returns-in-Ok-finish_area : goal.returns-in-Ok-finish_area
returns-in-Ok-finish_area c =
    let all = payload_of_all (program_of c.args.code.now) (content_with c.args.content.now c.args.delta.now) in
    c.in-Ok-finish_area.ensures all
    (drafted c.args.journal.now c.in-Ok.draft.bytes.items all (record { bytes = c.put_whole.new.out }) c.in-Ok.ensures c.in-Ok-put_whole.ensures)

pub returns-in-Err : goal.returns-in-Err
returns-in-Err c =
    let all = payload_of_all (program_of c.args.code.now) (content_with c.args.content.now c.args.delta.now) in
    move_built c.args.journal.now all (Err c.in-Err.error)
    (c.in-Err.ensures all
    (drafted c.args.journal.now c.in-Ok.draft.bytes.items all (record { bytes = c.put_whole.new.out }) c.in-Ok.ensures c.in-Ok-put_whole.ensures))

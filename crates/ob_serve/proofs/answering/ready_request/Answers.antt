use Rattle.ob_code_table.specs.ImageTables.{table_of_image}
use Rattle.ob_heap.specs.Contents.{content_of}
use Rattle.ob_machine_meaning.specs.Meanings.{machine_invocation}
use Rattle.ob_store.specs.Stores.{kept_of}
use Rattle.ob_wire.specs.Meanings.{request_of}
use Rattle.ob_serve.proofs.Keeping.{within_limits}
use Rattle.ob_serve.proofs.answering.ready_request.Goals as goal

pub find_answer-requires-clause-right : goal.find_answer-requires-clause-right
find_answer-requires-clause-right c = within_limits (table_of_image c.args.code.now) _ c.requires.rests

pub ready_reply-requires-clause-comes : goal.ready_reply-requires-clause-comes
ready_reply-requires-clause-comes c = (
  machine_invocation c.args.code.now (content_of (kept_of c.args.store.now)) (request_of c.args.request.now) c.args.fuel,
  c.in_ok-reply.ensures.answer,
  c.requires.rests,
)

pub returns : goal.returns
returns c =
    c.ready_reply.ensures.gives c.args.request.now.id
    (machine_invocation c.args.code.now (content_of (kept_of c.args.store.now)) (request_of c.args.request.now) c.args.fuel) c.in_ok-reply.ensures.id c.in_ok-reply.ensures.answer c.requires.rests

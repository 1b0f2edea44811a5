use Rattle.serde_json.specs.View.{view}
use Rattle.ob_client.proofs.ReplyLines.{formed_read}
use Rattle.ob_client.proofs.replies.told.Goals as goal

pub is_of-requires-clause-formed : goal.is_of-requires-clause-formed
is_of-requires-clause-formed c = (formed_read (view c.args.value.now) c.in_ok-reply.reply c.in_ok-reply.ensures).1

use Rattle.ob_client.proofs.ReplyLines.{told_by, no_json_by, no_reply_by, no_batch_size_by}
use Rattle.ob_client.proofs.replies.read_reply.Goals as goal

pub returns-clause-told : goal.returns-clause-told
returns-clause-told c = told_by c.args.line.now c.find_reply.result c.find_reply.ensures

pub returns-clause-no_json : goal.returns-clause-no_json
returns-clause-no_json c = no_json_by c.args.line.now c.find_reply.result c.find_reply.ensures

pub returns-clause-no_reply : goal.returns-clause-no_reply
returns-clause-no_reply c = no_reply_by c.args.line.now c.find_reply.result c.find_reply.ensures

pub returns-clause-no_batch_size : goal.returns-clause-no_batch_size
returns-clause-no_batch_size c = no_batch_size_by c.args.line.now c.find_reply.result c.find_reply.ensures

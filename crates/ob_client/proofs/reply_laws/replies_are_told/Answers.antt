use Rattle.ob_client.proofs.ReplyLines.{line_tells, tells_one}
use Rattle.ob_client.proofs.Reordering.{line_tells_reordered}
use Rattle.ob_client.proofs.reply_laws.replies_are_told.Goals as goal

pub returns-clause-told : goal.returns-clause-told
returns-clause-told c = line_tells

pub returns-clause-reordered : goal.returns-clause-reordered
returns-clause-reordered c = line_tells_reordered

pub returns-clause-one : goal.returns-clause-one
returns-clause-one c = tells_one

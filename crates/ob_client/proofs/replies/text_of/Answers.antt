use Rattle.std.proofs.Common.{Some, sym, ap, ◌∙◌}
use Rattle.ob_client.proofs.ReplyLines.{text_is}
use Rattle.ob_client.proofs.replies.text_of.Goals as goal

pub returns : goal.returns
returns c = text_is c.args.text.now c.utf8.text ∙ ap Some (sym c.in_ok-from_str.ensures)

use lib.Utf8.{encode}
use Rattle.std.proofs.Common.{◌∙◌}
use Rattle.std.specs.Prelude.{string_bytes}
use Rattle.serde_json.specs.View.{view}
use Rattle.ob_client.proofs.ReplyLines.{same_lines}
use Rattle.ob_client.proofs.replies.is_of.Goals as goal

pub returns : goal.returns
unfolding encode
returns c =
    same_lines c.args.reply.now (view c.args.value.now) (string_bytes c.in_ok-text.text) c.as_bytes.result.now c.as_slice.result.now c.eq.result (c.requires.numbered, c.requires.formed)
    (c.in_ok-text.ensures.reads_back c.requires.shallow) c.in_ok-text.ensures.text (c.as_bytes.ensures.value ∙ c.in_ok-push.ensures.bytes)
    (c.as_slice.ensures.value ∙ c.in_ok-line.ensures) c.eq.ensures

use lib.Utf8.{encode}
use Rattle.std.proofs.Common.{◌∙◌, ap, List, ℕ, ◌++◌, ◌∷◌, []}
use Rattle.ob_wire.proofs.ReplyTexts.{is_whole}
use Rattle.ob_wire.proofs.writing.reply_bytes.Goals as goal

pub returns : goal.returns
unfolding encode
returns c =
    let text = rw c.in_ok-value.ensures at c.in_ok-text.ensures in
    ap (λ v. v.items) c.into_bytes.ensures.value ∙ c.in_ok-push.ensures.bytes ∙ ap (λ (l : List ℕ). l ++ 10 ∷ []) (text (is_whole c.args.reply.now))

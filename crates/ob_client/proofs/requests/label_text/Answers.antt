use Rattle.std.proofs.Common.{subst, sym}
use Rattle.std.specs.Str.{IsUtf8}
use Rattle.ob_wire.proofs.ReadingLemmas.{label_is_utf8}
use Rattle.ob_client.proofs.requests.label_text.Goals as goal

pub text_of-requires : goal.text_of-requires
text_of-requires c = subst IsUtf8 (sym c.as_bytes.ensures.bytes) (label_is_utf8 _ c.as_bytes.ensures.form)

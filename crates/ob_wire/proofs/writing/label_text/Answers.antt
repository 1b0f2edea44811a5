use Rattle.std.proofs.Common.{subst, sym}
use Rattle.std.specs.Str.{IsUtf8}
use Rattle.ob_wire.proofs.ReadingLemmas.{label_is_utf8}
use Rattle.ob_wire.proofs.writing.label_text.Goals as goal

pub unreachable-requires : goal.unreachable-requires
unreachable-requires c = c.in-Err.ensures.cases.0 (subst IsUtf8 (sym c.as_bytes.ensures.bytes) (label_is_utf8 _ c.as_bytes.ensures.form))

use Rattle.std.proofs.Common.{arith}
use Rattle.ob_store_payload.proofs.Spellings.{text_fits}
use Rattle.ob_store_payload.proofs.values.put_text.Goals as goal

pub put_text_bytes-requires : goal.put_text_bytes-requires
put_text_bytes-requires c = text_fits c.as_bytes-bytes.result.now (omega (arith, c.if-bytes-gt4294967295.false)) c.as_bytes-bytes.ensures.utf8

use Rattle.std.proofs.Common.{sym, ◌∙◌}
use Rattle.ob_format_spec.proofs.Failing.{something_left}
use Rattle.ob_journal.proofs.Headers.{record_there}
use Rattle.ob_journal.proofs.parts.record_behind.Goals as goal

pub returns : goal.returns
returns c = record_there c.args.bytes.now c.in-Some.payload.now c.in-Some.rest.now c.in-Some.ensures (something_left c.in-Some.rest.now (sym c.is_empty.ensures ∙ c.if-is_empty.false))

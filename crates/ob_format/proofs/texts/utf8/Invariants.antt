use Rattle.std.proofs.Common.{◌≡◌, ◌-◌}
use Rattle.ob_format_spec.specs.Texts.{no_due, read_utf8}
use Rattle.ob_format.proofs.Loops.{prefixed}
use Rattle.ob_format.proofs.texts.utf8.Given as goal

abbrev pub invariant-bytes : goal.invariant-bytes
invariant-bytes l = prefixed l.items (read_utf8 (l.count - l.read) l.state l.rest) ≡ read_utf8 l.count no_due l.bytes

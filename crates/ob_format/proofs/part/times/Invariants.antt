use Rattle.std.proofs.Common.{◌≡◌, ◌-◌}
use Rattle.ob_format_spec.specs.Combinators.{read_times}
use Rattle.ob_format.proofs.Loops.{prefixed}
use Rattle.ob_format.proofs.part.times.Given as goal

abbrev pub invariant-items : goal.invariant-items
invariant-items g l = prefixed l.items (read_times g.T.Part.format.read (l.count - l.counter) l.rest) ≡ read_times g.T.Part.format.read l.count l.bytes

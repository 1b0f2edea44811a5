use Rattle.std.proofs.Common.{◌≡◌, ◌-◌, map}
use Rattle.ob_format_spec.specs.Combinators.{read_times}
use Rattle.ob_format.proofs.Loops.{prefixed}
use Rattle.ob_store_laws.specs.Recorded.{handle_change}
use Rattle.ob_store_spec.specs.Payloads.{handle}
use Rattle.ob_store_payload.proofs.reading.so_many_handles.Given as goal

-- the handles so far were read
abbrev pub invariant-handles : goal.invariant-handles
invariant-handles l = prefixed (map handle_change l.handles) (read_times handle.read (l.count - l.counter) l.rest) ≡ read_times handle.read l.count l.bytes

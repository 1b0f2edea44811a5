-- So many calls were interrupted, and took nothing.
use Rattle.std.proofs.Common.{◌≡◌, length}
use Rattle.std.specs.Io.KnownBytes.{Keeps}
use Rattle.ob_io_std.proofs.again.read_again.Given as goal

abbrev pub invariant-tries : goal.invariant-tries
invariant-tries g l = (length l.into ≡ length l.fn.into) × Keeps (g.R.Read.remaining l.fn.reader) (g.R.Read.remaining l.reader)

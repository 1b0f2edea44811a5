use Rattle.std.proofs.Common.{◌≡◌, ◌+◌, ◌++◌, ℕ, List, length}
use Rattle.ob_io_std.proofs.adapters.append_pieces.Given as goal

-- some bytes were appended, and there is room for the rest
abbrev pub invariant-pieces : goal.invariant-pieces
invariant-pieces g l = record {
  bytes : List ℕ;
  appended : l.into.items ≡ l.fn.into.items ++ bytes;
  counted : length bytes + l.room ≡ l.limit;
}

abbrev pub decreases-pieces : goal.decreases-pieces
decreases-pieces g l = l.room

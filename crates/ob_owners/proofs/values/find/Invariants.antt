use Rattle.std.proofs.Common.{◌≡◌, drop}
use Rattle.ob_owners.specs.Entries.{entry_at}
use Rattle.ob_owners.proofs.values.find.Given as goal

abbrev pub invariant-loop-item : goal.invariant-loop-item
invariant-loop-item l = entry_at l.place l.items ≡ entry_at l.place (drop l.item-index l.items)

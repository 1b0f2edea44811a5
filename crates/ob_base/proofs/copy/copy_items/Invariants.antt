use Rattle.std.proofs.Common.{◌≡◌, take}
use Rattle.ob_base.proofs.copy.copy_items.Given as goal

-- what has been gone over is copied
abbrev pub invariant-loop-item : goal.invariant-loop-item
invariant-loop-item g l = l.copies ≡ take l.item-index l.items

use Rattle.std.proofs.Common.{◌≡◌, ◌++◌, take}
use Rattle.ob_format_spec.specs.Combinators.{each_bytes}
use Rattle.ob_format.proofs.part.put_each.Given as goal

abbrev pub invariant-items : goal.invariant-items
invariant-items g l = l.out.items ≡ l.fn.out.items ++ each_bytes g.T.Part.format.bytes (take l.item-index l.items)

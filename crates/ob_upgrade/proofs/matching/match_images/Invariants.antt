use Rattle.std.proofs.Common.{ℕ, ◌<◌}
use Rattle.ob_code_table.specs.ImageTables.{table_of_image}
use Rattle.ob_upgrade_spec.specs.Matching.{GoesOn}
use Rattle.ob_upgrade.proofs.matching.match_images.Given as goal

abbrev pub invariant-loop-number : goal.invariant-loop-number
invariant-loop-number l = (n : ℕ) → n < l.number → GoesOn (table_of_image l.old) (table_of_image l.new) n

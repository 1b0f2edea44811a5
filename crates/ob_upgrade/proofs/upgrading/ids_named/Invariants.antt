use Rattle.std.proofs.Common.{◌≡◌, take}
use Rattle.ob_code_table.specs.ImageTables.{table_of_image}
use Rattle.ob_upgrade.specs.Renaming.{named_ids}
use Rattle.ob_upgrade.proofs.upgrading.ids_named.Given as goal

abbrev pub invariant-loop-contract : goal.invariant-loop-contract
invariant-loop-contract l = l.ids ≡ named_ids (table_of_image l.new) (take l.contract-index l.old.contracts)

use Rattle.std.proofs.Common.{take}
use Rattle.ob_exec_entries.specs.Naming.{AreNumbered}
use Rattle.ob_exec_entries.proofs.names.number_all.Given as goal

abbrev pub invariant-loop-contract : goal.invariant-loop-contract
invariant-loop-contract l = AreNumbered (take l.contract-index l.contracts) l.all

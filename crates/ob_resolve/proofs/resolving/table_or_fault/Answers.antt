use Rattle.ob_resolve.proofs.ResolvingLaws.{table_or_fault_lem, never_table_and_fault_lem}
use Rattle.ob_resolve.proofs.resolving.table_or_fault.Goals as goal

pub returns-clause-either : goal.returns-clause-either
returns-clause-either c = table_or_fault_lem

pub returns-clause-never_both : goal.returns-clause-never_both
returns-clause-never_both c = never_table_and_fault_lem

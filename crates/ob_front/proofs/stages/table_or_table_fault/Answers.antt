use Rattle.ob_front.proofs.StagesLaws.{table_or_table_fault_lem, table_or_none}
use Rattle.ob_front.proofs.stages.table_or_table_fault.Goals as goal

pub returns-clause-either : goal.returns-clause-either
returns-clause-either c = table_or_table_fault_lem

pub returns-clause-never_both : goal.returns-clause-never_both
returns-clause-never_both c = table_or_none

use Rattle.ob_front.proofs.StagesLaws.{one_table}
use Rattle.ob_front.proofs.stages.one_class_table.Goals as goal

pub returns : goal.returns
returns c = one_table

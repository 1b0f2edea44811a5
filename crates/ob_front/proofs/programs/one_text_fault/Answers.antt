use Rattle.ob_front.proofs.ProgramsLaws.{one_text_fault_lem}
use Rattle.ob_front.proofs.programs.one_text_fault.Goals as goal

pub returns : goal.returns
returns c = one_text_fault_lem

use Rattle.ob_front.proofs.ProgramsLaws.{never_accepted_and_faulty_lem}
use Rattle.ob_front.proofs.programs.never_accepted_and_faulty.Goals as goal

pub returns : goal.returns
returns c = never_accepted_and_faulty_lem

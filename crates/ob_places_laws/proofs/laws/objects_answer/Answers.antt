use Rattle.ob_places_laws.proofs.Dispatch.{has_answer, answer_begins, answer_ends}
use Rattle.ob_places_laws.proofs.laws.objects_answer.Goals as goal

pub returns-clause-answer : goal.returns-clause-answer
returns-clause-answer c = has_answer

pub returns-clause-begins : goal.returns-clause-begins
returns-clause-begins c = answer_begins

pub returns-clause-ends : goal.returns-clause-ends
returns-clause-ends c = answer_ends

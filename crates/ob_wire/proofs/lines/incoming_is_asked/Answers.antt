use Rattle.ob_wire.proofs.IncomingLaws.{incoming_there, incoming_again, no_request_there, no_request_again, wrong_count_there, wrong_count_again, incoming_one}
use Rattle.ob_wire.proofs.lines.incoming_is_asked.Goals as goal

pub returns-clause-worked_out : goal.returns-clause-worked_out
returns-clause-worked_out c = incoming_there

pub returns-clause-found : goal.returns-clause-found
returns-clause-found c = incoming_again

pub returns-clause-no_request : goal.returns-clause-no_request
returns-clause-no_request c = λ value. (no_request_there value, no_request_again value)

pub returns-clause-batch_size : goal.returns-clause-batch_size
returns-clause-batch_size c = λ value. (wrong_count_there value, wrong_count_again value)

pub returns-clause-one : goal.returns-clause-one
returns-clause-one c = incoming_one

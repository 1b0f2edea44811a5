use Rattle.ob_wire.proofs.RequestLaws.{request_there, request_again, asks_one}
use Rattle.ob_wire.proofs.lines.requests_are_asked.Goals as goal

pub returns-clause-worked_out : goal.returns-clause-worked_out
returns-clause-worked_out c = request_there

pub returns-clause-found : goal.returns-clause-found
returns-clause-found c = request_again

pub returns-clause-one : goal.returns-clause-one
returns-clause-one c = asks_one

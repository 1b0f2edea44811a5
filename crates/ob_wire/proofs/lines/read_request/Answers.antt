use Rattle.ob_wire.proofs.IncomingLaws.{asked_by, no_json_by, asks_nothing_by, batch_size_by}
use Rattle.ob_wire.proofs.lines.read_request.Goals as goal

pub returns-clause-asked : goal.returns-clause-asked
returns-clause-asked c = asked_by c.args.line.now c.find_incoming.result c.find_incoming.ensures

pub returns-clause-no_json : goal.returns-clause-no_json
returns-clause-no_json c = no_json_by c.args.line.now c.find_incoming.result c.find_incoming.ensures

pub returns-clause-no_request : goal.returns-clause-no_request
returns-clause-no_request c = asks_nothing_by c.args.line.now c.find_incoming.result c.find_incoming.ensures

pub returns-clause-batch_size : goal.returns-clause-batch_size
returns-clause-batch_size c = batch_size_by c.args.line.now c.find_incoming.result c.find_incoming.ensures

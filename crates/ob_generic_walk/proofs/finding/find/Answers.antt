use Rattle.std.proofs.Common.{map}
use Rattle.std.proofs.lemmas.Result.{IfOk-weaker}
use Rattle.ob_tree.specs.MembersView.{contract_of}
use Rattle.ob_generic_walk.proofs.Steps.{found_known, found_least}
use Rattle.ob_generic_walk.proofs.finding.find.Goals as goal

pub returns-clause-known : goal.returns-clause-known
returns-clause-known c = IfOk-weaker c.walk.result _ _ (found_known (map contract_of c.args.nodes.now)) c.walk.ensures.seen

pub returns-clause-least : goal.returns-clause-least
returns-clause-least c = IfOk-weaker c.walk.result _ _ (found_least (map contract_of c.args.nodes.now)) c.walk.ensures.seen

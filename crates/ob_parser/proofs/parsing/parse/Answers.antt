use Rattle.ob_tree.specs.MembersView.{tree_of}
use Rattle.ob_parser.proofs.Whole.{tree_there, fault_there}
use Rattle.ob_parser.proofs.parsing.parse.Goals as goal

pub returns-in-Ok-clause-tree : goal.returns-in-Ok-clause-tree
returns-in-Ok-clause-tree c = tree_there c.args.tokens.now (tree_of c.in-Ok.tree) c.in-Ok.ensures

pub returns-in-Err-clause-fault : goal.returns-in-Err-clause-fault
returns-in-Err-clause-fault c = rw c.error_of.ensures (fault_there c.in-Err.halt c.args.tokens.now c.args.end c.in-Err.ensures)

use Rattle.std.proofs.Common.{map}
use Rattle.ob_tree.specs.MembersView.{contract_of, tree_of}
use Rattle.ob_generic.proofs.MakingLaws.{told, made_of}
use Rattle.ob_generic.proofs.making.instances_in.Goals as goal

pub returns-in-Some-clause-fault : goal.returns-in-Some-clause-fault
returns-in-Some-clause-fault c =
    told (map contract_of c.args.nodes.now) c.in_ok-found.found.least c.in-Some.fault c.in_ok-found.ensures.least c.in-Some.is

pub returns-clause-tree : goal.returns-clause-tree
returns-clause-tree c =
    let made = rw c.as_slice.ensures at c.in_ok-make_tree-in-None.ensures in
    made_of (map contract_of c.args.nodes.now) (tree_of c.in_ok-make_tree-in-None.field-0) c.in_ok-found.found.least
    c.in_ok-found.found.known c.in_ok-found.ensures.least c.in-None.is c.in_ok-found.ensures.known made

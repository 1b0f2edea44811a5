use Rattle.std.proofs.Common.{◌≡◌, take, map}
use Rattle.ob_tree.specs.MembersView.{formal_of}
use Rattle.ob_generic_spec.specs.InstanceTrees.{formal_in}
use Rattle.ob_generic.proofs.members.formals_in.Given as goal

abbrev pub invariant-loop-formal : goal.invariant-loop-formal
invariant-loop-formal l = map formal_of l.out ≡ map (formal_in l.own) (map formal_of (take l.formal-index l.formals))

use Rattle.std.proofs.Common.{◌≡◌, take, map}
use Rattle.ob_tree.specs.MembersView.{listed_of}
use Rattle.ob_generic_spec.specs.InstanceTrees.{listed_in}
use Rattle.ob_generic.proofs.members.listed_in.Given as goal

abbrev pub invariant-loop-one : goal.invariant-loop-one
invariant-loop-one l = map listed_of l.out ≡ map (listed_in l.own) (map listed_of (take l.one-index l.listed))

use Rattle.std.proofs.Common.{◌≡◌, take, map}
use Rattle.ob_tree.specs.MembersView.{field_of}
use Rattle.ob_generic_spec.specs.InstanceTrees.{field_in}
use Rattle.ob_generic.proofs.members.fields_in.Given as goal

abbrev pub invariant-loop-field : goal.invariant-loop-field
invariant-loop-field l = map field_of l.out ≡ map (field_in l.own) (map field_of (take l.field-index l.fields))

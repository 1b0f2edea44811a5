use Rattle.std.proofs.Common.{◌≡◌, map, flat_map, filter, take}
use Rattle.ob_tree.specs.MembersView.{member_of}
use Rattle.ob_table_spec.specs.Names.{same}
use Rattle.ob_resolve_spec.specs.Declarations.{part_of_named, constructors_of_member}
use Rattle.ob_resolve.proofs.names.constructor_names.Given as goal

abbrev pub invariant-loop-member : goal.invariant-loop-member
invariant-loop-member l = l.names ≡ map (λ m. part_of_named m.of) (filter (λ m. same l.own (part_of_named m.of).name) (flat_map constructors_of_member (map member_of (take l.member-index l.members))))

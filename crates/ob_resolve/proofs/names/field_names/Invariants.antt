use Rattle.std.proofs.Common.{◌≡◌, map, flat_map, take}
use Rattle.ob_tree.specs.MembersView.{member_of}
use Rattle.ob_resolve_spec.specs.Declarations.{fields_of_member}
use Rattle.ob_resolve.proofs.names.field_names.Given as goal

abbrev pub invariant-loop-member : goal.invariant-loop-member
invariant-loop-member l = l.names ≡ map (λ f. f.field.name) (flat_map fields_of_member (map member_of (take l.member-index l.members)))

use Rattle.std.proofs.Common.{◌≡◌, map, take}
use Rattle.std.specs.List.{flat_map}
use Rattle.ob_tree.specs.MembersView.{member_of}
use Rattle.ob_resolve_spec.specs.Declarations.{states_of_member}
use Rattle.ob_generic_walk.proofs.declaring.states_of.Given as goal

abbrev pub invariant-loop-member : goal.invariant-loop-member
invariant-loop-member l = l.states ≡ map (λ s. s.name) (flat_map states_of_member (map member_of (take l.member-index l.members)))

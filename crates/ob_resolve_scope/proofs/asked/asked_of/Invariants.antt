use Rattle.std.proofs.Common.{◌≡◌, map, take}
use Rattle.std.specs.Prelude.{flat_map}
use Rattle.ob_tree.specs.MembersView.{member_of}
use Rattle.ob_resolve_spec.specs.Declarations.{transactions_of_member}
use Rattle.ob_resolve_scope.specs.Once.{asked_of, parts_of}
use Rattle.ob_resolve_scope.proofs.asked.asked_of.Given as goal

abbrev pub invariant-loop-member : goal.invariant-loop-member
invariant-loop-member l =
    map parts_of l.asked ≡ map asked_of (flat_map transactions_of_member (map member_of (take l.member-index l.members)))

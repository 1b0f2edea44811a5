use Rattle.std.proofs.Common.{◌≡◌, map, take}
use Rattle.ob_tree.specs.MembersView.{member_of}
use Rattle.ob_resolve_scope.specs.Members.{positions_from}
use Rattle.ob_resolve_scope.proofs.declared.places_of.Given as goal

abbrev pub invariant-loop-place : goal.invariant-loop-place
invariant-loop-place l = l.places ≡ positions_from 0 (map member_of (take l.place l.members))

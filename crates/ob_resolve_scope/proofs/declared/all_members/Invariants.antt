use Rattle.std.proofs.Common.{◌≡◌, map, take}
use Rattle.ob_resolve_scope.specs.Members.{members_of}
use Rattle.ob_resolve_scope.specs.Types.{program_of}
use Rattle.ob_resolve_scope.proofs.declared.all_members.Given as goal

abbrev pub invariant-loop-node : goal.invariant-loop-node
invariant-loop-node l = l.all ≡ map (members_of (program_of l.types)) (program_of (take l.node-index l.nodes))

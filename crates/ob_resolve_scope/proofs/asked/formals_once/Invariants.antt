use Rattle.std.proofs.Common.{◌≡◌, map, take}
use Rattle.ob_tree.specs.MembersView.{formal_of}
use Rattle.ob_resolve_scope.specs.Once.{formal_once}
use Rattle.ob_resolve_scope.proofs.asked.formals_once.Given as goal

abbrev pub invariant-loop-formal : goal.invariant-loop-formal
invariant-loop-formal l = map formal_of l.once ≡ map formal_once (map formal_of (take l.formal-index l.formals))

use Rattle.std.proofs.Common.{◌≡◌, map, take}
use Rattle.ob_resolve_scope.specs.Numbered.{numbered}
use Rattle.ob_resolve_members.proofs.permissions.names_of.Given as goal

abbrev pub invariant-loop-place : goal.invariant-loop-place
invariant-loop-place l = l.names ≡ numbered (map (λ s. s.name) (take l.place l.states))

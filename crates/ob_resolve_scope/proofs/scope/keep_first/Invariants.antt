use Rattle.std.proofs.Common.{◌≡◌, map, take, length}
use Rattle.ob_resolve_scope.specs.Numbered.{numbered}
use Rattle.ob_resolve_scope.proofs.scope.keep_first.Given as goal

abbrev pub invariant-loop-names : goal.invariant-loop-names
invariant-loop-names l = record {
  names : l.names ≡ numbered (map (λ v. v.name) l.variables);
  variables : take l.visible l.variables ≡ take l.visible l.fn.variables;
}

abbrev pub decreases-loop-names : goal.decreases-loop-names
decreases-loop-names l = length l.variables

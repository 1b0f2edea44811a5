use Rattle.std.proofs.Common.{◌≡◌, drop}
use Rattle.std.specs.List.{list_all}
use Rattle.ob_resolve_scope.specs.Numbered.{is_found}
use Rattle.ob_resolve_scope.proofs.names.Names.is_within.Given as goal

abbrev pub invariant-loop-place : goal.invariant-loop-place
invariant-loop-place l = list_all (is_found l.others) (drop l.place l.self) ≡ list_all (is_found l.others) l.self

use Rattle.std.proofs.Common.{◌≡◌, map, take}
use Rattle.ob_table_spec.specs.Names.{firsts}
use Rattle.ob_resolve_scope.specs.Numbered.{numbered}
use Rattle.ob_resolve_scope.proofs.asked.states_once.Given as goal

abbrev pub invariant-loop-place : goal.invariant-loop-place
invariant-loop-place l = record {
  seen : l.seen ≡ numbered (map (λ s. s.name) (take l.place l.states));
  once : l.once ≡ firsts (λ s. s.name) (take l.place l.states);
}

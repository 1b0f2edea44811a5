use Rattle.std.proofs.Common.{◌≡◌, map, take, length}
use Rattle.ob_table_spec.specs.Names.{firsts}
use Rattle.ob_resolve_scope.specs.Numbered.{numbered}
use Rattle.ob_resolve_sites.specs.Noted.{noted}
use Rattle.ob_resolve_members.proofs.DistinctTurns.{rest_in_order, first_one, counts_from}
use Rattle.ob_resolve_members.proofs.distinct.note_limit.Given as goal

abbrev pub invariant-loop-index : goal.invariant-loop-index
invariant-loop-index l = record {
  seen : l.seen ≡ numbered (map (λ p. p.name) (take l.index l.names));
  sites : noted l.least (counts_from (length l.seen) l.most (rest_in_order first_one l.names l.index)) ≡ noted l.fn.least (counts_from 0 l.most (firsts (λ p. p.name) l.names));
}

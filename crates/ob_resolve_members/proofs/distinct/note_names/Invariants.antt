use Rattle.std.proofs.Common.{◌≡◌, map, take}
use Rattle.std.specs.Option.{option_copied}
use Rattle.ob_resolve_spec.specs.TypeSites.{declared_sites}
use Rattle.ob_resolve_scope.specs.Numbered.{numbered}
use Rattle.ob_resolve_sites.specs.Noted.{noted}
use Rattle.ob_resolve_members.specs.Parts.{taken_around}
use Rattle.ob_resolve_members.proofs.DistinctTurns.{rest_in_order, second_site}
use Rattle.ob_resolve_members.proofs.distinct.note_names.Given as goal

abbrev pub invariant-loop-index : goal.invariant-loop-index
invariant-loop-index l = record {
  seen : l.seen ≡ numbered (map (λ p. p.name) (take l.index l.names));
  sites : noted l.least (rest_in_order (second_site (taken_around (option_copied l.around))) l.names l.index) ≡ noted l.fn.least (declared_sites (λ p. p) (taken_around (option_copied l.around)) l.names);
}

use Rattle.std.proofs.Common.{◌≡◌}
use Rattle.ob_resolve_spec.specs.Faults.{is_not_empty}
use Rattle.ob_resolve_spec.specs.MemberSites.{main_sites}
use Rattle.ob_resolve_scope.specs.Types.{program_of}
use Rattle.ob_resolve_sites.specs.Noted.{noted}
use Rattle.ob_resolve.proofs.ProgramLemmas.{mains_before, rest_of_mains}
use Rattle.ob_resolve.proofs.program.walk_mains.Given as goal

abbrev pub invariant-loop-node : goal.invariant-loop-node
invariant-loop-node l = record {
  seen : l.seen ≡ is_not_empty (mains_before l.nodes l.node-index);
  sites : noted l.least (rest_of_mains l.nodes l.node-index) ≡ noted l.fn.least (main_sites (program_of l.nodes));
}

use Rattle.std.proofs.Common.{◌≡◌, map, take}
use Rattle.std.specs.Prelude.{flat_map}
use Rattle.ob_table.specs.StatementsView.{resolved_body_of}
use Rattle.ob_resolve_spec.specs.TableOf.{contract_in_table, bodies_of}
use Rattle.ob_resolve_scope.specs.Types.{program_of}
use Rattle.ob_resolve_table.proofs.tables.make_table.Given as goal

abbrev pub invariant-loop-number : goal.invariant-loop-number
invariant-loop-number l = record {
  contracts : l.contracts ≡ map (contract_in_table (program_of l.declared)) (program_of (take l.number l.declared));
  bodies : map resolved_body_of l.bodies ≡ flat_map (bodies_of (program_of l.declared))
      (program_of (take l.number l.declared));
}

use Rattle.std.proofs.Common.{◌≡◌, ◌+◌, ◌++◌, length, map, take}
use Rattle.std.specs.Prelude.{flat_map}
use Rattle.ob_tree.specs.MembersView.{contract_of, member_of}
use Rattle.ob_table.specs.StatementsView.{resolved_body_of}
use Rattle.ob_resolve_spec.specs.Declarations.{transactions_of_member}
use Rattle.ob_resolve_scope.specs.Types.{program_of}
use Rattle.ob_resolve_table.specs.Parts.{bodies_from}
use Rattle.ob_resolve_table.proofs.bodies.add_transaction_bodies.Given as goal

abbrev pub invariant-loop-member : goal.invariant-loop-member
invariant-loop-member l = record {
  next : l.tx ≡ 1 + length (flat_map transactions_of_member (map member_of (take l.member-index l.members)));
  bodies : map resolved_body_of l.bodies ≡ map resolved_body_of l.fn.bodies
      ++ bodies_from (program_of l.around.program) (contract_of l.around.own) 1
      (flat_map transactions_of_member (map member_of (take l.member-index l.members)));
}

use Rattle.std.proofs.Common.{◌≡◌, ◌++◌, map, take}
use Rattle.std.specs.Prelude.{flat_map}
use Rattle.ob_tree.specs.MembersView.{contract_of, member_of}
use Rattle.ob_resolve_spec.specs.Declarations.{transactions_of_member}
use Rattle.ob_resolve_spec.specs.TableOf.{transaction_in_table}
use Rattle.ob_resolve_scope.specs.Types.{program_of}
use Rattle.ob_resolve_table.proofs.signatures.add_transactions.Given as goal

abbrev pub invariant-loop-member : goal.invariant-loop-member
invariant-loop-member l =
    l.signatures ≡ l.fn.signatures ++ map (transaction_in_table (program_of l.around.program)
    (contract_of l.around.own)) (flat_map transactions_of_member (map member_of (take l.member-index l.members)))

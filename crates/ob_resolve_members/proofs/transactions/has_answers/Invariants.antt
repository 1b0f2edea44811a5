use Rattle.std.proofs.Common.{◌≡◌, drop}
use Rattle.std.specs.List.{list_all}
use Rattle.ob_tree.specs.MembersView.{contract_of}
use Rattle.ob_resolve_scope.specs.Types.{program_of}
use Rattle.ob_resolve_members.specs.Asked.{asked_at}
use Rattle.ob_resolve_members.proofs.transactions.has_answers.Given as goal

abbrev pub invariant-loop-place : goal.invariant-loop-place
invariant-loop-place l =
    list_all (asked_at (program_of l.own.program) (contract_of l.interface.own) (contract_of l.own.own))
    (drop l.place l.names)
    ≡ list_all (asked_at (program_of l.own.program) (contract_of l.interface.own) (contract_of l.own.own)) l.names

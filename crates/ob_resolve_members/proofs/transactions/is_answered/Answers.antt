use Rattle.std.proofs.Common.{◌≡◌, false, None, map, sym, ap, ◌∙◌}
use Rattle.std.specs.Prelude.{option_map, option_and_then, slice_get}
use Rattle.std.specs.Option.{option_map_or}
use Rattle.ob_tree.specs.NamesView.{type_of}
use Rattle.ob_tree.specs.MembersView.{formal_of, member_of, contract_of}
use Rattle.ob_resolve_spec.specs.Declarations.{transactions_of, transaction_named}
use Rattle.ob_resolve_scope.specs.Types.{program_of}
use Rattle.ob_resolve_scope.specs.Members.{transaction_of_member}
use Rattle.ob_resolve_members.specs.Asked.{answers_with}
use Rattle.ob_resolve_members.proofs.AskedLemmas.{transaction-numbered}
use Rattle.ob_resolve_members.proofs.transactions.is_answered.Goals as goal

pub returns-in-None : goal.returns-in-None
returns-in-None c =
    let own = contract_of c.args.own.now.own in
    let found : transaction_named own c.args.name.now ≡ None =
    transaction-numbered own c.args.name.now
    ∙ ap (option_and_then (slice_get (transactions_of own))) (sym c.in-None.ensures) in
    ap (λ o. option_map_or (answers_with (program_of c.args.own.now.program) (contract_of c.args.interface.now.own) own
    (map formal_of c.args.asked.now) (option_map type_of c.args.gives.now)) o false)
    (sym found)

pub returns-in-None-transaction_node : goal.returns-in-None-transaction_node
returns-in-None-transaction_node c =
    let own = contract_of c.args.own.now.own in
    let found : transaction_named own c.args.name.now ≡ None =
    transaction-numbered own c.args.name.now
    ∙ ap (option_and_then (slice_get (transactions_of own))) (sym c.in-Some.ensures)
    ∙ sym c.in-None-transaction_node.ensures in
    ap (λ o. option_map_or (answers_with (program_of c.args.own.now.program) (contract_of c.args.interface.now.own) own
    (map formal_of c.args.asked.now) (option_map type_of c.args.gives.now)) o false)
    (sym found)

pub returns-in-Some-transaction_node : goal.returns-in-Some-transaction_node
returns-in-Some-transaction_node c =
    let own = contract_of c.args.own.now.own in
    let member = member_of c.in-Some-transaction_node.member.now in
    let found : transaction_named own c.args.name.now ≡ transaction_of_member member =
    transaction-numbered own c.args.name.now
    ∙ ap (option_and_then (slice_get (transactions_of own))) (sym c.in-Some.ensures)
    ∙ sym c.in-Some-transaction_node.ensures in
    rw found c.answers.ensures

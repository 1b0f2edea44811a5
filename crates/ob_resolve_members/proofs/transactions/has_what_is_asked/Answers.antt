use Rattle.std.proofs.Common.{◌≡◌, map, ap, ◌∙◌, subst}
use Rattle.std.specs.Prelude.{option_map, slice_get, IfOk}
use Rattle.ob_tree.specs.NamesView.{type_of}
use Rattle.ob_tree.specs.MembersView.{formal_of, contract_of}
use Rattle.ob_resolve_spec.specs.Declarations.{transactions_of}
use Rattle.ob_resolve_scope.specs.Types.{program_of}
use Rattle.ob_resolve_scope.specs.Once.{parts_of}
use Rattle.ob_resolve_members.specs.Asked.{has_answer_with}
use Rattle.ob_resolve_members.proofs.OnceLemmas.{asked_there}
use Rattle.ob_resolve_members.proofs.transactions.has_what_is_asked.Goals as goal

pub returns-in-Some : goal.returns-in-Some
returns-in-Some c =
    let program = program_of c.args.own.now.program in
    let interface = contract_of c.args.interface.now.own in
    let own = contract_of c.args.own.now.own in
    let result = option_map type_of c.in-Some.asked.now.result in
    subst (λ b. IfOk c.is_answered.result (λ has. has ≡ b))
    (ap (λ n. has_answer_with program interface own n (map formal_of c.as_slice.result.now) result) c.as_bytes-name.ensures.bytes
    ∙ ap (λ fs. has_answer_with program interface own c.in-Some-Transaction.name.name (map formal_of fs) result) c.as_slice.ensures
    ∙ asked_there program interface own (slice_get (transactions_of interface) c.args.number) (parts_of c.in-Some.asked.now) _
    (rw c.in-Some-Transaction.field-0-is at c.in-Some-Transaction.ensures) c.in-Some.ensures)
    c.is_answered.ensures

use Rattle.std.proofs.Common.{◌+◌, ◌<◌, ◌≤◌, length, drop, sym, ap, ◌∙◌, arith}
use Rattle.std.specs.Prelude.{◌&&◌}
use Rattle.std.specs.List.{list_all}
use Rattle.std.proofs.lemmas.List.{drop_all}
use Rattle.std.proofs.lemmas.Option.{same_Some}
use Rattle.ob_tree.specs.MembersView.{contract_of}
use Rattle.ob_resolve_scope.specs.Types.{program_of}
use Rattle.ob_resolve_scope.proofs.NamesLemmas.{within_turn}
use Rattle.ob_resolve_members.specs.Asked.{asked_at}
use Rattle.ob_resolve_members.proofs.AskedLemmas.{transactions-asked}
use Rattle.ob_resolve_members.proofs.transactions.has_answers.Goals as goal

pub returns-then-not-branch : goal.returns-then-not-branch
returns-then-not-branch c =
    let program = program_of c.args.own.now.program in
    let interface = contract_of c.args.interface.now.own in
    let own = contract_of c.args.own.now.own in
    let names = c.in-Some.members.now.transactions in
    let i = c.loop-place.place in
    let within : i < length names = omega (arith, c.loop-place-test.true, c.len-place-end.ensures) in
    ap (λ b. b && list_all (asked_at program interface own) (drop (i + 1) names))
    (sym c.if-not-branch.true ∙ c.in_ok-has_what_is_asked_at.ensures)
    ∙ sym (within_turn (asked_at program interface own) names i within)
    ∙ c.loop-place.invariant
    ∙ ap (λ m. list_all (asked_at program interface own) m.transactions) (same_Some _ _ c.in-Some.ensures)
    ∙ transactions-asked program interface own

pub loop-place-preserved : goal.loop-place-preserved
loop-place-preserved c =
    let asked = asked_at (program_of c.args.own.now.program) (contract_of c.args.interface.now.own)
    (contract_of c.args.own.now.own) in
    let names = c.in-Some.members.now.transactions in
    let i = c.loop-place.place in
    let within : i < length names = omega (arith, c.loop-place-test.true, c.len-place-end.ensures) in
    ap (λ b. b && list_all asked (drop (i + 1) names))
    (sym c.if-not-branch.false ∙ c.in_ok-has_what_is_asked_at.ensures)
    ∙ sym (within_turn asked names i within)
    ∙ c.loop-place.invariant

pub returns : goal.returns
returns c =
    let program = program_of c.args.own.now.program in
    let interface = contract_of c.args.interface.now.own in
    let own = contract_of c.args.own.now.own in
    let names = c.in-Some.members.now.transactions in
    let i = c.loop-place.place in
    let past : length names ≤ i = omega (arith, c.loop-place-test.false, c.len-place-end.ensures) in
    sym (ap (list_all (asked_at program interface own)) (drop_all i names past))
    ∙ c.loop-place.invariant
    ∙ ap (λ m. list_all (asked_at program interface own) m.transactions) (same_Some _ _ c.in-Some.ensures)
    ∙ transactions-asked program interface own

use Rattle.std.proofs.Common.{◌+◌, ◌++◌, length, map, take, ap, sym, ◌∙◌}
use Rattle.std.specs.Prelude.{flat_map}
use Rattle.ob_tree.specs.MembersView.{contract_of, member_of}
use Rattle.ob_table.specs.StatementsView.{resolved_body_of}
use Rattle.ob_resolve_spec.specs.Declarations.{transactions_of_member}
use Rattle.ob_resolve_scope.specs.Types.{program_of}
use Rattle.ob_resolve_table.specs.Parts.{bodies_from}
use Rattle.ob_resolve_table.proofs.TableLemmas.{bodies_turn, count_turn}
use Rattle.ob_resolve_table.proofs.bodies.add_transaction_bodies.Goals as goal

pub loop-member-preserved : goal.loop-member-preserved
loop-member-preserved c =
    let program = program_of c.args.around.now.program in
    let own = contract_of c.args.around.now.own in
    let xs = c.args.members.now in
    let l = c.loop-member in
    let x = c.member-item.result in
    let old = map resolved_body_of c.args.bodies.now in
    let here = transactions_of_member (member_of x) in
    let before = old ++ bodies_from program own 1 (flat_map transactions_of_member
    (map member_of (take l.member-index xs))) in
    record {
      next = c.in_ok-tx.ensures.next ∙ ap (λ n. n + length here) l.invariant.next
          ∙ sym (count_turn 1 xs l.member-index x c.loop-member-test.true c.member-item.is);
      bodies =
          c.in_ok-tx.ensures.bodies
          ∙ ap (λ bodies. bodies ++ bodies_from program own l.tx here) l.invariant.bodies
          ∙ ap (λ n. before ++ bodies_from program own n here) l.invariant.next
          ∙ sym (bodies_turn program own old 1 xs l.member-index x c.loop-member-test.true c.member-item.is);
    }

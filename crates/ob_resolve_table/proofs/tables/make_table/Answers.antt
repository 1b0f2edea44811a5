use Rattle.std.proofs.Common.{◌<◌, ◌++◌, ◌∷◌, [], map, length, ap, subst, ◌∙◌}
use Rattle.ob_tree.specs.MembersView.{contract_of}
use Rattle.ob_table.specs.StatementsView.{resolved_body_of}
use Rattle.ob_resolve_spec.specs.declared.kind.InferredKind.TheVariants.{Nothing}
use Rattle.ob_resolve_spec.specs.TableOf.{contract_in_table, bodies_of}
use Rattle.ob_resolve_scope.specs.Types.{program_of}
use Rattle.ob_resolve_table.proofs.TableLemmas.{around_at, no_contract, table_turn, all_bodies_turn}
use Rattle.ob_resolve_table.proofs.tables.make_table.Goals as goal
use Rattle.ob_resolve_table.proofs.tables.make_table.Goals.{in-Some+in_ok-add_contract, in_default}

pub loop-number-preserved : goal.loop-number-preserved
loop-number-preserved c =
    let nodes = c.args.declared.now in
    let program = program_of nodes in
    let l = c.loop-number in
    let within = subst (λ k. l.number < k) (c.len-number-end.ensures
    ∙ ap length c.types.ensures) c.loop-number-test.true in
    elim c.match-new.branch [
      | in-Some+in_ok-add_contract w ↦ (
          let around = w.in-Some.around in
          let made = w.in_ok-add_contract.ensures in
          let at = around_at nodes l.number Nothing around w.in-Some.ensures in
          record {
            contracts = table_turn program nodes l.number around.own l.contracts c.match-new.contracts at.1
                l.invariant.contracts (w.contracts-is ∙ made.contracts
                ∙ ap (λ p. l.contracts ++ contract_in_table (program_of p) (contract_of around.own) ∷ []) at.0);
            bodies = all_bodies_turn program nodes l.number around.own (map resolved_body_of l.bodies)
                (map resolved_body_of c.match-new.bodies) at.1 l.invariant.bodies (ap (map resolved_body_of) w.bodies-is
                ∙ made.bodies ∙ ap (λ p. map resolved_body_of l.bodies
                ++ bodies_of (program_of p) (contract_of around.own)) at.0);
          })
      | in_default w ↦ absurd (no_contract nodes l.number Nothing within w.in_default.ensures)
    ]

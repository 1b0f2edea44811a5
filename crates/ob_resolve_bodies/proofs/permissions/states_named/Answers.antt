use Rattle.std.proofs.Common.{arith, ap, sym, ◌∙◌}
use Rattle.ob_tree.specs.MembersView.{contract_of}
use Rattle.ob_perm.specs.Masks.{states_of}
use Rattle.ob_resolve_spec.specs.Declarations.{state_names}
use Rattle.ob_resolve_bodies.proofs.StatesLemmas.{none_named, one_turn, no_turn, small_number, mask_named}
use Rattle.ob_resolve_bodies.proofs.permissions.states_named.Goals as goal
use Rattle.ob_resolve_bodies.proofs.permissions.states_named.Goals.{in-Some, in_default}

pub overflow_cast-number : goal.overflow_cast-number
overflow_cast-number c =
    let small = small_number c.args.node.now c.in_ok-_count._count c.name-item.result.name c.in-Some.number
    c.in_ok-_count.ensures (sym c.state_number.ensures ∙ c.in-Some.is) in
    omega arith

pub only-requires : goal.only-requires
only-requires c = small_number c.args.node.now c.in_ok-_count._count c.name-item.result.name c.in-Some.number
    c.in_ok-_count.ensures (sym c.state_number.ensures ∙ c.in-Some.is)

pub loop-name-init : goal.loop-name-init
loop-name-init c = none_named (state_names (contract_of c.args.node.now))

pub loop-name-preserved : goal.loop-name-preserved
loop-name-preserved c =
    let names = state_names (contract_of c.args.node.now) in
    let i = c.loop-name.name-index in
    elim c.match-state_number.branch [
      | in-Some w ↦ one_turn names c.args.names.now i c.name-item.result w.in-Some.number
          c.loop-name.states w.only.result c.match-state_number.states c.in_ok-_count.ensures.distinct
          c.loop-name-test.true c.name-item.is (sym c.state_number.ensures ∙ w.in-Some.is) c.loop-name.invariant
          w.only.ensures (ap states_of w.states-is ∙ w.union-states.ensures)
      | in_default w ↦ ap states_of w.states-is
          ∙ no_turn names c.args.names.now i c.name-item.result c.loop-name.states c.in_ok-_count.ensures.distinct
          c.loop-name-test.true c.name-item.is (sym c.state_number.ensures ∙ w.in_default.is) c.loop-name.invariant
    ]

pub returns : goal.returns
returns c =
    let few = c.in_ok-_count.ensures.few in
    mask_named (state_names (contract_of c.args.node.now)) c.args.names.now c.loop-name.name-index c.loop-name.states
    (omega (arith, c.in_ok-_count.ensures.counted)) c.loop-name-test.false c.loop-name.invariant

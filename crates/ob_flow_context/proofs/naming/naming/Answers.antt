use Rattle.std.proofs.Common.{◌≤◌, length, map, sym, ap, ◌∙◌, subst}
use Rattle.std.specs.Prelude.{option_map}
use Rattle.std.proofs.lemmas.List.{take_all}
use Rattle.ob_perm.specs.Naming.{IsNaming}
use Rattle.ob_table_spec.specs.Names.{number_of}
use Rattle.ob_flow_context.proofs.NamingLemmas.{is_naming}
use Rattle.ob_flow_context.proofs.naming.naming.Goals as goal

pub returns-clause-few : goal.returns-clause-few
returns-clause-few c =
    let count : length c.args.contract.now.states ≤ c.loop-state.state-index =
    subst (λ xs. length xs ≤ c.loop-state.state-index) c.as_slice-state-items.ensures c.loop-state-test.false in
    let all = take_all c.loop-state.state-index c.args.contract.now.states count in
    let is = c.loop-state.invariant
    ∙ ap (map (λ state. option_map (λ n. record { 0 = n }) (number_of state c.args.interface.now.states))) all in
    subst IsNaming (sym is) (is_naming c.args.interface.now c.args.contract.now c.requires.interface c.requires.contract)

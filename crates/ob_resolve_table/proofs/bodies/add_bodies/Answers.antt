use Rattle.std.proofs.Common.{◌≡◌, ◌++◌, map, ap, sym, ◌∙◌, subst}
use Rattle.std.specs.Prelude.{flat_map, OnOk}
use Rattle.ob_tree.specs.MembersView.{contract_of, member_of}
use Rattle.ob_table.specs.StatementsView.{resolved_body_of}
use Rattle.ob_resolve_spec.specs.Declarations.{transactions_of_member}
use Rattle.ob_resolve_scope.specs.Types.{program_of}
use Rattle.ob_resolve_table.specs.Parts.{bodies_from}
use Rattle.ob_resolve_table.proofs.TableLemmas.{bodies_made}
use Rattle.ob_resolve_table.proofs.bodies.add_bodies.Goals as goal

pub returns : goal.returns
returns c =
    let program = program_of c.args.around.now.program in
    let own = c.args.around.now.own in
    let members = c.as_slice.result.now in
    let object = ap (λ node. node.interface) (sym c.node-node.ensures) ∙ c.if-node.false in
    let is = c.as_slice.ensures ∙ ap (λ node. node.members) c.node-node.ensures in
    let made = ap (λ bodies. map resolved_body_of bodies
    ++ bodies_from program (contract_of own) 1 (flat_map transactions_of_member (map member_of members)))
    c.in_ok-push.ensures.ok ∙ bodies_made program own c.args.bodies.now c.in_ok-constructor_body.field-0 members
    object is c.in_ok-constructor_body.ensures in
    subst (λ bodies. OnOk c.add_transaction_bodies.result (map resolved_body_of c.add_transaction_bodies.new.bodies
    ≡ bodies)) made c.add_transaction_bodies.ensures

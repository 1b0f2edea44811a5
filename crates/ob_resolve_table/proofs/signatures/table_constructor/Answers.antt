use Rattle.std.proofs.Common.{◌≡◌, subst}
use Rattle.std.specs.Prelude.{IfOk}
use Rattle.ob_tree.specs.MembersView.{contract_of}
use Rattle.ob_resolve_spec.specs.TableOf.{constructor_in_table}
use Rattle.ob_resolve_scope.specs.Types.{program_of}
use Rattle.ob_resolve_table.specs.Parts.{constructor_written}
use Rattle.ob_resolve_table.proofs.TableLemmas.{constructor_found}
use Rattle.ob_resolve_table.proofs.signatures.table_constructor.Goals as goal

pub returns-in-Some : goal.returns-in-Some
returns-in-Some c =
    let program = program_of c.args.around.now.program in
    let own = contract_of c.args.around.now.own in
    subst (λ m. IfOk c.constructor_with.result (λ s. s ≡ constructor_in_table program own m))
    (constructor_found own (constructor_written c.in-Some.written) c.in-Some.ensures) c.constructor_with.ensures

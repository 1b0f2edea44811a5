use Rattle.ob_tree.specs.MembersView.{contract_of}
use Rattle.ob_resolve_spec.specs.Declarations.{state_names}
use Rattle.ob_resolve_table.proofs.TableLemmas.{always_available}
use Rattle.ob_resolve_table.proofs.fields.available_in.Goals as goal

pub returns-in-empty : goal.returns-in-empty
returns-in-empty c =
    always_available (state_names (contract_of c.args.around.now.own)) c.args.states.now c.anywhere.result
    c.in-empty.len_below c.anywhere.ensures

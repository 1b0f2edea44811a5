use Rattle.std.proofs.Common.{◌≡◌, true, false, Some, None, sym, ap, ◌∙◌}
use Rattle.std.specs.Prelude.{option_map, Option}
use Rattle.std.specs.List.{list_any}
use Rattle.ob_base.specs.Optional.{◌>>=◌}
use Rattle.ob_base.specs.declared.id.ContractId.{ContractId}
use Rattle.ob_heap.specs.Contents.{content_of}
use Rattle.ob_invocation_spec.specs.Entries.{entry_of_new}
use Rattle.ob_invocation_spec.specs.Refusals.{new_checks, entry_checks}
use Rattle.ob_code_table.specs.ImageTables.{table_of_image}
use Rattle.ob_table.specs.Tables.{contract_named}
use Rattle.ob_wire.specs.Refusals.{refusal_told}
use Rattle.ob_exec_entries.specs.Arguments.{names_no_handle}
use Rattle.ob_exec_entries.specs.Entering.{EntersSo, IsRefusedBy}
use Rattle.ob_exec_entries.specs.Targets.{made_by}
use Rattle.ob_exec_entries.proofs.CheckLemmas.{enters_alike, refused_alike}
use Rattle.ob_exec_entries.proofs.EnteringLemmas.{new_asked, is_other, new_lost, new_unnamed, new_other, new_entered}
use Rattle.ob_exec_entries.proofs.FindingLemmas.{new_found}
use Rattle.ob_exec_entries.proofs.ResultLemmas.{all_ok, all_err}
use Rattle.ob_exec_entries.proofs.entering.enter_new.Goals as goal

pub returns-then-lack_handle-clause-refused : goal.returns-then-lack_handle-clause-refused
returns-then-lack_handle-clause-refused c =
    let content = content_of c.args.content.now in
    let who = c.args.who.now in
    let lost : list_any (names_no_handle content who) c.args.args.now ≡ true =
    sym (c.lack_handle.ensures ∙ ap (list_any (names_no_handle content who)) c.as_slice.ensures) ∙ c.if-lack_handle.true in
    ap (option_map refusal_told) (new_lost (table_of_image c.args.code.now) content who c.args.contract.now c.args.args.now c.args.into.now lost)

pub returns-in_default-clause-refused : goal.returns-in_default-clause-refused
returns-in_default-clause-refused c =
    let table = table_of_image c.args.code.now in
    let content = content_of c.args.content.now in
    let who = c.args.who.now in
    let name = c.args.contract.now in
    let there : list_any (names_no_handle content who) c.args.args.now ≡ false =
    sym (c.lack_handle.ensures ∙ ap (list_any (names_no_handle content who)) c.as_slice.ensures) ∙ c.if-lack_handle.false in
    let none : contract_named table.contracts name ≡ None = sym (c.requires.contract name) ∙ sym c.contract.ensures ∙ c.in_default.is in
    ap (option_map refusal_told) (new_unnamed table content who name c.args.args.now c.args.into.now there none)

pub returns-then-is_other_contract-clause-refused : goal.returns-then-is_other_contract-clause-refused
returns-then-is_other_contract-clause-refused c =
    let table = table_of_image c.args.code.now in
    let content = content_of c.args.content.now in
    let who = c.args.who.now in
    let name = c.args.contract.now in
    let there : list_any (names_no_handle content who) c.args.args.now ≡ false =
    sym (c.lack_handle.ensures ∙ ap (list_any (names_no_handle content who)) c.as_slice.ensures) ∙ c.if-lack_handle.false in
    let named : contract_named table.contracts name ≡ Some c.in-Some.id = sym (c.requires.contract name) ∙ sym c.contract.ensures ∙ c.in-Some.is in
    let other : is_other table c.in-Some.id ≡ true = sym c.is_other_contract.ensures ∙ c.if-is_other_contract.true in
    ap (option_map refusal_told) (new_other table content who name c.args.args.now c.args.into.now c.in-Some.id there named other)

pub returns-in-Some-find_new-clause-entered : goal.returns-in-Some-find_new-clause-entered
returns-in-Some-find_new-clause-entered c =
    let table = table_of_image c.args.code.now in
    let content = content_of c.args.content.now in
    let who = c.args.who.now in
    let name = c.args.contract.now in
    let r = new_asked name c.args.args.now c.args.into.now in
    let t = c.in-Some-find_new.target in
    let there : list_any (names_no_handle content who) c.args.args.now ≡ false =
    sym (c.lack_handle.ensures ∙ ap (list_any (names_no_handle content who)) c.as_slice.ensures) ∙ c.if-lack_handle.false in
    let named : contract_named table.contracts name ≡ Some c.in-Some.id = sym (c.requires.contract name) ∙ sym c.contract.ensures ∙ c.in-Some.is in
    let main : is_other table c.in-Some.id ≡ false = sym c.is_other_contract.ensures ∙ c.if-is_other_contract.false in
    let found : entry_of_new table who r ≡ Some t =
    new_found c.args.code.now c.args.names.now who name c.args.args.now c.args.into.now c.requires
    ∙ ap (λ (o : Option ContractId). o >>= λ id. made_by table who id c.args.args.now c.args.into.now) (sym c.contract.ensures ∙ c.in-Some.is)
    ∙ sym c.in-Some-find_new.ensures.found in
    all_ok (EntersSo content (entry_checks table content t) (Some t) t.who) (EntersSo content (new_checks table content who r) (entry_of_new table who r) who) c.enter.result
    (λ entered h. enters_alike content (entry_checks table content t) (new_checks table content who r) (Some t) (entry_of_new table who r) t.who who entered
    (new_entered table content who name c.args.args.now c.args.into.now c.in-Some.id t there named main found) found (sym c.in-Some-find_new.ensures.who) h)
    c.enter.ensures.entered

pub returns-in-Some-find_new-clause-refused : goal.returns-in-Some-find_new-clause-refused
returns-in-Some-find_new-clause-refused c =
    let table = table_of_image c.args.code.now in
    let content = content_of c.args.content.now in
    let who = c.args.who.now in
    let name = c.args.contract.now in
    let r = new_asked name c.args.args.now c.args.into.now in
    let t = c.in-Some-find_new.target in
    let there : list_any (names_no_handle content who) c.args.args.now ≡ false =
    sym (c.lack_handle.ensures ∙ ap (list_any (names_no_handle content who)) c.as_slice.ensures) ∙ c.if-lack_handle.false in
    let named : contract_named table.contracts name ≡ Some c.in-Some.id = sym (c.requires.contract name) ∙ sym c.contract.ensures ∙ c.in-Some.is in
    let main : is_other table c.in-Some.id ≡ false = sym c.is_other_contract.ensures ∙ c.if-is_other_contract.false in
    let found : entry_of_new table who r ≡ Some t =
    new_found c.args.code.now c.args.names.now who name c.args.args.now c.args.into.now c.requires
    ∙ ap (λ (o : Option ContractId). o >>= λ id. made_by table who id c.args.args.now c.args.into.now) (sym c.contract.ensures ∙ c.in-Some.is)
    ∙ sym c.in-Some-find_new.ensures.found in
    all_err (IsRefusedBy (entry_checks table content t)) (IsRefusedBy (new_checks table content who r)) c.enter.result
    (λ e h. refused_alike (entry_checks table content t) (new_checks table content who r) e
    (new_entered table content who name c.args.args.now c.args.into.now c.in-Some.id t there named main found) h)
    c.enter.ensures.refused

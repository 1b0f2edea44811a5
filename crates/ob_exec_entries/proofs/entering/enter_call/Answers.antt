use Rattle.std.proofs.Common.{◌≡◌, true, false, Some, sym, ap, ◌∙◌}
use Rattle.std.specs.Prelude.{option_map}
use Rattle.ob_heap.specs.Contents.{content_of}
use Rattle.ob_invocation_spec.specs.Entries.{entry_of_call}
use Rattle.ob_invocation_spec.specs.Refusals.{call_checks, entry_checks}
use Rattle.ob_code_table.specs.ImageTables.{table_of_image}
use Rattle.ob_wire.specs.Refusals.{refusal_told}
use Rattle.ob_exec_entries.specs.Entering.{EntersSo, IsRefusedBy}
use Rattle.ob_exec_entries.proofs.CheckLemmas.{enters_alike, refused_alike}
use Rattle.ob_exec_entries.proofs.EnteringLemmas.{call_asked, lacks_handles, call_lost, call_nothing, call_entered}
use Rattle.ob_exec_entries.proofs.ResultLemmas.{all_ok, all_err}
use Rattle.ob_exec_entries.proofs.entering.enter_call.Goals as goal

pub returns-then-lack_handles-clause-refused : goal.returns-then-lack_handles-clause-refused
returns-then-lack_handles-clause-refused c =
    let content = content_of c.args.content.now in
    let lost : lacks_handles content c.args.who.now c.args.on.now c.args.args.now ≡ true =
    sym (c.lack_handles.ensures ∙ ap (lacks_handles content c.args.who.now c.args.on.now) c.as_slice.ensures) ∙ c.if-lack_handles.true in
    ap (option_map refusal_told)
    (call_lost (table_of_image c.args.code.now) content c.args.who.now c.args.on.now c.args.tx.now c.args.args.now c.args.into.now lost)

pub returns-in-Some-clause-entered : goal.returns-in-Some-clause-entered
returns-in-Some-clause-entered c =
    let table = table_of_image c.args.code.now in
    let content = content_of c.args.content.now in
    let who = c.args.who.now in
    let r = call_asked c.args.on.now c.args.tx.now c.args.args.now c.args.into.now in
    let t = c.in-Some.target in
    let there : lacks_handles content who c.args.on.now c.args.args.now ≡ false =
    sym (c.lack_handles.ensures ∙ ap (lacks_handles content who c.args.on.now) c.as_slice.ensures) ∙ c.if-lack_handles.false in
    let found : entry_of_call table content who r ≡ Some t = sym c.in-Some.ensures.found in
    all_ok (EntersSo content (entry_checks table content t) (Some t) t.who) (EntersSo content (call_checks table content who r) (entry_of_call table content who r) who) c.enter.result
    (λ entered h. enters_alike content (entry_checks table content t) (call_checks table content who r) (Some t) (entry_of_call table content who r) t.who who entered
    (call_entered table content who c.args.on.now c.args.tx.now c.args.args.now c.args.into.now t there found) found (sym c.in-Some.ensures.who) h)
    c.enter.ensures.entered

pub returns-in-Some-clause-refused : goal.returns-in-Some-clause-refused
returns-in-Some-clause-refused c =
    let table = table_of_image c.args.code.now in
    let content = content_of c.args.content.now in
    let who = c.args.who.now in
    let r = call_asked c.args.on.now c.args.tx.now c.args.args.now c.args.into.now in
    let t = c.in-Some.target in
    let there : lacks_handles content who c.args.on.now c.args.args.now ≡ false =
    sym (c.lack_handles.ensures ∙ ap (lacks_handles content who c.args.on.now) c.as_slice.ensures) ∙ c.if-lack_handles.false in
    let found : entry_of_call table content who r ≡ Some t = sym c.in-Some.ensures.found in
    all_err (IsRefusedBy (entry_checks table content t)) (IsRefusedBy (call_checks table content who r)) c.enter.result
    (λ e h. refused_alike (entry_checks table content t) (call_checks table content who r) e
    (call_entered table content who c.args.on.now c.args.tx.now c.args.args.now c.args.into.now t there found) h)
    c.enter.ensures.refused

pub returns-in-None-clause-refused : goal.returns-in-None-clause-refused
returns-in-None-clause-refused c =
    let content = content_of c.args.content.now in
    let there : lacks_handles content c.args.who.now c.args.on.now c.args.args.now ≡ false =
    sym (c.lack_handles.ensures ∙ ap (lacks_handles content c.args.who.now c.args.on.now) c.as_slice.ensures) ∙ c.if-lack_handles.false in
    ap (option_map refusal_told)
    (call_nothing (table_of_image c.args.code.now) content c.args.who.now c.args.on.now c.args.tx.now c.args.args.now c.args.into.now there (sym c.in-None.ensures.found))

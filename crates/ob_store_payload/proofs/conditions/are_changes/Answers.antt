use Rattle.std.proofs.Common.{◌∙◌, length, sym, ap, subst, true≢false}
use Rattle.ob_heap.specs.Deltas.{AreNext}
use Rattle.ob_heap.specs.Differences.{with_objects}
use Rattle.ob_code_table.specs.ImageTables.{table_of_image}
use Rattle.ob_store_laws.proofs.Deltas.{deltas_say_changes}
use Rattle.ob_store_payload.proofs.ConditionLemmas.{Ascend}
use Rattle.ob_store_payload.proofs.ChangesLemmas.{is_delta_of, they_follow, they_may_be_said}
use Rattle.ob_store_payload.proofs.conditions.are_changes.Goals as goal

pub returns-in-Some-clause-yes : goal.returns-in-Some-clause-yes
returns-in-Some-clause-yes c says =
    let table = table_of_image c.args.code.now in
    deltas_say_changes table c.args.content.now c.args.delta.now
    (is_delta_of table c.args.content.now c.args.delta.now c.requires.values c.as_slice.result.now c.in-Some.count c.may_be_said.result c.as_slice.ensures c.in-Some.ensures
    c.may_be_said.ensures says)

pub returns-in-Some-clause-no : goal.returns-in-Some-clause-no
returns-in-Some-clause-no c refuses are =
    let table = table_of_image c.args.code.now in
    let base = c.args.content.now in
    let counted = c.in-Some.ensures.2 ∙ ap (λ l. length (with_objects base.objects l)) c.as_slice.ensures in
    true≢false (sym (they_may_be_said table base c.args.delta.now c.requires.values are c.in-Some.count counted) ∙ sym c.may_be_said.ensures ∙ refuses)

pub returns-in-Some-clause-delta : goal.returns-in-Some-clause-delta
returns-in-Some-clause-delta c says =
    (is_delta_of (table_of_image c.args.code.now) c.args.content.now c.args.delta.now c.requires.values c.as_slice.result.now c.in-Some.count c.may_be_said.result c.as_slice.ensures
    c.in-Some.ensures c.may_be_said.ensures says).is_delta

pub returns-in-Some-clause-objects : goal.returns-in-Some-clause-objects
returns-in-Some-clause-objects c says =
    (is_delta_of (table_of_image c.args.code.now) c.args.content.now c.args.delta.now c.requires.values c.as_slice.result.now c.in-Some.count c.may_be_said.result c.as_slice.ensures
    c.in-Some.ensures c.may_be_said.ensures says).objects

pub returns-in-None-clause-no : goal.returns-in-None-clause-no
returns-in-None-clause-no c refuses are =
    let base = c.args.content.now in
    let follow = they_follow (table_of_image c.args.code.now) base c.args.delta.now c.requires.values are in
    c.in-None.ensures (subst (λ l. Ascend l × AreNext (length base.objects) l) (sym c.as_slice.ensures) follow)

use Rattle.std.proofs.Common.{◌≡◌, ◌∙◌, map, Some, None, sym, subst}
use Rattle.std.specs.Prelude.{not, filter}
use Rattle.ob_heap.specs.Contents.{content_of}
use Rattle.ob_code_table.specs.ImageTables.{table_of_image}
use Rattle.ob_store_laws.specs.Recorded.{object_change, handle_change, news_of, content_with}
use Rattle.ob_store_spec.specs.Payloads.{object, handle}
use Rattle.ob_store_spec.specs.Between.{is_stored_so, is_held_so, changes_between}
use Rattle.ob_store_laws.proofs.News.{news_are_differences}
use Rattle.ob_store_payload.specs.Rows.{AreRows}
use Rattle.ob_store_payload.specs.Writing.{IsPayload}
use Rattle.ob_store_payload.proofs.PayloadLemmas.{says_nothing, says_so}
use Rattle.ob_store_payload.proofs.writing.put_payload.Goals as goal

pub returns-then-are_empty : goal.returns-then-are_empty
returns-then-are_empty c =
    let table = table_of_image c.args.code.now in
    let base = c.args.content.now in
    let delta = c.args.delta.now in
    let law : news_of table base delta ≡ changes_between table (content_of base) (content_with base delta) = news_are_differences table base delta c.requires.content c.requires.delta in
    let objects = subst (λ l. AreRows (object table).bytes (filter (λ o. not (is_stored_so table (content_of base).objects o)) (map (object_change table) l)) c.in_ok-objects.objects) c.as_slice.ensures c.in_ok-objects.ensures in
    let handles = subst (λ l. AreRows handle.bytes (filter (λ h. not (is_held_so (content_of base) h)) (map handle_change l)) c.in_ok-handles.handles) c.as_slice-2.ensures c.in_ok-handles.ensures in
    subst (λ changes. IsPayload table changes None) law (says_nothing table (news_of table base delta) c.in_ok-objects.objects c.in_ok-handles.handles objects handles (sym c.are_empty.ensures ∙ c.if-are_empty.true))

pub returns : goal.returns
returns c =
    let table = table_of_image c.args.code.now in
    let base = c.args.content.now in
    let delta = c.args.delta.now in
    let law : news_of table base delta ≡ changes_between table (content_of base) (content_with base delta) = news_are_differences table base delta c.requires.content c.requires.delta in
    let objects = subst (λ l. AreRows (object table).bytes (filter (λ o. not (is_stored_so table (content_of base).objects o)) (map (object_change table) l)) c.in_ok-objects.objects) c.as_slice.ensures c.in_ok-objects.ensures in
    let handles = subst (λ l. AreRows handle.bytes (filter (λ h. not (is_held_so (content_of base) h)) (map handle_change l)) c.in_ok-handles.handles) c.as_slice-2.ensures c.in_ok-handles.ensures in
    subst (λ changes. IsPayload table changes (Some c.put-2.new.out)) law
    (says_so table (news_of table base delta) c.in_ok-objects.objects c.in_ok-handles.handles objects handles c.new-bytes.result c.put.new.out c.put-2.new.out (sym c.are_empty.ensures ∙ c.if-are_empty.false)
    c.new-bytes.ensures.items c.in_ok-put.ensures c.in_ok-put-2.ensures)

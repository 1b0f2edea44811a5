use Rattle.std.proofs.Common.{◌∙◌, sym, ap, refl}
use Rattle.std.specs.Prelude.{not}
use Rattle.ob_heap.specs.Contents.{content_of}
use Rattle.ob_code_table.specs.ImageTables.{table_of_image}
use Rattle.ob_store_laws.specs.Recorded.{object_change}
use Rattle.ob_store_spec.specs.Payloads.{StoredObject, object}
use Rattle.ob_store_spec.specs.Between.{is_stored_so}
use Rattle.ob_store_payload.proofs.RowLemmas.{row_left, row_added}
use Rattle.ob_store_payload.proofs.writing.add_object.Goals as goal

pub returns-then-branch : goal.returns-then-branch
returns-then-branch c =
    let table = table_of_image c.args.code.now in
    let o : StoredObject = object_change table (c.args.id, c.args.object.now) in
    let so = sym (c.in_ok-is_stored_so.ensures o refl (c.as_slice.ensures.value ∙ c.in_ok-bytes.ensures)) ∙ c.if-branch.true in
    row_left (object table).bytes (λ x. not (is_stored_so table (content_of c.args.content.now).objects x)) o c.args.rows.now (ap not so)

pub returns : goal.returns
returns c =
    let table = table_of_image c.args.code.now in
    let o : StoredObject = object_change table (c.args.id, c.args.object.now) in
    let so = sym (c.in_ok-is_stored_so.ensures o refl (c.as_slice.ensures.value ∙ c.in_ok-bytes.ensures)) ∙ c.if-branch.false in
    row_added (object table).bytes (λ x. not (is_stored_so table (content_of c.args.content.now).objects x)) o c.as_slice-2.result.now c.args.rows.now c.add.new.self (ap not so)
    (c.as_slice-2.ensures.value ∙ c.in_ok-bytes.ensures) c.in_ok-add.ensures

use Rattle.std.proofs.Common.{◌∙◌, ◌++◌, sym, ap}
use Rattle.std.specs.Prelude.{not, option_map}
use Rattle.ob_format_spec.specs.Texts.{text}
use Rattle.ob_heap.specs.Contents.{content_of}
use Rattle.ob_heap.specs.Plain.{handle_of}
use Rattle.ob_store_laws.specs.Recorded.{handle_change}
use Rattle.ob_store_spec.specs.Payloads.{handle}
use Rattle.ob_store_spec.specs.Between.{is_held_so}
use Rattle.ob_store_payload.proofs.RowLemmas.{row_left, row_added}
use Rattle.ob_store_payload.proofs.writing.add_handle.Goals as goal

pub returns-then-branch : goal.returns-then-branch
returns-then-branch c =
    let h = handle_change (c.args.name.now, c.args.value) in
    let so = sym (c.in_ok-is_held_so.ensures (option_map handle_of c.args.value) (c.as_slice.ensures.value ∙ c.in_ok-held.ensures)) ∙ c.if-branch.true in
    row_left handle.bytes (λ x. not (is_held_so (content_of c.args.content.now) x)) h c.args.rows.now (ap not so)

pub returns : goal.returns
unfolding handle
returns c =
    let h = handle_change (c.args.name.now, c.args.value) in
    let so = sym (c.in_ok-is_held_so.ensures (option_map handle_of c.args.value) (c.as_slice.ensures.value ∙ c.in_ok-held.ensures)) ∙ c.if-branch.false in
    row_added handle.bytes (λ x. not (is_held_so (content_of c.args.content.now) x)) h c.as_slice-3.result.now c.args.rows.now c.add.new.self (ap not so)
    (c.as_slice-3.ensures.value ∙ c.in_ok-row.ensures ∙ ap (λ l. text.bytes c.args.name.now.0 ++ (text.bytes c.args.name.now.1 ++ l)) (c.as_slice-2.ensures.value ∙ c.in_ok-held.ensures)) c.in_ok-add.ensures

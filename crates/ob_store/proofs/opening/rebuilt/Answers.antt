use Rattle.std.proofs.Common.{◌≡◌, ◌∙◌, sym}
use Rattle.std.proofs.lemmas.Result.{err_from_is_err_and}
use Rattle.ob_code.specs.Images.{image}
use Rattle.ob_code_table.specs.ImageTables.{table_of_image}
use Rattle.ob_heap.specs.Contents.{content_of}
use Rattle.ob_journal.specs.Journals.{image_of}
use Rattle.ob_store.specs.Stores.{program_of}
use Rattle.ob_store.proofs.Opened.{differ_so, not_rebuilt, few_kept, rests_kept, rebuilt_by, fails_first}
use Rattle.ob_store.proofs.opening.rebuilt.Goals as goal

pub returns-in-Some : goal.returns-in-Some
returns-in-Some c = λ payloads has.
    differ_so c.in-Some.offset c.image.result.now c.as_slice.result.now (image_of c.args.journal) (image.bytes c.args.code.now) (c.image.ensures payloads) (c.as_slice.ensures.value ∙ c.in-Ok.ensures.is) c.in-Some.ensures

pub returns-in_err-content : goal.returns-in_err-content
returns-in_err-content c = λ payloads has.
    let failed = err_from_is_err_and c.from_residual.result c.from_residual.ensures.1 in
    let same : image_of c.args.journal ≡ image.bytes c.args.code.now = sym (c.image.ensures payloads) ∙ c.in_default-first_difference.ensures ∙ c.as_slice.ensures.value ∙ c.in-Ok.ensures.is in
    rw (failed.1, failed.2) (not_rebuilt (program_of c.args.code.now) c.args.journal payloads c.replayed.result _ c.in_err-content.was (c.replayed.ensures.replayed payloads has) same)

pub check_at_rest-requires : goal.check_at_rest-requires
check_at_rest-requires c = few_kept (table_of_image c.args.code.now) c.in_ok-content.content c.in_ok-content.ensures.kept

pub returns-in-Ok-check_at_rest : goal.returns-in-Ok-check_at_rest
returns-in-Ok-check_at_rest c = λ payloads has.
    let table = table_of_image c.args.code.now in
    let same : image_of c.args.journal ≡ image.bytes c.args.code.now = sym (c.image.ensures payloads) ∙ c.in_default-first_difference.ensures ∙ c.as_slice.ensures.value ∙ c.in-Ok.ensures.is in
    rebuilt_by (program_of c.args.code.now) c.args.journal payloads c.in_ok-content.content c.kept_in.result c.kept_in.ensures
    (record { image = same; content_is = c.in_ok-content.ensures.replayed payloads has })
    (rests_kept table c.in_ok-content.content c.in_ok-content.ensures.kept c.in-Ok-check_at_rest.ensures.store)

pub returns-in-Err-NotAtRest : goal.returns-in-Err-NotAtRest
returns-in-Err-NotAtRest c = λ payloads has.
    let same : image_of c.args.journal ≡ image.bytes c.args.code.now = sym (c.image.ensures payloads) ∙ c.in_default-first_difference.ensures ∙ c.as_slice.ensures.value ∙ c.in-Ok.ensures.is in
    record {
      content = content_of c.in_ok-content.content;
      kept = record { image = same; content_is = c.in_ok-content.ensures.replayed payloads has };
      fails = rw c.in-Err-NotAtRest.field-0-is (fails_first (table_of_image c.args.code.now) (content_of c.in_ok-content.content) c.in-Err-NotAtRest.field-0 c.in-Err-NotAtRest.id c.in-Err-NotAtRest.field-0-is c.in-Err-NotAtRest.ensures.answer);
    }

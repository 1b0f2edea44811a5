use Rattle.std.proofs.Common.{◌≡◌, ◌∙◌, Err, sym}
use Rattle.std.specs.Prelude.{ℕ, List}
use Rattle.std.specs.Borrow.{Bor}
use Rattle.std.proofs.lemmas.Result.{err_from_is_err_and}
use Rattle.ob_heap.specs.declared.delta.Delta.{Delta}
use Rattle.ob_format_spec.proofs.Failing.{are_bytes}
use Rattle.ob_heap.specs.Contents.{content_of}
use Rattle.ob_code_table.specs.ImageTables.{table_of_image}
use Rattle.ob_store_laws.specs.Recorded.{changes_of}
use Rattle.ob_store_payload.specs.declared.error.PayloadError.TheVariants.{Bad}
use Rattle.ob_store_payload.proofs.ReadingLemmas.{says, none_with_more, none_unsaid, none_read}
use Rattle.ob_store_payload.proofs.reading_payload.read_payload.Goals as goal
use Rattle.ob_store_payload.proofs.reading_payload.read_payload.Goals.{then-not-is_empty-via-then-not-is_empty, then-not-is_empty-via-else-not-is_empty+then-not-are_changes}

pub returns-in_err-found-clause-bad : goal.returns-in_err-found-clause-bad
returns-in_err-found-clause-bad c is =
    let table = table_of_image c.args.code.now in
    let given = err_from_is_err_and c.from_residual.result c.from_residual.ensures.1 in
    let bad : Err given.0 ≡ Err Bad = sym given.1 ∙ is in
    none_read table (content_of c.args.content.now) c.args.bytes.now (λ (x : Delta × Bor (List ℕ)). changes_of table x.0) c.in_err-found.field-0.0 c.in_err-found.ensures.read (sym given.2 ∙ cc)

pub returns-then-not-is_empty-clause-bad : goal.returns-then-not-is_empty-clause-bad
returns-then-not-is_empty-clause-bad c is =
    let table = table_of_image c.args.code.now in
    let base = content_of c.args.content.now in
    let found = changes_of table c.in_ok-found.found in
    elim c.then-not-is_empty.branch [
      | then-not-is_empty-via-then-not-is_empty w ↦ none_with_more table base c.args.bytes.now found c.in_ok-found.rest.now (sym c.is_empty.ensures ∙ w.if-not-is_empty.true) c.in_ok-found.ensures.read
      | then-not-is_empty-via-else-not-is_empty+then-not-are_changes w ↦ none_unsaid table base c.args.bytes.now found c.in_ok-found.rest.now c.in_ok-found.ensures.read (w.are_changes.ensures.no w.if-not-are_changes.true)
    ]

pub returns-clause-says : goal.returns-clause-says
returns-clause-says c =
    let table = table_of_image c.args.code.now in
    says table (content_of c.args.content.now) c.args.bytes.now (are_bytes c.args.bytes.now (λ i. (c.type_inv.bytes i).fits)) (changes_of table c.in_ok-found.found) c.in_ok-found.rest.now
    (sym c.is_empty.ensures ∙ c.if-not-is_empty.false) c.in_ok-found.ensures.read (c.are_changes.ensures.yes c.if-not-are_changes.false)

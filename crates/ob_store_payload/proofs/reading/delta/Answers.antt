use Rattle.std.proofs.Common.{rules, List, map, All, Option, Err}
use Rattle.ob_format_spec.specs.Combinators.{counted}
use Rattle.ob_heap_spec.specs.Contents.{HandleName, Handle}
use Rattle.ob_code_table.specs.ImageTables.{table_of_image}
use Rattle.ob_store_laws.specs.Recorded.{object_change, handle_change, changes_of}
use Rattle.ob_store_spec.specs.Payloads.{StoredObject, Changes, object, handle, payload}
use Rattle.ob_store_payload.specs.Answering.{AnswersOnly, IsLabelled}
use Rattle.ob_store_payload.specs.declared.error.PayloadError.{PayloadError}
use Rattle.ob_store_payload.proofs.OnlyLemmas.{mapped_only, second_only}
use Rattle.ob_store_payload.proofs.reading.delta.Goals as goal

-- changes by their parts
abbrev of_parts : List StoredObject × List (HandleName × Option Handle) → Changes
of_parts p = record { objects = p.0; handles = p.1 }

pub returns-in_err-handles-clause-read : goal.returns-in_err-handles-clause-read
unfolding payload
returns-in_err-handles-clause-read c =
    let table = table_of_image c.args.code.now in
    let only : (e : PayloadError) → AnswersOnly (map handle_change) (All IsLabelled) (Err e) ((counted handle).read c.in_ok-objects.rest.now)
    → AnswersOnly (changes_of table) (λ x. All IsLabelled x.handles) (Err e) ((payload table).read c.args.bytes.now) =
    λ e h. mapped_only (changes_of table) (λ x. All IsLabelled x.handles) of_parts e _
    (second_only (λ p. All IsLabelled p.1) e ((counted (object table)).read c.args.bytes.now) (λ objects. (counted handle).read) (map handle_change) (All IsLabelled)
    (map (object_change table) c.in_ok-objects.objects) c.in_ok-objects.rest.now (λ y named. named) c.in_ok-objects.ensures.read h) in
    search (rules, only)

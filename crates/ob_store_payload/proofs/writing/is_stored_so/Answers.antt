use Rattle.std.proofs.Common.{◌∙◌, sym, ap, refl}
use Rattle.std.specs.Option.{option_copied}
use Rattle.std.specs.Str.{bytes_eq}
use Rattle.ob_code_table.specs.ImageTables.{table_of_image}
use Rattle.ob_store_payload.proofs.ValueLemmas.{stored_there, stored_missing}
use Rattle.ob_store_payload.proofs.writing.is_stored_so.Goals as goal

pub returns-in_ok-stored-in-Some : goal.returns-in_ok-stored-in-Some
returns-in_ok-stored-in-Some c =
    stored_there (table_of_image c.args.code.now) c.args.content.now c.args.id.0 c.args.bytes.now c.are_same.result c.in-Some.before.now c.in_ok-stored-in-Some.stored.items
    (sym c.object.ensures ∙ ap option_copied c.in-Some.is) c.in_ok-stored-in-Some.ensures (c.are_same.ensures ∙ ap (λ l. bytes_eq l c.args.bytes.now) c.as_slice.ensures.value)

pub returns-in-None : goal.returns-in-None
returns-in-None c =
    stored_missing (table_of_image c.args.code.now) c.args.content.now c.args.id.0 c.args.bytes.now _ (sym c.object.ensures ∙ ap option_copied c.in-None.is) refl

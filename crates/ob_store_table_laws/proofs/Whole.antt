-- A store by a class table without names is one by the class table, and the other way round.
use Rattle.std.proofs.Common.{◌≡◌, ◌∙◌, ℕ, List, Option, Some, None, refl, sym, ap, subst}
use Rattle.std.specs.Prelude.{Result, Ok, if◌then◌else◌}
use Rattle.ob_table.specs.Tables.{ClassTable}
use Rattle.ob_heap_spec.specs.Contents.{Content}
use Rattle.ob_format_spec.specs.Formats.{Format}
use Rattle.ob_emit_laws.specs.Names.{without_names}
use Rattle.ob_store_spec.specs.Payloads.{Changes, payload}
use Rattle.ob_store_spec.specs.Between.{changes_between, all_of}
use Rattle.ob_store_spec.specs.Settling.{say_nothing, recorded, settled}
use Rattle.ob_store_spec.specs.Stores.{StoreState}
use Rattle.ob_store_table_laws.specs.Laws.{IsSpelledAlike}
use Rattle.ob_store_table_laws.proofs.Unnamed.{made_unnamed, changes_unnamed, payload_unnamed, differences_unnamed, all_unnamed, object_is_named, object_is_unnamed}
use Rattle.ob_store_table_laws.proofs.Failing.{failing_unnamed, first_unnamed}
use Rattle.ob_store_table_laws.proofs.Following.{Follows}

pub named : (table : ClassTable) → Follows (without_names table) table
named table = record {
  objects = object_is_named table;
  made = made_unnamed table;
  leads = changes_unnamed table;
  payloads = payload_unnamed table;
  failing = failing_unnamed table;
  first = first_unnamed table;
}

pub unnamed : (table : ClassTable) → Follows table (without_names table)
unnamed table = record {
  objects = object_is_unnamed table;
  made = sym (made_unnamed table);
  leads = λ content changes. sym (changes_unnamed table content changes);
  payloads = sym (payload_unnamed table);
  failing = λ content. sym (failing_unnamed table content);
  first = λ content. sym (first_unnamed table content);
}

pub payloads_unnamed : (table : ClassTable) (changes : Changes) → IsSpelledAlike (payload (without_names table)) (payload table) changes
payloads_unnamed table changes = record {
  fits = (subst fits (payload_unnamed table), subst fits (sym (payload_unnamed table)));
  bytes = ap (λ (p : Format Changes). p.bytes changes) (payload_unnamed table);
}
  where
    fits : Format Changes → Type 0
    fits p = p.fits changes

pub settled_unnamed : (table : ClassTable) (image : List ℕ) (area : Option ℕ) (s : StoreState) (after : Content)
    → settled (record { table = without_names table; image = image }) area s after ≡ settled (record { table = table; image = image }) area s after
settled_unnamed table image None s after = refl
settled_unnamed table image (Some size) s after =
    ap (λ (d : Changes). by d ((payload (without_names table)).bytes d) ((payload (without_names table)).bytes (all_of (without_names table) after)))
    (differences_unnamed table s.content after)
    ∙ ap (λ (whole : Changes). by different ((payload (without_names table)).bytes different) ((payload (without_names table)).bytes whole)) (all_unnamed table after)
    ∙ ap (λ (p : Format Changes). by different (p.bytes different) (p.bytes (all_of table after))) (payload_unnamed table)
  where
    different : Changes
    different = changes_between table s.content after

    -- the class table has no part in what follows of the bytes
    by : Changes → List ℕ → List ℕ → Result StoreState (ℕ × ℕ)
    by d bytes all =
        if say_nothing d then Ok (record s { content = after }) else recorded (record { table = table; image = image }) size s after bytes all

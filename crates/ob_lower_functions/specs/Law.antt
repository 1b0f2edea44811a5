-- That taking one slot after the other gives terms that the lowering relation allows, and fails where slots run out.
use Rattle.std.specs.Prelude.{◌≡◌, ◌≤◌, ◌+◌, length, None, Some, IsSomeAnd, Ok, Err}
use Rattle.ob_base.specs.Limits.{most_slots}
use Rattle.ob_base.specs.declared.fault.Span.{Span}
use Rattle.ob_table.specs.Statements.{ResolvedBody}
use Rattle.ob_table.specs.Tables.{ClassTable, signature_of}
use Rattle.ob_table_spec.specs.WellFormed.{IsWellFormed}
use Rattle.ob_silica.specs.Terms.{SilicaBody}
use Rattle.ob_lower_spec.specs.BodyTerms.{Lowers}
use Rattle.ob_lower_spec.specs.SlotNeeds.{slots_run_out}
use Rattle.ob_lower_functions.specs.Progress.{full}
use Rattle.ob_lower_functions.specs.BodyCode.{body_code}

-- these are terms of the body, and slots don't run out
pub record AreTerms (table : ClassTable) (body : ResolvedBody) (lowered : SilicaBody) : Type 0 where
  pub lowers : Lowers table body lowered
  pub fits : slots_run_out table body ≡ None
  pub few : lowered.slots ≤ most_slots

-- what lowering gives are terms of the body
abbrev pub GivesTerms : Type 0
GivesTerms =
    (table : ClassTable) (body : ResolvedBody) (lowered : SilicaBody) → body_code table body ≡ Ok lowered
    → AreTerms table body lowered

-- lowering is full where slots run out
abbrev pub FailsWhereFull : Type 0
FailsWhereFull =
    (table : ClassTable) (body : ResolvedBody) (span : Span) → body_code table body ≡ Err (full span)
    → slots_run_out table body ≡ Some span

-- A well-formed body has terms where `this` and the parameters have slots and slots don't run out.
abbrev pub EachHasTerms : Type 0
EachHasTerms =
    (table : ClassTable) (body : ResolvedBody) → IsWellFormed table body
    → IsSomeAnd (signature_of table body.contract body.tx) (λ s. length s.params + 1 ≤ most_slots)
    → slots_run_out table body ≡ None → (lowered : SilicaBody) × Lowers table body lowered

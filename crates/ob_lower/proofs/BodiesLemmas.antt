-- The parameters of a body, and what is told of it.
use Rattle.std.proofs.Common.{◌≡◌, ◌≤◌, ◌<◌, ℕ, ◌+◌, true, false, arith}
use Rattle.std.specs.Prelude.{nat_le}
use Rattle.std.proofs.lemmas.Bool.{le-leb, lt-leb}
use Rattle.std.proofs.Common.{Ok, refl, sym, subst}
use Rattle.ob_base.specs.Limits.{most_slots}
use Rattle.ob_table.specs.Statements.{ResolvedBody}
use Rattle.ob_table.specs.Tables.{ClassTable}
use Rattle.ob_silica.specs.Terms.{SilicaBody}
use Rattle.ob_lower_spec.specs.SlotNeeds.{IsSlotFault}
use Rattle.ob_lower_functions.specs.BodyCode.{body_code}
use Rattle.ob_lower_functions.proofs.Bodies.{gives_terms, fails_where_full}
use Rattle.ob_lower_parts.specs.Makes.{StopsWith}
use Rattle.ob_lower_parts.specs.declared.error.Stopped.{Stopped}
use Rattle.ob_lower_parts.specs.declared.error.Stopped.TheVariants.{Full, NotWellFormed, Memory}
use Rattle.ob_lower.specs.Lowering.{error_of}
use Rattle.ob_base.specs.TextErrors.{OnFault}
use Rattle.ob_base.specs.declared.text_error.TextError.{TextError}

pub params-fit : (n : ℕ) → n < 128 → nat_le (n + 1) most_slots ≡ true
unfolding most_slots
params-fit n h = le-leb (n + 1) 128 (omega arith)

pub params-many : (n : ℕ) → 128 ≤ n → nat_le (n + 1) most_slots ≡ false
unfolding most_slots
params-many n h = lt-leb (n + 1) 128 (omega arith)

pub ruleset bodies = (params-fit, params-many)

pub few_slots : (table : ClassTable) (body : ResolvedBody) (lowered : SilicaBody) → body_code table body ≡ Ok lowered
    → lowered.slots ≤ 128
unfolding most_slots
few_slots table body lowered code = (gives_terms table body lowered code).few

told_of : (table : ClassTable) (body : ResolvedBody) (stopped : Stopped) → StopsWith stopped (body_code table body)
    → OnFault (error_of stopped) (IsSlotFault table body)
told_of table body (Full place) fails = record { number = refl; place = fails_where_full table body place fails }
told_of table body NotWellFormed fails = tt
told_of table body Memory fails = tt

-- what is told of a body that isn't lowered
pub told : (table : ClassTable) (body : ResolvedBody) (stopped : Stopped) (e : TextError) → e ≡ error_of stopped
    → StopsWith stopped (body_code table body) → OnFault e (IsSlotFault table body)
told table body stopped e is fails =
    subst (λ x. OnFault x (IsSlotFault table body)) (sym is) (told_of table body stopped fails)

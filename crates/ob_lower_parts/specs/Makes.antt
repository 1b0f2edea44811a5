-- What lowering makes or why it stops, seen as plain data.
use Rattle.std.specs.Prelude.{◌≡◌, ⊤, Result, Ok, Err}
use Rattle.ob_silica.specs.Terms.{SilicaTerms}
use Rattle.ob_lower_functions.specs.Progress.{Stop, full, not_well_formed, Slots, Progress}
use Rattle.ob_lower_parts.specs.declared.error.Stopped.{Stopped}
use Rattle.ob_lower_parts.specs.declared.error.Stopped.TheVariants.{Full, NotWellFormed, Memory}

-- lowering stops with this error. Where memory runs out nothing is said
abbrev pub StopsWith : {A : Type 0} → Stopped → Result A Stop → Type 0
StopsWith (Full place) code = code ≡ Err (full place)
StopsWith NotWellFormed code = code ≡ Err not_well_formed
StopsWith Memory code = ⊤

-- what is answered, seen in this way, is what lowering gives
abbrev pub Makes : {A B : Type 0} → Result A Stopped → (A → B) → Result B Stop → Type 0
Makes (Ok x) seen code = code ≡ Ok (seen x)
Makes (Err e) seen code = StopsWith e code

-- the terms so far, and the slots
abbrev pub progress : SilicaTerms → Slots → Progress
progress terms slots = record { terms = terms; slots = slots }

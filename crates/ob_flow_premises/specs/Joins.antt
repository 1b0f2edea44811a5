-- Parts of the rule of a join that the check works out on their own.
use Rattle.std.specs.Prelude.{ℕ, not, List, Option}
use Rattle.ob_base.specs.Faults.{branch_loses}
use Rattle.ob_base.specs.declared.fault.Span.{Span}
use Rattle.ob_silica_places.specs.Known.{Known}
use Rattle.ob_silica_places.specs.Places.{field}
use Rattle.ob_flow_spec.specs.Premises.{Premise, one}
use Rattle.ob_flow_spec.specs.Contexts.{BodyFrame, Context}
use Rattle.ob_flow_spec.specs.Joining.{joined_known, join_loses}

-- what is known of slots or of fields after two branches, by number
abbrev pub joined_numbers : (ℕ → Option Known) → (ℕ → Option Known) → ℕ → Option Known
joined_numbers g h = λ n. joined_known (g n) (h n)

-- a field of which no owner of an asset is lost
abbrev pub field_stays : BodyFrame → Context → Context → Span → ℕ → List Premise
field_stays b g h at f = one branch_loses at (not (join_loses b.table (g (field f)) (h (field f))))

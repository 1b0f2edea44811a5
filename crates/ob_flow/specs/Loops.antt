-- Parts of the rule of a Loop that the check works out on their own.
use Rattle.std.specs.Prelude.{Option, Some}
use Rattle.ob_base.specs.declared.fault.Span.{Span}
use Rattle.ob_silica.specs.declared.place.Operand.{Operand}
use Rattle.ob_silica.specs.Terms.{SilicaTerms}
use Rattle.ob_flow_spec.specs.Premises.{checked, ◌>>=◌}
use Rattle.ob_flow_spec.specs.Contexts.{BodyFrame, Context, TestedPlaces}
use Rattle.ob_flow_spec.specs.Uses.{uses_place}
use Rattle.ob_flow_spec.specs.Binding.{read_of}
use Rattle.ob_flow_spec.specs.Looping.{frame_is_as_at_head_if}
use Rattle.ob_flow_spec.specs.Deriving.{Derived, if_reached, derive_all}

-- a Loop with this head, from where its first part ends, if that is reached
abbrev pub derive_turn : BodyFrame → TestedPlaces → Context → Operand → SilicaTerms → Span → Option Context → Derived
derive_turn b ts head a body end left =
    if_reached left (λ h. checked (uses_place b h (read_of a)) h
    >>= (λ h. derive_all b ts body h >>= (λ turned. checked (frame_is_as_at_head_if b head turned end) (Some h))))

-- A call on `this`, of its own list of places and parameters.
use Rattle.std.proofs.Common.{◌≡◌, List, subst}
use Rattle.std.specs.Prelude.{Result}
use Rattle.ob_base.specs.declared.fault.Span.{Span}
use Rattle.ob_table.specs.declared.contract.Signature.{Signature}
use Rattle.ob_silica.specs.declared.place.Operand.{Operand}
use Rattle.ob_silica_places.specs.Parameters.{Parameter, all_parameters}
use Rattle.ob_flow_spec.specs.Contexts.{BodyFrame, Context, TestedPlaces}
use Rattle.ob_flow_spec.specs.Uses.{Read}
use Rattle.ob_flow_spec.specs.Binding.{passed}
use Rattle.ob_flow_spec.specs.Calling.{reads_with_this, calls_this}
use Rattle.ob_base.specs.declared.text_error.TextError.{TextError}
use Rattle.ob_flow_context.specs.Checking.{Leaves}
use Rattle.ob_flow_premises.specs.Calls.{enters}

pub passes_this : {A : Type 0} (r : Result A TextError) (b : BodyFrame) (ts : TestedPlaces) (g after : Context) (at : Span) (s : Signature)
    (args : List Operand) (rs : List Read) (ps : List Parameter) → rs ≡ reads_with_this at args → ps ≡ all_parameters b.here s
    → Leaves r after (enters b ts g at s args rs ps) (passed b g rs ps)
    → Leaves r after (calls_this b ts g at s args) (passed b g (reads_with_this at args) (all_parameters b.here s))
passes_this r b ts g after at s args rs ps e f h =
    subst (λ (qs : List Parameter). Leaves r after (enters b ts g at s args (reads_with_this at args) qs)
    (passed b g (reads_with_this at args) qs)) f
    (subst (λ (qs : List Read). Leaves r after (enters b ts g at s args qs ps) (passed b g qs ps)) e h)

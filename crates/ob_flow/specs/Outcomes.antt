-- What the check answers of forms: the outcome of their derivation.
use Rattle.std.specs.Prelude.{◌≡◌, ⊤, Option, Some, None, Result, Ok, Err}
use Rattle.ob_flow_spec.specs.Contexts.{Context}
use Rattle.ob_flow_spec.specs.Deriving.{Derived}
use Rattle.ob_base.specs.declared.text_error.TextError.{TextError}
use Rattle.ob_base.specs.declared.text_error.TextError.TheVariants.{Fault, Memory}
use Rattle.ob_flow.specs.declared.branches.Flow.{Flow}
use Rattle.ob_flow.specs.declared.branches.Flow.TheVariants.{On, Ended}

-- the context after a form, if the point after it is reached
abbrev pub reached : Flow → Context → Option Context
reached On g = Some g
reached Ended g = None

-- the fault is the outcome. Where memory runs out nothing is said
abbrev pub FailsWith : TextError → Derived → Type 0
FailsWith (Fault fault) d = d ≡ Err fault
FailsWith Memory d = ⊤

-- the outcome is what is reached, with this context after, or the fault
abbrev pub DerivesTo : Result Flow TextError → Context → Derived → Type 0
DerivesTo (Ok flow) new d = d ≡ Ok (reached flow new)
DerivesTo (Err e) new d = FailsWith e d

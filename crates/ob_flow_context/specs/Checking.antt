-- What a check answers that asks for premises in their order.
use Rattle.std.specs.Prelude.{◌≡◌, ⊤, List, Some, None, Result, Ok, Err}
use Rattle.ob_flow_spec.specs.Premises.{Premise, first_failing}
use Rattle.ob_flow_spec.specs.Contexts.{Context}
use Rattle.ob_base.specs.declared.text_error.TextError.{TextError}
use Rattle.ob_base.specs.declared.text_error.TextError.TheVariants.{Fault, Memory}

-- the fault is that of the first premise that doesn't hold
abbrev pub FailsPremises : TextError → List Premise → Type 0
FailsPremises (Fault fault) ps = first_failing ps ≡ Some fault
FailsPremises Memory ps = ⊤

-- all premises hold, or else the fault of the first that doesn't is answered
abbrev pub MeetsPremises : {A : Type 0} → Result A TextError → List Premise → Type 0
MeetsPremises (Ok x) ps = first_failing ps ≡ None
MeetsPremises (Err e) ps = FailsPremises e ps

-- all premises hold and the context is left as this one, or else the fault of the first that doesn't is answered
abbrev pub Leaves : {A : Type 0} → Result A TextError → Context → List Premise → Context → Type 0
Leaves (Ok x) new ps after = (first_failing ps ≡ None) × (new ≡ after)
Leaves (Err e) new ps after = FailsPremises e ps

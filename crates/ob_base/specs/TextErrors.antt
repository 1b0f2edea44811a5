-- What is said of a text of which a stage has nothing to give.
use Rattle.std.specs.Prelude.{⊤}
use Rattle.ob_base.specs.declared.fault.ProgramFault.{ProgramFault}
use Rattle.ob_base.specs.declared.text_error.TextError.{TextError}
use Rattle.ob_base.specs.declared.text_error.TextError.TheVariants.{Fault, Memory}

-- a fact of the fault that is answered. Where memory runs out nothing is said
abbrev pub OnFault : TextError → (ProgramFault → Type 0) → Type 0
OnFault (Fault fault) says = says fault
OnFault Memory says = ⊤

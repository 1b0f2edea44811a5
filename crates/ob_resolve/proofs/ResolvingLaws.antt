-- The fault that is computed is the first, and there is one exactly where the program has a fault.
use Rattle.std.proofs.Common.{◌≡◌, ◌⊎◌, inl, inr, Option, Some, None, refl, sym, ◌∙◌, ap, subst}
use Rattle.ob_base.specs.declared.fault.ProgramFault.{ProgramFault}
use Rattle.ob_resolve_spec.specs.Declarations.{Program}
use Rattle.ob_resolve_spec.specs.Faults.{HasNoFault, faults_of}
use Rattle.ob_resolve_spec.specs.Least.{least_fault, least_from, IsLeastOrNone}
use Rattle.ob_resolve_laws.proofs.LeastFacts.{least_fault_is}
use Rattle.ob_resolve.specs.Resolving.{IsFirstFault}

some_injective : {A : Type 0} (a b : A) → Some a ≡ Some b → a ≡ b
some_injective a b e = cc

pub clean : (program : Program) (least : Option ProgramFault) → least ≡ least_fault program → least ≡ None → HasNoFault program
clean program least is none = subst (IsLeastOrNone program) (sym is ∙ none) (least_fault_is program)

pub told : (program : Program) (least : Option ProgramFault) (fault : ProgramFault) → least ≡ least_fault program → least ≡ Some fault → IsFirstFault program fault
told program least fault is some = record { least = subst (IsLeastOrNone program) (sym is ∙ some) (least_fault_is program); first = sym is ∙ some }

pub never_table_and_fault_lem : (program : Program) (fault : ProgramFault) → IsFirstFault program fault → ¬ (HasNoFault program)
never_table_and_fault_lem program fault is none = let e : least_from None (faults_of program) ≡ None = ap (least_from None) none in let f = is.first in cc

table_or_fault_of : (program : Program) (least : Option ProgramFault) → least ≡ least_fault program
    → HasNoFault program ⊎ ((fault : ProgramFault) × IsFirstFault program fault)
table_or_fault_of program None is = inl (clean program None is refl)
table_or_fault_of program (Some fault) is = inr (fault, told program (Some fault) fault is refl)

pub table_or_fault_lem : (program : Program) → HasNoFault program ⊎ ((fault : ProgramFault) × IsFirstFault program fault)
table_or_fault_lem program = table_or_fault_of program (least_fault program) refl

pub one_first_fault_lem : (program : Program) (a b : ProgramFault) → IsFirstFault program a → IsFirstFault program b → a ≡ b
one_first_fault_lem program a b one other = some_injective a b (sym one.first ∙ other.first)

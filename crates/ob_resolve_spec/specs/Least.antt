-- The least fault of a program, computed.
use Rattle.std.specs.Prelude.{Bool, ◌&&◌, ◌||◌, nat_eq, nat_lt, List, [], ◌∷◌, Option, Some, None, if◌then◌else◌}
use Rattle.ob_base.specs.declared.fault.ProgramFault.{ProgramFault}
use Rattle.ob_resolve_spec.specs.Declarations.{Program}
use Rattle.ob_resolve_spec.specs.Faults.{faults_of, HasNoFault, IsLeast}

-- whether the first fault comes before the second
abbrev pub is_before : ProgramFault → ProgramFault → Bool
is_before f g = nat_lt f.span.start g.span.start || (nat_eq f.span.start g.span.start && nat_lt f.number g.number)

-- the least of the faults so far, and one more
abbrev pub lesser : Option ProgramFault → ProgramFault → Option ProgramFault
lesser None f = Some f
lesser (Some g) f = if is_before f g then Some f else Some g

-- the least of the faults so far, and these
abbrev pub least_from : Option ProgramFault → List ProgramFault → Option ProgramFault
least_from l [] = l
least_from l (f ∷ fs) = least_from (lesser l f) fs

-- the least fault of a program
abbrev pub least_fault : Program → Option ProgramFault
least_fault program = least_from None (faults_of program)

-- it is the least fault, or there is none
abbrev pub IsLeastOrNone : Program → Option ProgramFault → Type 0
IsLeastOrNone program None = HasNoFault program
IsLeastOrNone program (Some f) = IsLeast program f

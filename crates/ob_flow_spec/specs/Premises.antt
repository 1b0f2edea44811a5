-- The premises of the permission rules: what must hold, and the fault of the text where it doesn't.
use Rattle.std.specs.Prelude.{ℕ, zero, suc, Bool, List, [], ◌∷◌, ◌++◌, Option, Some, None, Result, Ok, Err, if◌then◌else◌}
use Rattle.ob_base.specs.declared.fault.ProgramFault.{ProgramFault}
use Rattle.ob_base.specs.declared.fault.Span.{Span}

-- a premise, with the fault where it doesn't hold
pub record Premise : Type 0 where
  pub fault : ProgramFault
  pub condition : Bool

-- this must hold, or else there is a fault of this number at this span
abbrev pub must : ℕ → Span → Bool → Premise
must number span condition = record { fault = record { number = number; span = span }; condition = condition }

-- one premise
abbrev pub one : ℕ → Span → Bool → List Premise
one number span condition = must number span condition ∷ []

-- the fault of the first premise that doesn't hold, if there is one
abbrev pub first_failing : List Premise → Option ProgramFault
first_failing [] = None
first_failing (p ∷ ps) = if p.condition then first_failing ps else Some p.fault

-- premises for each number below n, in order
abbrev pub each : ℕ → (ℕ → List Premise) → List Premise
each zero says = []
each (suc n) says = each n says ++ says n

-- premises for each thing of a list, in order
abbrev pub for_all : {A : Type 0} → List A → (A → List Premise) → List Premise
for_all [] says = []
for_all (x ∷ xs) says = says x ++ for_all xs says

-- this, unless there is a fault
abbrev pub unless : {A : Type 0} → Option ProgramFault → A → Result A ProgramFault
unless None x = Ok x
unless (Some fault) x = Err fault

-- this where all premises hold, and else the fault of the first that doesn't
abbrev pub checked : {A : Type 0} → List Premise → A → Result A ProgramFault
checked ps x = unless (first_failing ps) x

infixl 10 ◌>>=◌
-- what follows where there is no fault
abbrev pub ◌>>=◌ : {A B : Type 0} → Result A ProgramFault → (A → Result B ProgramFault) → Result B ProgramFault
(Ok x) >>= f = f x
(Err e) >>= f = Err e

-- What is kept by each step, and by any number of them (this project's own).
use Rattle.std.specs.Prelude.{◌≡◌, ℕ, ◌+◌, ◌≤◌, ⊤}
use Rattle.ob_heap_spec.specs.Worlds.{World, Spent}
use Rattle.ob_source_laws.specs.Laws.{Grows, KeepsObjects}
use Rattle.ob_silica.specs.Terms.{loop_form, and_term}
use Rattle.ob_silica_formed.specs.Points.{BeginsWithUnit}
use Rattle.ob_silica_steps.specs.Configurations.{SilicaProgram, Control, runs, NextStep, goes, ended, aborted, stuck}
use Rattle.ob_silica_steps.specs.Steps.{then_steps, steps}

-- where steps lead to a world, the first holds of it; where they abort, the second of what the run has spent
abbrev pub LeadsSo : (World → Type 0) → (Spent → Type 0) → NextStep → Type 0
LeadsSo P Q (goes c) = P c.world
LeadsSo P Q (ended result w) = P w
LeadsSo P Q (aborted cause s) = Q s
LeadsSo P Q stuck = ⊤

-- Units left and units taken add up to those that were there; an aborted run has taken no more than were there.
abbrev pub UnitsAddUp : World → NextStep → Type 0
UnitsAddUp w next = LeadsSo (λ v. v.fuel + v.taken ≡ w.fuel + w.taken) (λ s. s.taken ≤ w.fuel + w.taken) next

-- What was read stays read.
abbrev pub ReadsGrow : World → NextStep → Type 0
ReadsGrow w next = LeadsSo (λ v. Grows w.reads v.reads) (λ s. Grows w.reads s.reads) next

-- No object goes away or becomes one of another contract, and no mark is taken off.
abbrev pub ObjectsStay : World → NextStep → Type 0
ObjectsStay w next = LeadsSo (KeepsObjects w) (λ s. ⊤) next

-- no further step follows: the run has ended, has aborted, or is stuck
abbrev pub IsOver : NextStep → Type 0
IsOver (goes c) = ⊥
IsOver (ended result w) = ⊤
IsOver (aborted cause s) = ⊤
IsOver stuck = ⊤

-- where a Loop begins, its turn takes a unit at first
abbrev pub TurnTakesUnit : Control → Type 0
TurnTakesUnit (runs (and_term (loop_form first a body end) span rest) outer) = BeginsWithUnit first
TurnTakesUnit control = ⊤

-- the same of what a step leads to
abbrev pub NextTurnTakesUnit : NextStep → Type 0
NextTurnTakesUnit (goes c) = TurnTakesUnit c.control
NextTurnTakesUnit next = ⊤

-- Each run in which each turn of a Loop takes a unit comes to an end: after some number of steps no further step follows,
-- whatever the program.
abbrev pub RunsEnd : Type 0
RunsEnd = (program : SilicaProgram) (start : NextStep) → ((n : ℕ) → NextTurnTakesUnit (then_steps start (steps program n)))
    → (n : ℕ) × IsOver (then_steps start (steps program n))

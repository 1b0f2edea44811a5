-- The ends of runs that don't go wrong.
use Rattle.std.proofs.Common.{◌≡◌, ℕ, zero, suc, List, Option, Some, None, refl, sym, subst}
use Rattle.std.specs.Prelude.{is_some, IsTrue}
use Rattle.ob_heap.specs.declared.object.Object.{Object}
use Rattle.ob_heap.specs.Overlays.{Changes}
use Rattle.ob_code.specs.declared.image.Image.{Image}
use Rattle.ob_machine_steps.specs.Configurations.{End, Next, goes, stops}
use Rattle.ob_machine_steps.specs.Entries.{Phase, running, next_step}
use Rattle.ob_machine_steps.specs.Measures.{steps_left}
use Rattle.ob_machine_steps.specs.Outcomes.{outcome_at, outcome}
use Rattle.ob_machine_steps.specs.Runs.{world_of as world_of_phase, Stop, paused, over, after_step, after_steps}
use Rattle.ob_machine_laws.specs.Laws.{IsSoundRun}
use Rattle.ob_machine_laws.proofs.Slicing.{none_paused, over_paused, paused_same}
use Rattle.ob_machine.specs.Phases.{phase_of, phase_at}
use Rattle.ob_machine.specs.Shown.{world_of, shown}
use Rattle.ob_machine.specs.declared.entry.Entry.{Entry}
use Rattle.ob_machine.specs.declared.machine.Machine.{Machine}
use Rattle.ob_exec.specs.Ending.{IsRight}

-- A run that doesn't go wrong always has a next step.

-- a run is over here
record IsOver (s : Option Stop) : Type 0 where
  end : End
  is : s ≡ Some (over end)

right_over : (s : Option Stop) → IsRight (outcome_at s) → IsOver s
right_over None h = absurd h
right_over (Some (paused p)) h = absurd h
right_over (Some (over end)) h = record { end = end; is = refl }

never_by : (image : Image) (n m : ℕ) (p q : Phase) (end : End) (r : Option Next) → after_step r (after_steps image n) ≡ Some (paused q)
    → after_step r (after_steps image m) ≡ Some (over end)
    → ((x : Phase) → after_steps image n x ≡ Some (paused q) → after_steps image m x ≡ Some (over end) → ⊥) → ⊥
never_by image n m p q end None f h ih = none_paused f
never_by image n m p q end (Some (goes c)) f h ih = ih (running c) f h
never_by image n m p q end (Some (stops x)) f h ih = over_paused f

-- what comes to where there is no next step is never over
never_over : (image : Image) (n m : ℕ) (p q : Phase) (end : End) → after_steps image n p ≡ Some (paused q) → next_step image q ≡ None
    → after_steps image m p ≡ Some (over end) → ⊥
never_over image n zero p q end f g h = over_paused (sym h)
never_over image zero (suc m) p q end f g h =
    let stuck : next_step image p ≡ None = subst (λ x. next_step image x ≡ None) (sym (paused_same f)) g in
    let none : ◌≡◌ {A = Option Stop} None (Some (over end)) = subst (λ r. after_step r (after_steps image m) ≡ Some (over end)) stuck h in
    absurd cc
never_over image (suc n) (suc m) p q end f g h =
    never_by image n m p q end (next_step image p) f h (λ x i j. never_over image n m x q end i g j)

some_unless : (r : Option Next) → (r ≡ None → ⊥) → IsTrue (is_some r)
some_unless None h = absurd (h refl)
some_unless (Some n) h = refl

pub sound_run : (image : Image) (p : Phase) → IsRight (outcome image p) → IsSoundRun image p
sound_run image p h =
    let s : IsOver (after_steps image (steps_left image p) p) = right_over (after_steps image (steps_left image p) p) h in
    record { at = λ n q f. some_unless (next_step image q) (λ none. never_over image n (steps_left image p) p q s.end f none s.is) }

-- The units that it has taken are those of the run.

-- the units of a machine
pub units_taken : (m : Machine) (base : List Object) (o : Changes) → (world_of_phase (phase_of m base o)).taken ≡ (world_of m.run base o).taken
units_taken m base o = by m.entry
  where
    by : (e : Option Entry) → (world_of_phase (phase_at e (shown m.run base o))).taken ≡ (world_of m.run base o).taken
    by None = refl
    by (Some e) = refl

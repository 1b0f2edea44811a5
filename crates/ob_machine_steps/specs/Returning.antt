-- Instructions with which a body returns (this project's own).
use Rattle.std.specs.Prelude.{ℕ, ◌==◌, List, [], ◌∷◌, Option, Some, None, if◌then◌else◌}
use Rattle.ob_base.specs.Optional.{◌>>=◌, where_true}
use Rattle.ob_heap_spec.specs.Values.{Value, reference}
use Rattle.ob_heap_spec.specs.Worlds.{World}
use Rattle.ob_heap_spec.specs.Marks.{leave}
use Rattle.ob_machine_steps.specs.Slots.{Slots, value_at, with_value_at}
use Rattle.ob_code.specs.Code.{no_result}
use Rattle.ob_machine_steps.specs.Configurations.{Entered, on_receiver, on_this, on_new, MachineFrame, Configuration, Next, goes, stops, ended}
use Rattle.ob_machine_steps.specs.Testing.{without_locks}

-- what a frame gives: a constructor its object, and any other what it returns
abbrev pub given_by : Entered → ℕ → Option Value → Option Value
given_by on_receiver this result = result
given_by on_this this result = result
given_by on_new this result = Some (reference this)

-- the receiver of a call has no longer a transaction in progress
abbrev pub without_progress : Entered → ℕ → World → World
without_progress on_receiver n w = leave n w
without_progress on_this n w = w
without_progress on_new n w = w

-- the world that a frame leaves: first its noted tests end, with their locks
abbrev pub world_left : MachineFrame → World → World
world_left f w = without_progress f.entered f.this (without_locks f.tests w)

-- the slots with a result in one of them; where no slot gets it they stay as they are
abbrev pub with_result : Slots → ℕ → Option Value → Option Slots
with_result slots into None = where_true (into == no_result) slots
with_result slots into (Some v) = if into == no_result then Some slots else with_value_at slots into v

-- the innermost of the frames that wait goes on with the result; where none waits the run has ended
abbrev pub resumes : List MachineFrame → ℕ → Option Value → World → Option Next
resumes [] into result w = Some (stops (ended result w))
resumes (f ∷ fs) into result w =
    with_result f.slots into result >>= λ slots.
    Some (goes (record { top = record f { slots = slots }; below = fs; world = w }))

-- the innermost frame leaves
abbrev pub returns : Option Value → Configuration → Option Next
returns result c =
    resumes c.below c.top.into (given_by c.top.entered c.top.this result) (world_left c.top c.world)

-- `ret`: the body returns without a value
abbrev pub return_step : Configuration → Option Next
return_step c = returns None c

-- `retv`: the body returns what a slot holds
abbrev pub return_value_step : ℕ → Configuration → Option Next
return_value_step a c = value_at c.top.slots a >>= λ v. returns (Some v) c

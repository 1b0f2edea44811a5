-- What a run, an entry, and a `new` and a `call` from outside come to by code (this project's own).
use Rattle.std.specs.Prelude.{ℕ, false, List, Option, Some, None}
use Rattle.std.specs.Option.{option_map_or}
use Rattle.ob_base.specs.declared.id.ContractId.{ContractId}
use Rattle.ob_base.specs.declared.id.TxId.{TxId}
use Rattle.ob_heap_spec.specs.Values.{Value}
use Rattle.ob_heap_spec.specs.Worlds.{World, RunOutcome, gives, aborts, wrong}
use Rattle.ob_code.specs.declared.image.Image.{Image}
use Rattle.ob_code_table.specs.Images.{constructor_of}
use Rattle.ob_machine_steps.specs.Configurations.{End, ended, aborted}
use Rattle.ob_machine_steps.specs.Entries.{MachineEntry, marked_world, Phase, starting}
use Rattle.ob_machine_steps.specs.Runs.{Stop, paused, over, after_steps}
use Rattle.ob_machine_steps.specs.Measures.{steps_left}

-- what a run comes to that is over
abbrev pub outcome_of : End → RunOutcome (Option Value)
outcome_of (ended result w) = gives result w
outcome_of (aborted cause s) = aborts cause s

-- what a run comes to; one that isn't over, or had no next step, has gone wrong
abbrev pub outcome_at : Option Stop → RunOutcome (Option Value)
outcome_at None = wrong
outcome_at (Some (paused p)) = wrong
outcome_at (Some (over end)) = outcome_of end

-- what a run comes to in as many steps as it can last
abbrev pub outcome : Image → Phase → RunOutcome (Option Value)
outcome image p = outcome_at (after_steps image (steps_left image p) p)

-- what an entry comes to in a world: first what comes in is marked
abbrev pub entry_outcome : Image → MachineEntry → World → RunOutcome (Option Value)
entry_outcome image e w = outcome image (starting e (marked_world image e w))

-- the entry of a constructor, by its number
abbrev pub entry_of_constructor : ContractId → List Value → TxId → MachineEntry
entry_of_constructor contract args tx =
    record { receiver = None; contract = contract; tx = tx; args = args; lock = false }

-- what a `new` of a contract comes to; without a constructor it goes wrong
abbrev pub machine_new : Image → ContractId → List Value → World → RunOutcome (Option Value)
machine_new image contract args w =
    option_map_or (λ tx. entry_outcome image (entry_of_constructor contract args tx) w)
    (constructor_of image contract) wrong

-- the entry of a transaction on the object of a number
abbrev pub entry_of_transaction : ContractId → TxId → ℕ → List Value → MachineEntry
entry_of_transaction contract tx n args =
    record { receiver = Some n; contract = contract; tx = tx; args = args; lock = false }

-- what a `call` of the object of a number comes to
abbrev pub machine_call : Image → ContractId → TxId → ℕ → List Value → World → RunOutcome (Option Value)
machine_call image contract tx n args w = entry_outcome image (entry_of_transaction contract tx n args) w

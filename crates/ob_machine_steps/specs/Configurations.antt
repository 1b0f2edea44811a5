-- The configurations of a run of code (this project's own; no permission is in them).
use Rattle.std.specs.Prelude.{ℕ, Bool, List, Option}
use Rattle.ob_base.specs.declared.id.ContractId.{ContractId}
use Rattle.ob_base.specs.declared.id.TxId.{TxId}
use Rattle.ob_heap_spec.specs.Values.{Value}
use Rattle.ob_heap_spec.specs.Worlds.{World, AbortCause, Spent, spent}
use Rattle.ob_machine_steps.specs.Slots.{Slots}

-- how a frame was entered: by a call with a receiver, by one on `this`, by a `new`
pub data Entered : Type 0 where
  on_receiver : Entered
  on_this : Entered
  on_new : Entered

-- A frame: the object that is `this`; whose body it runs, by the numbers of the contract and of the body there; the place of the
-- next instruction; its slots; how it was entered, and whether it is share-entered; the tests that it has noted, the newest first,
-- each with the object that it has locked, if it has locked one; and the slot of the frame around it that gets its result.
pub record MachineFrame : Type 0 where
  pub this : ℕ
  pub contract : ContractId
  pub tx : TxId
  pub at : ℕ
  pub slots : Slots
  pub entered : Entered
  pub share_entered : Bool
  pub tests : List (Option ℕ)
  pub into : ℕ

-- a configuration: the innermost frame, the frames that wait for it, the newest first, and the world
pub record Configuration : Type 0 where
  pub top : MachineFrame
  pub below : List MachineFrame
  pub world : World

-- how a run is over: it has ended, with its result and the world after it; it has aborted, with what it has spent
pub data End : Type 0 where
  ended : Option Value → World → End
  aborted : AbortCause → Spent → End

-- what a step leads to: another configuration, or the end of the run
pub data Next : Type 0 where
  goes : Configuration → Next
  stops : End → Next

-- an abort in a world
abbrev pub abort : AbortCause → World → Next
abort cause w = stops (aborted cause (spent w))

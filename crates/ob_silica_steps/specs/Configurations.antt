-- The configurations of a run of terms (this project's own; Coblenz et al., TOPLAS 42(3), 2020, "Silica", for the
-- frames).
use Rattle.std.specs.Prelude.{ℕ, Bool, ◌&&◌, nat_eq, List, find, Option, option_map}
use Rattle.ob_base.specs.declared.fault.Span.{Span}
use Rattle.ob_base.specs.declared.id.ContractId.{ContractId}
use Rattle.ob_base.specs.declared.id.TxId.{TxId}
use Rattle.ob_perm.specs.Permissions.{Permission}
use Rattle.ob_table.specs.Tables.{ClassTable}
use Rattle.ob_heap_spec.specs.Values.{Value, Numbered}
use Rattle.ob_heap_spec.specs.Worlds.{World, AbortCause, Spent, spent}
use Rattle.ob_silica.specs.Terms.{SilicaTerms, SilicaBody}
use Rattle.ob_silica.specs.declared.place.Operand.{Operand}
use Rattle.ob_silica_steps.specs.Cells.{Cell}
use Rattle.ob_silica_places.specs.Known.{Known}
use Rattle.ob_silica_places.specs.Places.{Location}

-- Programs.

-- a program as terms: its class table, and the bodies of its constructors and transactions
pub record SilicaProgram : Type 0 where
  pub table : ClassTable
  pub bodies : List SilicaBody

-- whether a body is that of this transaction
abbrev pub is_terms_of : ContractId → TxId → SilicaBody → Bool
is_terms_of contract tx body = nat_eq body.contract.0 contract.0 && nat_eq body.tx.0 tx.0

-- the terms of a constructor or transaction
abbrev pub terms_at : SilicaProgram → ContractId → TxId → Option SilicaTerms
terms_at program contract tx =
    option_map (λ (body : SilicaBody). body.terms) (find (is_terms_of contract tx) program.bodies)

-- Frames.

-- the slots of a frame, each set or unset
abbrev pub SlotCells : Type 0
SlotCells = Numbered Cell

-- how a frame was entered: by a call with a receiver, by one on `this`, by a `new`
pub data How : Type 0 where
  by_receiver : How
  by_this : How
  by_new : How

-- a frame: its slots, whose body it runs, how it was entered, and whether it is share-entered
pub record SilicaFrame : Type 0 where
  pub slots : SlotCells
  pub contract : ContractId
  pub tx : TxId
  pub how : How
  pub share_entered : Bool

-- What ends where a list of terms ends: nothing more; the test of a place; the test of a place with the lock of an
-- object; the first part of a Loop, with its operand, its body and the span of the body's end.
pub data Ends : Type 0 where
  plain_end : Ends
  test_end : Location → Ends
  lock_end : Location → ℕ → Ends
  loop_end : SilicaTerms → Operand → SilicaTerms → Span → Ends

-- the terms around a list, which go on where it ends, and what ends there
pub record Rest : Type 0 where
  pub terms : SilicaTerms
  pub ends : Ends

-- a place that was given to a call, the slot of the callee that has it, and the permission that the place gets back
pub record Loan : Type 0 where
  pub place : Location
  pub param : ℕ
  pub exit : Permission

-- a frame that waits for a call: what it goes on with, where the result goes, and what it has lent
pub record Waiting : Type 0 where
  pub frame : SilicaFrame
  pub terms : SilicaTerms
  pub outer : List Rest
  pub result : Option ℕ
  pub loans : List Loan

-- what a frame is about to do: it runs the current list of terms with the lists around it, or it leaves with a
-- result, if it has one, and has still to end these lists
pub data Control : Type 0 where
  runs : SilicaTerms → List Rest → Control
  leaves : Option Cell → List Rest → Control

-- Configurations.

-- a handle, by the object that it is on and what it carries while the run lasts
pub record HandleNote : Type 0 where
  pub object : ℕ
  pub permission : Permission

-- what is noted beside the world: of each object's fields, by the numbers of both, and of the handles, which no step
-- changes
pub record Notes : Type 0 where
  pub fields : ℕ → ℕ → Known
  pub handles : List HandleNote

-- a configuration: the innermost frame and what it is about to do, the frames that wait, the notes and the world
pub record Configuration : Type 0 where
  pub frame : SilicaFrame
  pub control : Control
  pub stack : List Waiting
  pub notes : Notes
  pub world : World

-- what a step leads to: another configuration; the end of the run, with its result; an abort, with what the run
-- has spent; or there is no step, and the run is stuck
pub data NextStep : Type 0 where
  goes : Configuration → NextStep
  ended : Option Value → World → NextStep
  aborted : AbortCause → Spent → NextStep
  stuck : NextStep

-- an abort in a world
abbrev pub abort_step : AbortCause → World → NextStep
abort_step cause w = aborted cause (spent w)

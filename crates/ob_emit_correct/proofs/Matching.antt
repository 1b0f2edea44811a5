-- For which configuration of a Silica run one of the machine stands.
use Rattle.std.proofs.Common.{◌≡◌, false, ℕ, ◌+◌, ◌<◌, List, [], ◌∷◌, length, Option, Some, None}
use Rattle.std.specs.Prelude.{find, option_map, option_and_then, ⊤, ◌≢◌}
use Rattle.ob_base.specs.declared.id.ContractId.{ContractId}
use Rattle.ob_base.specs.declared.id.TxId.{TxId}
use Rattle.ob_table.specs.Tables.{ClassTable, contract_at, signature_at, signature_of}
use Rattle.ob_table.specs.declared.contract.Contract.{Contract}
use Rattle.ob_table.specs.declared.contract.Signature.{Signature}
use Rattle.ob_table.specs.declared.seen.Kind.{Kind}
use Rattle.ob_table.specs.declared.seen.Kind.TheVariants.{Reference}
use Rattle.ob_table_spec.specs.WellFormed.{kind_of_resolved}
use Rattle.ob_heap_spec.specs.Values.{Value}
use Rattle.ob_heap_spec.specs.Worlds.{World, Spent, SameWorld, SameSpent}
use Rattle.ob_heap_spec.specs.Marks.{unlock}
use Rattle.ob_silica.specs.Terms.{SilicaTerms, SilicaBody}
use Rattle.ob_silica_formed.specs.Holdings.{Holdings}
use Rattle.ob_silica_steps.specs.Cells.{Cell, value_in}
use Rattle.ob_silica_steps.specs.Configurations.{SilicaProgram, is_terms_of, How, by_receiver, by_this, by_new, SilicaFrame, SlotCells, Ends, plain_end, test_end, lock_end, loop_end, Rest, Waiting, runs, leaves, Configuration, NextStep, goes, ended, aborted, stuck}
use Rattle.ob_silica_steps.specs.Here.{self_of}
use Rattle.ob_code.specs.declared.instruction.Instruction.{Instruction}
use Rattle.ob_code.specs.declared.instruction.Instruction.TheVariants as instruction
use Rattle.ob_machine_steps.specs.Configurations as machine
use Rattle.ob_machine_steps.specs.Configurations.{Entered, on_receiver, on_this, on_new, MachineFrame}
use Rattle.ob_machine_steps.specs.Entries.{Phase, running}
use Rattle.ob_machine_steps.specs.Returning.{given_by}
use Rattle.ob_machine_steps.specs.Runs.{paused, over, after_steps}
use Rattle.ob_machine_steps.specs.Slots.{Slots, value_at}
use Rattle.ob_machine_steps.specs.Steps.{next_instruction}
use Rattle.ob_machine_steps.specs.Testing.{without_locks}
use Rattle.ob_emit_spec.specs.Emission.{EmissionFrame, result_slot, scratch_of_terms}
use Rattle.ob_emit_spec.specs.EmittedImages.{frame_of_body, code_of_body}
use Rattle.ob_emit_correct.specs.Law.{code_of}
use Rattle.ob_emit_correct.proofs.Placing.{Stands, KindsHold}

-- Bodies.

-- the body of a constructor or transaction, by the numbers of its contract and of itself
pub record HasBody (program : SilicaProgram) (contract : ContractId) (tx : TxId) : Type 0 where
  pub own : Contract
  pub is_own : contract_at program.table contract ≡ Some own
  pub class : own.interface ≡ false
  pub signature : Signature
  pub is_signature : signature_at own tx ≡ Some signature
  pub body : SilicaBody
  pub found : find (is_terms_of contract tx) program.bodies ≡ Some body

-- what stands around its forms
abbrev pub frame_in : (program : SilicaProgram) (contract : ContractId) (tx : TxId) → HasBody program contract tx → EmissionFrame
frame_in program contract tx b = frame_of_body program.table contract b.own tx b.signature b.body

-- its code
abbrev pub code_in : (program : SilicaProgram) (contract : ContractId) (tx : TxId) → HasBody program contract tx → List Instruction
code_in program contract tx b = code_of_body program.table contract b.own tx b.signature b.body

-- how many slots a frame of it has
abbrev pub slots_in : (program : SilicaProgram) (contract : ContractId) (tx : TxId) → HasBody program contract tx → ℕ
slots_in program contract tx b = b.body.slots + scratch_of_terms b.body.terms

-- Frames.

-- how the machine says that a frame was entered
abbrev pub entered_as : How → Entered
entered_as by_receiver = on_receiver
entered_as by_this = on_this
entered_as by_new = on_new

-- each slot of the terms that is set has the same value in code; there are so many slots in code, the first ones being those of the terms
pub record SameSlots (scratch count : ℕ) (cells : SlotCells) (slots : Slots) : Type 0 where
  pub many : length slots ≡ count
  pub within : (k : ℕ) (c : Cell) → cells k ≡ Some c → k < scratch
  pub same : (k : ℕ) (c : Cell) → cells k ≡ Some c → value_at slots k ≡ Some c.value

-- two frames run the same body on the same object, and were entered alike
pub record SameFrame (f : SilicaFrame) (m : MachineFrame) : Type 0 where
  pub this : m.this ≡ self_of f.slots
  pub contract : m.contract ≡ f.contract
  pub tx : m.tx ≡ f.tx
  pub entered : m.entered ≡ entered_as f.how
  pub share_entered : m.share_entered ≡ f.share_entered

-- a frame of the machine goes on with these terms, the lists around them, and its noted tests
pub record GoesOnWith (program : SilicaProgram) (f : SilicaFrame) (terms : SilicaTerms) (outer : List Rest) (m : MachineFrame) : Type 0 where
  pub frame : SameFrame f m
  pub has : HasBody program f.contract f.tx
  pub slots : SameSlots has.body.slots (slots_in program f.contract f.tx has) f.slots m.slots
  pub holdings : Holdings
  pub stands : Stands (frame_in program f.contract f.tx has) (slots_in program f.contract f.tx has) (code_in program f.contract f.tx has)
      m.at holdings terms outer m.tests

-- the kind of what a frame gives back, if it gives something
abbrev pub kind_given : ClassTable → How → ContractId → TxId → Option Kind
kind_given table by_receiver contract tx = option_and_then (λ (s : Signature). option_map kind_of_resolved s.result) (signature_of table contract tx)
kind_given table by_this contract tx = option_and_then (λ (s : Signature). option_map kind_of_resolved s.result) (signature_of table contract tx)
kind_given table by_new contract tx = Some (Reference contract)

-- a frame that waits for a callee that gives back something of this kind, or nothing: that is what is known of the slot for the result
pub record WaitsFor (program : SilicaProgram) (given : Option Kind) (h : Waiting) (m : MachineFrame) : Type 0 where
  pub goes_on : GoesOnWith program h.frame h.terms h.outer m
  pub kinds : (k : ℕ) (x : Kind) (c : Cell) → h.result ≢ Some k → (goes_on.holdings k).kind ≡ Some x → h.frame.slots k ≡ Some c → c.note.kind ≡ x
  pub result : (k : ℕ) (x : Kind) → h.result ≡ Some k → (goes_on.holdings k).kind ≡ Some x → given ≡ Some x
  pub into : (k : ℕ) → h.result ≡ Some k → (0 < k) × (k < goes_on.has.body.slots)

-- the kind of what this frame gives back
abbrev pub kind_given_by : SilicaProgram → SilicaFrame → Option Kind
kind_given_by program f = kind_given program.table f.how f.contract f.tx

-- the frames that wait, one for one, and the slot that gets what the callee gives back
abbrev pub AllWaitFor : SilicaProgram → Option Kind → List Waiting → ℕ → List MachineFrame → Type 0
AllWaitFor program given [] into [] = ⊤
AllWaitFor program given [] into (m ∷ ms) = ⊥
AllWaitFor program given (h ∷ hs) into [] = ⊥
AllWaitFor program given (h ∷ hs) into (m ∷ ms) =
    (into ≡ result_slot h.result) × WaitsFor program given h m × AllWaitFor program (kind_given_by program h.frame) hs m.into ms

-- Configurations.

-- both run
pub record RunsAs (program : SilicaProgram) (c : Configuration) (m : machine.Configuration) : Type 0 where
  pub terms : SilicaTerms
  pub outer : List Rest
  pub control : c.control ≡ runs terms outer
  pub goes_on : GoesOnWith program c.frame terms outer m.top
  pub kinds : KindsHold goes_on.holdings c.frame.slots
  pub below : AllWaitFor program (kind_given_by program c.frame) c.stack m.top.into m.below
  pub world : SameWorld c.world m.world

-- what ends with a list, in the world
abbrev pub world_after_end : Ends → World → World
world_after_end plain_end w = w
world_after_end (test_end p) w = w
world_after_end (lock_end p n) w = unlock n w
world_after_end (loop_end first a body end) w = w

-- what ends with lists, the innermost first
abbrev pub world_after_ends : List Rest → World → World
world_after_ends [] w = w
world_after_ends (r ∷ outer) w = world_after_ends outer (world_after_end r.ends w)

-- an instruction returns this from a frame
abbrev pub Returns : Option Instruction → MachineFrame → Option Value → Type 0
Returns (Some instruction.Ret) f result = result ≡ given_by f.entered f.this None
Returns (Some (instruction.RetValue a)) f result = (v : Value) × (value_at f.slots a ≡ Some v) × (result ≡ given_by f.entered f.this (Some v))
Returns i f result = ⊥

-- the Silica run leaves its frame, and the machine is about to return
pub record LeavesAs (program : SilicaProgram) (c : Configuration) (m : machine.Configuration) : Type 0 where
  pub result : Option Cell
  pub outer : List Rest
  pub control : c.control ≡ leaves result outer
  pub frame : SameFrame c.frame m.top
  pub returns : Returns (next_instruction (code_of program) m) m.top (value_in result)
  pub below : AllWaitFor program (kind_given_by program c.frame) c.stack m.top.into m.below
  pub world : SameWorld (world_after_ends outer c.world) (without_locks m.top.tests m.world)

-- the machine's configuration represents that of the Silica run
pub data Matches (program : SilicaProgram) (c : Configuration) (m : machine.Configuration) : Type 0 where
  as_running : RunsAs program c m → Matches program c m
  as_leaving : LeavesAs program c m → Matches program c m

-- What the machine does for a step: in some steps it comes to a configuration that represents the next one, or to the same end.
abbrev pub DoesTo : SilicaProgram → Phase → NextStep → Type 0
DoesTo program p (goes d) =
    (n : ℕ) × (m : machine.Configuration) × (after_steps (code_of program) n p ≡ Some (paused (running m))) × Matches program d m
DoesTo program p (ended result w) =
    (n : ℕ) × (v : World) × (after_steps (code_of program) n p ≡ Some (over (machine.ended result v))) × SameWorld w v
DoesTo program p (aborted cause s) =
    (n : ℕ) × (t : Spent) × (after_steps (code_of program) n p ≡ Some (over (machine.aborted cause t))) × SameSpent s t
DoesTo program p stuck = ⊤

-- the same as a record
pub record Does (program : SilicaProgram) (m : machine.Configuration) (next : NextStep) : Type 0 where
  pub by : DoesTo program (running m) next

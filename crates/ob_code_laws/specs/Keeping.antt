-- What it means that code doesn't leave its slots, its code or its kinds (this project's own; the statement is that of Leroy, "Java
-- bytecode verification", J. Automated Reasoning 30, 2003, for this machine).
use Rattle.std.specs.Prelude.{◌≡◌, ◌≢◌, ℕ, ◌<◌, true, false, length, Option, Some, None, Contains, List, [], ◌∷◌, ⊤}
use Rattle.ob_base.specs.declared.id.ContractId.{ContractId}
use Rattle.ob_table.specs.declared.seen.Kind.{Kind}
use Rattle.ob_table.specs.declared.seen.Kind.TheVariants as kind
use Rattle.ob_heap_spec.specs.Values.{Value, reference}
use Rattle.ob_heap_spec.specs.Contents.{Content}
use Rattle.ob_heap_spec.specs.Worlds.{World}
use Rattle.ob_code.specs.declared.image.BodyCode.{BodyCode}
use Rattle.ob_code.specs.declared.image.ContractCode.{ContractCode}
use Rattle.ob_code.specs.declared.image.Image.{Image}
use Rattle.ob_code.specs.declared.instruction.Instruction.{Instruction}
use Rattle.ob_machine_steps.specs.Slots.{value_at}
use Rattle.ob_code.specs.Code.{no_result, is_interface}
use Rattle.ob_machine_steps.specs.Configurations.{MachineFrame, Entered, on_receiver, on_this, on_new, Configuration, ended}
use Rattle.ob_machine_steps.specs.Steps.{next_instruction}
use Rattle.ob_machine_steps.specs.Entries.{MachineEntry, running, started}
use Rattle.ob_machine_steps.specs.Runs.{paused, over, after_steps}
use Rattle.ob_verify_spec.specs.Frames.{kind_of_result}
use Rattle.ob_verify_spec.specs.Instructions.{reads, slot_set, leads, Need, needs}
use Rattle.ob_verify_spec.specs.Conditions.{may_go_on}
use Rattle.ob_verify_spec.specs.Laws.{frame_of, HasBody}
use Rattle.ob_code_laws.specs.Kinds.{IsSet, IsObjectOf, HaveFieldsOfKinds, AreMet, IsResultOf}
use Rattle.ob_code_laws.specs.Premises.{RefersAsDeclared, MayRun}

-- the slot that gets a frame's result, where one does, is one of the frame around it, and not that of its `this`
pub record IsSlotOf (f : MachineFrame) (into : ℕ) : Type 0 where
  pub other : into ≢ 0
  pub within : into ≢ no_result → into < length f.slots

-- the same of the first of the frames around it; where there is none the run gets the result
abbrev pub HasPlaceForResult : List MachineFrame → ℕ → Type 0
HasPlaceForResult [] into = ⊤
HasPlaceForResult (f ∷ fs) into = IsSlotOf f into

-- A configuration keeps to its code, its slots and its kinds. Of the innermost frame:
-- - its body is one of the image, of a contract, and has a next instruction; each place to which that may lead is in the body; and
--   each field, contract, state and body that it names is there;
-- - it has as many slots as the body has, and each that the instruction reads or sets is one of them, and not that of `this` where it
--   is set; the slot that gets its result is one of the frame around it;
-- - each slot that the instruction reads is set, and what the slots hold meets each of its needs; `this`, which slot 0 holds, is an
--   object of the body's contract.
-- Each field of each object that has a value has one of its kind.
pub record KeepsToCode (image : Image) (c : Configuration) : Type 0 where
  pub own : ContractCode
  pub body : BodyCode
  pub there : HasBody image c.top.contract own c.top.tx body
  pub contract : is_interface own ≡ false
  pub instruction : Instruction
  pub next : next_instruction image c ≡ Some instruction
  pub goes : may_go_on (frame_of image c.top.contract own body) c.top.at instruction ≡ true
  pub leads_within : (j : ℕ) → Contains (leads c.top.at instruction) j → j < length body.instructions
  pub slots : length c.top.slots ≡ body.slots
  pub reads_within : (k : ℕ) → Contains (reads instruction) k → k < length c.top.slots
  pub sets_within : (k : ℕ) → slot_set instruction ≡ Some k → (k ≢ 0) × (k < length c.top.slots)
  pub result : HasPlaceForResult c.below c.top.into
  pub reads_set : (k : ℕ) → Contains (reads instruction) k → IsSet c.top.slots k
  pub met : (n : Need) → Contains (needs (frame_of image c.top.contract own body) instruction) n → AreMet image c.world.objects c.top.slots n
  pub this : IsObjectOf c.world.objects c.top.contract c.top.this
  pub first : value_at c.top.slots 0 ≡ Some (reference c.top.this)
  pub objects : HaveFieldsOfKinds image c.world.objects

-- the kind of what a body gives: of a constructor its object's, of any other that of its result
abbrev pub kind_given : Entered → ContractId → BodyCode → Option Kind
kind_given on_receiver c b = kind_of_result b
kind_given on_this c b = kind_of_result b
kind_given on_new c b = Some (kind.Reference c)

-- how the body of an entry is entered
abbrev pub entered_by : Option ℕ → Entered
entered_by None = on_new
entered_by (Some n) = on_receiver

-- What a run from an entry ends with is of its kinds: its result is as the body declares, and so are the fields of the objects, of which
-- each reference names an object as the field declares, so that a further run may follow.
pub record EndsInKinds (image : Image) (e : MachineEntry) (result : Option Value) (w : World) : Type 0 where
  pub own : ContractCode
  pub body : BodyCode
  pub there : HasBody image e.contract own e.tx body
  pub gives : IsResultOf image w.objects (kind_given (entered_by e.receiver) e.contract body) result
  pub objects : HaveFieldsOfKinds image w.objects
  pub refers : RefersAsDeclared image w.objects

-- verified code that is run never leaves its slots, its code or its kinds
abbrev pub VerifiedCodeKeeps : Type 0
VerifiedCodeKeeps = (image : Image) (content : Content) (e : MachineEntry) → MayRun image content e → (fuel steps : ℕ) (c : Configuration)
    → after_steps image steps (started image e content.objects fuel) ≡ Some (paused (running c)) → KeepsToCode image c

-- what it ends with is of its kinds
abbrev pub VerifiedCodeEnds : Type 0
VerifiedCodeEnds = (image : Image) (content : Content) (e : MachineEntry) → MayRun image content e → (fuel steps : ℕ) (result : Option Value) (w : World)
    → after_steps image steps (started image e content.objects fuel) ≡ Some (over (ended result w)) → EndsInKinds image e result w

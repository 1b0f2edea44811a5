-- Where verified code that is run may have no next step (this project's own).
use Rattle.std.specs.Prelude.{◌≡◌, ℕ, false, [], Some, None}
use Rattle.ob_base.specs.declared.id.FieldId.{FieldId}
use Rattle.ob_base.specs.declared.id.StateId.{StateId}
use Rattle.ob_heap_spec.specs.Objects.{Object}
use Rattle.ob_heap_spec.specs.Contents.{Content}
use Rattle.ob_code.specs.declared.image.ContractCode.{ContractCode}
use Rattle.ob_code.specs.declared.image.Image.{Image}
use Rattle.ob_code.specs.declared.instruction.Instruction.{Instruction}
use Rattle.ob_code.specs.declared.instruction.Instruction.TheVariants as is
use Rattle.ob_code.specs.Code.{contract_code}
use Rattle.ob_code_table.specs.Images.{has_field_code}
use Rattle.ob_machine_steps.specs.Configurations.{Configuration}
use Rattle.ob_machine_steps.specs.Parts.{this_object}
use Rattle.ob_machine_steps.specs.Changing.{GivenSlots, are_available}
use Rattle.ob_machine_steps.specs.Steps.{next_instruction, step_of}
use Rattle.ob_machine_steps.specs.Entries.{MachineEntry, running, started}
use Rattle.ob_machine_steps.specs.Runs.{paused, after_steps}
use Rattle.ob_code_laws.specs.Premises.{MayRun}

-- a field of `this` has no value
pub record HasNoValue (c : Configuration) (field : FieldId) : Type 0 where
  pub object : Object
  pub there : this_object c ≡ Some object
  pub none : object.fields field.0 ≡ None

-- a field isn't available in the state of `this`
pub record IsNotAvailable (image : Image) (c : Configuration) (field : FieldId) : Type 0 where
  pub object : Object
  pub there : this_object c ≡ Some object
  pub own : ContractCode
  pub of : contract_code image object.contract ≡ Some own
  pub lacks : has_field_code own object.state field.0 ≡ false

-- a field that is given isn't available in the new state
pub record IsNotAvailableIn (image : Image) (c : Configuration) (state : StateId) (given : GivenSlots) : Type 0 where
  pub own : ContractCode
  pub of : contract_code image c.top.contract ≡ Some own
  pub lacks : are_available own state given ≡ false

-- an instruction of verified code has no step: it loads a field without a value, it sets or gives a field that isn't available, or it
-- ends a test where none is noted
abbrev pub LacksStep : Image → Configuration → Instruction → Type 0
LacksStep image c (is.Load k field) = HasNoValue c field
LacksStep image c (is.Store field a) = IsNotAvailable image c field
LacksStep image c (is.Change state given) = IsNotAvailableIn image c state given
LacksStep image c is.EndTest = c.top.tests ≡ []
LacksStep image c x = ⊥

-- where a run of verified code has no next step, it is for one of these causes
abbrev pub VerifiedCodeSteps : Type 0
VerifiedCodeSteps = (image : Image) (content : Content) (e : MachineEntry) → MayRun image content e → (fuel steps : ℕ) (c : Configuration)
    → after_steps image steps (started image e content.objects fuel) ≡ Some (paused (running c))
    → (x : Instruction) → next_instruction image c ≡ Some x → step_of image c ≡ None → LacksStep image c x

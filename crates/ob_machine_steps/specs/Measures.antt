-- How long a run can last (this project's own).
use Rattle.std.specs.Prelude.{◌≡◌, ◌⊎◌, ℕ, suc, ◌+◌, ◌-◌, ◌*◌, ◌<◌, max, List, [], ◌∷◌, length, Option, Some}
use Rattle.std.specs.Option.{option_map_or}
use Rattle.ob_base.specs.declared.id.ContractId.{ContractId}
use Rattle.ob_base.specs.declared.id.StateId.{StateId}
use Rattle.ob_base.specs.declared.id.TxId.{TxId}
use Rattle.ob_code.specs.declared.image.BodyCode.{BodyCode}
use Rattle.ob_code.specs.declared.image.ContractCode.{ContractCode}
use Rattle.ob_code.specs.declared.image.Image.{Image}
use Rattle.ob_code.specs.declared.instruction.Instruction.{Instruction}
use Rattle.ob_code.specs.declared.instruction.Instruction.TheVariants as instruction
use Rattle.ob_code.specs.Code.{body_code}
use Rattle.ob_code_table.specs.Images.{instruction_at}
use Rattle.ob_machine_steps.specs.Configurations.{MachineFrame, Configuration}
use Rattle.ob_machine_steps.specs.Entries.{Phase, starting, running}

-- the number of a body's instructions; where there is no body there are none
abbrev pub length_of : Option BodyCode → ℕ
length_of b = option_map_or (λ (x : BodyCode). length x.instructions) b 0

-- the number of the instructions of the longest of these bodies
abbrev pub longest_body : List BodyCode → ℕ
longest_body [] = 0
longest_body (b ∷ bs) = max (length b.instructions) (longest_body bs)

-- the same of the bodies of contracts
abbrev pub longest_of : List ContractCode → ℕ
longest_of [] = 0
longest_of (c ∷ cs) = max (longest_body c.bodies) (longest_of cs)

-- the number of the instructions of an image's longest body
abbrev pub longest : Image → ℕ
longest image = longest_of image.contracts

-- The work of a frame falls into rounds. A round ends at the first `unit` to which it comes: that begins the next one, and pays for it.

-- how many of so many instructions are left to a round, by the next one: none where that is a `unit`, which begins another round
abbrev pub left_of_round : Option Instruction → ℕ → ℕ
left_of_round (Some instruction.Unit) n = 0
left_of_round other n = n

-- how many instructions a frame has still before it in its round, at most, where jumps lead ahead or to a `unit`
abbrev pub rest : Image → MachineFrame → ℕ
rest image f = left_of_round (instruction_at image f.contract f.tx f.at) (length_of (body_code image f.contract f.tx) - f.at)

-- the same of all these frames
abbrev pub rests : Image → List MachineFrame → ℕ
rests image [] = 0
rests image (f ∷ fs) = rest image f + rests image fs

-- how many steps a configuration has still before it, at most: each unit that is left may begin one more round, and the last step may
-- be at a `unit` for which none is left
abbrev pub steps_most : Image → Configuration → ℕ
steps_most image c = suc ((rest image c.top + rests image c.below) + c.world.fuel * longest image)

-- the same of a run, wherever it is: before its body it has its first step, and each unit may begin a round
abbrev pub steps_left : Image → Phase → ℕ
steps_left image (starting e w) = suc (suc (w.fuel * longest image))
steps_left image (running c) = steps_most image c

-- a jump from one place of a body to another leads forward, or to a `unit`
abbrev pub IsAheadOrUnit : Image → ContractId → TxId → ℕ → ℕ → Type 0
IsAheadOrUnit image contract tx place target =
    (place < target) ⊎ (instruction_at image contract tx target ≡ Some instruction.Unit)

-- Each jump of an image leads ahead, or to a `unit`.
pub record LeadsAheadOrToUnit (image : Image) : Type 0 where
  pub jumps : (contract : ContractId) (tx : TxId) (place target : ℕ)
      → instruction_at image contract tx place ≡ Some (instruction.Jump target) → IsAheadOrUnit image contract tx place target
  pub branches : (contract : ContractId) (tx : TxId) (place a target : ℕ)
      → instruction_at image contract tx place ≡ Some (instruction.Unless a target) → IsAheadOrUnit image contract tx place target
  pub tests : (contract : ContractId) (tx : TxId) (place a : ℕ) (of : ContractId) (state : StateId) (target : ℕ)
      → instruction_at image contract tx place ≡ Some (instruction.Test a of state target) → IsAheadOrUnit image contract tx place target

-- The steps of the machine: one case for each instruction (this project's own).
use Rattle.std.specs.Prelude.{Option}
use Rattle.ob_base.specs.Optional.{◌>>=◌}
use Rattle.ob_code.specs.declared.image.Image.{Image}
use Rattle.ob_code.specs.declared.instruction.Instruction.{Instruction}
use Rattle.ob_code.specs.declared.instruction.Instruction.TheVariants as instruction
use Rattle.ob_code_table.specs.Images.{instruction_at}
use Rattle.ob_machine_steps.specs.Configurations.{Configuration, Next}
use Rattle.ob_machine_steps.specs.Straight.{unit_step, int_step, bool_step, text_step, copy_step, load_step, op_step, jump_step, unless_step, share_step, disown_step, revert_step}
use Rattle.ob_machine_steps.specs.Changing.{store_step, change_step}
use Rattle.ob_machine_steps.specs.Testing.{test_step, end_test_step}
use Rattle.ob_machine_steps.specs.Calling.{new_step, call_step, self_step}
use Rattle.ob_machine_steps.specs.Returning.{return_step, return_value_step}

-- the step of an instruction, if it has one
abbrev pub act : Image → Instruction → Configuration → Option Next
act image instruction.Unit c = unit_step c
act image (instruction.Int k z) c = int_step k z c
act image (instruction.Bool k b) c = bool_step k b c
act image (instruction.Text k bytes) c = text_step k bytes c
act image (instruction.Copy k a) c = copy_step k a c
act image (instruction.Load k field) c = load_step k field c
act image (instruction.Store field a) c = store_step image field a c
act image (instruction.Op k operator a b line) c = op_step k operator a b line c
act image (instruction.Jump target) c = jump_step target c
act image (instruction.Unless a target) c = unless_step a target c
act image (instruction.Test a contract state target) c = test_step image a contract state target c
act image instruction.EndTest c = end_test_step c
act image (instruction.Change state given) c = change_step image state given c
act image (instruction.New k contract args) c = new_step image k contract args c
act image (instruction.Call k a contract tx args) c = call_step image k a contract tx args c
act image (instruction.SelfCall k tx args) c = self_step image k tx args c
act image (instruction.Share a) c = share_step a c
act image (instruction.Disown a) c = disown_step a c
act image instruction.Ret c = return_step c
act image (instruction.RetValue a) c = return_value_step a c
act image (instruction.Revert a) c = revert_step a c

-- the instruction that is next in a configuration, if there is one
abbrev pub next_instruction : Image → Configuration → Option Instruction
next_instruction image c = instruction_at image c.top.contract c.top.tx c.top.at

-- the next step of a configuration, if it has one
abbrev pub step_of : Image → Configuration → Option Next
step_of image c = next_instruction image c >>= λ i. act image i c

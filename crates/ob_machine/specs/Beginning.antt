-- How the code begins a body (this project's own).
use Rattle.std.specs.Prelude.{ℕ, List, Option, Some}
use Rattle.ob_base.specs.Optional.{◌>>=◌}
use Rattle.ob_code.specs.declared.image.BodyCode.{BodyCode}
use Rattle.ob_code.specs.declared.image.Image.{Image}
use Rattle.ob_code.specs.Code.{body_code}
use Rattle.ob_code_table.specs.Images.{CalleeId}
use Rattle.ob_machine_steps.specs.Slots.{values_at}
use Rattle.ob_machine_steps.specs.Configurations.{Entered, MachineFrame, Configuration, Next, goes}
use Rattle.ob_machine_steps.specs.Parts.{waiting}
use Rattle.ob_machine_steps.specs.Calling.{caller, begun}
use Rattle.ob_machine_parts.specs.Arguments.{is_shared_in}

-- another frame begins, and the innermost one waits
abbrev pub begins : MachineFrame → Configuration → Next
begins f c = goes (record { top = f; below = waiting c; world = c.world })

-- a body runs on an object, with the values of slots as its arguments
abbrev pub runs : Image → ℕ → CalleeId → ℕ → Entered → List ℕ → Configuration → Option Next
runs image k id this entered args c =
    values_at c.top.slots args >>= λ vs.
    body_code image id.0 id.1 >>= λ (b : BodyCode).
    Some (goes (begun (caller c k) id b this vs entered (is_shared_in entered b c.top.share_entered) c.world))

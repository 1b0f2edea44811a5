-- How the code calls, once the unit of a call is taken (this project's own).
use Rattle.std.specs.Prelude.{ℕ, List, Option}
use Rattle.ob_base.specs.Optional.{◌>>=◌}
use Rattle.ob_base.specs.declared.id.ContractId.{ContractId}
use Rattle.ob_base.specs.declared.id.TxId.{TxId}
use Rattle.ob_code.specs.declared.image.Image.{Image}
use Rattle.ob_code_table.specs.Images.{constructor_of}
use Rattle.ob_machine_steps.specs.Slots.{values_at}
use Rattle.ob_machine_steps.specs.Configurations.{on_new, Configuration, Next}
use Rattle.ob_machine_steps.specs.Calling.{caller, calls_object, makes_object}
use Rattle.ob_machine.specs.Beginning.{runs}

-- a call of an object with the values of slots as its arguments
abbrev pub calls_with : Image → ℕ → ContractId → TxId → ℕ → List ℕ → Configuration → Option Next
calls_with image k contract tx n args c =
    values_at c.top.slots args >>= λ vs. calls_object image (caller c k) contract tx n vs c.world

-- a `new` with the values of slots as its arguments
abbrev pub makes_with : Image → ℕ → ContractId → List ℕ → Configuration → Option Next
makes_with image k contract args c =
    values_at c.top.slots args >>= λ vs. makes_object image (caller c k) contract (constructor_of image contract) vs c.world

-- a contract's constructor runs on an object
abbrev pub constructs_with : Image → ℕ → ContractId → ℕ → List ℕ → Configuration → Option Next
constructs_with image k contract this args c =
    constructor_of image contract >>= λ tx. runs image k (contract, tx) this on_new args c

-- Which body runs (this project's own).
use Rattle.std.specs.Prelude.{ℕ, Option, Some, None}
use Rattle.ob_base.specs.declared.id.ContractId.{ContractId}
use Rattle.ob_base.specs.declared.id.TxId.{TxId}
use Rattle.ob_code.specs.declared.image.Image.{Image}
use Rattle.ob_code_table.specs.Images.{constructor_of}

-- the number of the body that runs: on an object, that of its transaction; else that of the image's constructor
abbrev pub body_number : Image → Option ℕ → ContractId → TxId → Option TxId
body_number image None contract tx = constructor_of image contract
body_number image (Some n) contract tx = Some tx

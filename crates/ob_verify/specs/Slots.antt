-- How many slots bodies have.
use Rattle.std.specs.Prelude.{◌≤◌, All}
use Rattle.ob_code.specs.declared.image.BodyCode.{BodyCode}
use Rattle.ob_code.specs.declared.image.ContractCode.{ContractCode}

-- a byte says how many slots a body has
abbrev pub FitsByte : BodyCode → Type 0
FitsByte b = b.slots ≤ 255

-- so it is of each body of a contract
abbrev pub AllFitByte : ContractCode → Type 0
AllFitByte own = All FitsByte own.bodies

-- What one contract calls the states of another (this project's own).
use Rattle.std.specs.Prelude.{ℕ}
use Rattle.ob_perm.specs.Naming.{seen}
use Rattle.ob_code.specs.declared.image.ContractCode.{ContractCode}
use Rattle.ob_code_table.specs.Images.{naming_code}

-- what a contract or interface calls the state of a number of another one
abbrev pub named_as : ContractCode → ContractCode → ℕ → ℕ
named_as declared own number = seen (naming_code declared own) number

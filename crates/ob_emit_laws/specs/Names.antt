-- A class table without what no image has: names of parameters, the fields that transactions list, and bodies (this project's
-- own).
use Rattle.std.specs.Prelude.{[], map}
use Rattle.ob_table.specs.Tables.{ClassTable}
use Rattle.ob_table.specs.declared.contract.Contract.{Contract}
use Rattle.ob_table.specs.declared.contract.Param.{Param}
use Rattle.ob_table.specs.declared.contract.Signature.{Signature}

-- a parameter without its name
abbrev pub param_without_name : Param → Param
param_without_name p = record p { name = [] }

-- a constructor or transaction without the names of its parameters and the fields that it lists
abbrev pub signature_without_names : Signature → Signature
signature_without_names s = record s { params = map param_without_name s.params; listed = [] }

-- a contract or interface whose constructor and transactions are so
abbrev pub contract_without_names : Contract → Contract
contract_without_names c = record c { transactions = map signature_without_names c.transactions }

-- a class table whose contracts are so, without bodies
abbrev pub without_names : ClassTable → ClassTable
without_names table = record { contracts = map contract_without_names table.contracts; bodies = [] }

-- The parameters of a call, with `this` (this project's own).
use Rattle.std.specs.Prelude.{List, ◌∷◌, map}
use Rattle.ob_base.specs.declared.id.ContractId.{ContractId}
use Rattle.ob_base.specs.declared.permission.Perm.{Perm}
use Rattle.ob_table.specs.declared.contract.ResolvedType.{ResolvedType}
use Rattle.ob_table.specs.declared.contract.ResolvedType.TheVariants.{Reference}
use Rattle.ob_table.specs.declared.contract.Param.{Param}
use Rattle.ob_table.specs.declared.contract.Signature.{Signature}

-- a parameter, or `this`: its type with the permission at the entry, and the permission at the exit
pub record Parameter : Type 0 where
  pub of : ResolvedType
  pub exit : Perm

-- a parameter of a signature
abbrev pub parameter_of : Param → Parameter
parameter_of p = record { of = p.of; exit = p.exit }

-- the parameters beside `this`
abbrev pub parameters : Signature → List Parameter
parameters s = map parameter_of s.params

-- `this` of a transaction of a contract, as a parameter
abbrev pub this_parameter : ContractId → Signature → Parameter
this_parameter contract s = record { of = Reference contract s.entry; exit = s.exit }

-- `this` and the parameters beside it, by the numbers of their slots
abbrev pub all_parameters : ContractId → Signature → List Parameter
all_parameters contract s = this_parameter contract s ∷ parameters s

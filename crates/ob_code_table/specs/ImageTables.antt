-- The class table that an image gives: what its contracts declare, without the names of parameters, the fields that transactions
-- list, and bodies, none of which an image has (this project's own).
use Rattle.std.specs.Prelude.{ℕ, zero, suc, [], map, Option, Some, None, option_map}
use Rattle.ob_base.specs.declared.id.ContractId.{ContractId}
use Rattle.ob_base.specs.declared.permission.Mode.TheVariants.{Unowned}
use Rattle.ob_base.specs.declared.permission.Perm.{Perm}
use Rattle.ob_table.specs.Tables.{ClassTable}
use Rattle.ob_table.specs.declared.contract.Contract.{Contract}
use Rattle.ob_table.specs.declared.contract.Field.{Field}
use Rattle.ob_table.specs.declared.contract.Param.{Param}
use Rattle.ob_table.specs.declared.contract.ResolvedType.{ResolvedType}
use Rattle.ob_table.specs.declared.contract.ResolvedType.TheVariants as typed
use Rattle.ob_table.specs.declared.contract.Signature.{Signature}
use Rattle.ob_code.specs.declared.image.BodyCode.{BodyCode}
use Rattle.ob_code.specs.declared.image.ContractCode.{ContractCode}
use Rattle.ob_code.specs.declared.image.FieldCode.{FieldCode}
use Rattle.ob_code.specs.declared.image.Image.{Image}
use Rattle.ob_code.specs.declared.image.ParamCode.{ParamCode}
use Rattle.ob_code.specs.declared.image.ParamCode.TheVariants as param
use Rattle.ob_code.specs.declared.image.PermCode.{PermCode}
use Rattle.ob_code.specs.declared.image.TypeCode.{TypeCode}
use Rattle.ob_code.specs.declared.image.TypeCode.TheVariants as type
use Rattle.ob_code.specs.Code.{is_marked, is_interface, is_private}
use Rattle.ob_code_table.specs.Images.{constructor_number, bits_of}

-- a permission of an image
abbrev pub perm_of_code : PermCode → Perm
perm_of_code p = record { mode = p.mode; states = bits_of p.states }

-- the type of a field or a result
abbrev pub type_of_code : TypeCode → ResolvedType
type_of_code type.Int = typed.Int
type_of_code type.Bool = typed.Bool
type_of_code type.Text = typed.Text
type_of_code (type.Reference id p) = typed.Reference id (perm_of_code p)

-- the type of a parameter, with the permission at the entry
abbrev pub type_of_param : ParamCode → ResolvedType
type_of_param param.Int = typed.Int
type_of_param param.Bool = typed.Bool
type_of_param param.Text = typed.Text
type_of_param (param.Reference id entry exit) = typed.Reference id (perm_of_code entry)

-- the permission of a parameter at the exit
abbrev pub exit_of_param : ParamCode → Perm
exit_of_param (param.Reference id entry exit) = perm_of_code exit
exit_of_param kind = record { mode = Unowned; states = 0 }

-- a parameter, whose name an image doesn't have
abbrev pub param_of_code : ParamCode → Param
param_of_code p = record { name = []; of = type_of_param p; exit = exit_of_param p }

-- a field
abbrev pub field_of_code : FieldCode → Field
field_of_code f = record { name = f.name; of = type_of_code f.of; available = bits_of f.available }

-- a constructor or transaction
abbrev pub signature_of_code : BodyCode → Signature
signature_of_code b = record {
  name = b.name;
  private = is_private b;
  entry = perm_of_code b.entry;
  exit = perm_of_code b.exit;
  params = map param_of_code b.params;
  result = option_map type_of_code b.result;
  listed = [];
}

-- the interface that a contract implements: its number plus 1 is given, and 0 for none
abbrev pub interface_of : ℕ → Option ContractId
interface_of zero = None
interface_of (suc n) = Some (record { 0 = n })

-- a contract or interface
abbrev pub contract_of_code : ContractCode → Contract
contract_of_code c = record {
  name = c.name;
  asset = is_marked 0 c.flags;
  main = is_marked 1 c.flags;
  interface = is_interface c;
  implements = interface_of c.implements;
  states = c.states;
  fields = map field_of_code c.fields;
  constructor = constructor_number c;
  transactions = map signature_of_code c.bodies;
}

-- the class table of an image
abbrev pub table_of_image : Image → ClassTable
table_of_image image = record { contracts = map contract_of_code image.contracts; bodies = [] }

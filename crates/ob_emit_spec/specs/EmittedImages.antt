-- The image of a program: what its class table declares, and the code of its bodies (this project's own).
use Rattle.std.specs.Prelude.{ℕ, ◌+◌, suc, pos, Bool, ◌&&◌, not, List, [], ◌∷◌, map, find, Option, Some, None, option_map, if◌then◌else◌}
use Rattle.ob_base.specs.declared.id.ContractId.{ContractId}
use Rattle.ob_base.specs.declared.id.TxId.{TxId}
use Rattle.ob_base.specs.declared.permission.Perm.{Perm}
use Rattle.ob_perm.specs.Masks.{permission_of}
use Rattle.ob_perm.specs.Permissions.{is_shared}
use Rattle.ob_table.specs.Tables.{ClassTable}
use Rattle.ob_table.specs.declared.contract.Contract.{Contract}
use Rattle.ob_table.specs.declared.contract.Field.{Field}
use Rattle.ob_table.specs.declared.contract.Param.{Param}
use Rattle.ob_table.specs.declared.contract.ResolvedType.{ResolvedType}
use Rattle.ob_table.specs.declared.contract.ResolvedType.TheVariants as typed
use Rattle.ob_table.specs.declared.contract.Signature.{Signature}
use Rattle.ob_table_spec.specs.WellFormed.{frame_of, is_constructor}
use Rattle.ob_silica.specs.Terms.{SilicaBody}
use Rattle.ob_silica_formed.specs.Holdings.{held_at_start}
use Rattle.ob_silica_steps.specs.Configurations.{is_terms_of}
use Rattle.ob_code.specs.declared.image.BodyCode.{BodyCode}
use Rattle.ob_code.specs.declared.image.ContractCode.{ContractCode}
use Rattle.ob_code.specs.declared.image.FieldCode.{FieldCode}
use Rattle.ob_code.specs.declared.image.Image.{Image}
use Rattle.ob_code.specs.declared.image.ParamCode.{ParamCode}
use Rattle.ob_code.specs.declared.image.ParamCode.TheVariants as param
use Rattle.ob_code.specs.declared.image.PermCode.{PermCode}
use Rattle.ob_code.specs.declared.image.TypeCode.{TypeCode}
use Rattle.ob_code.specs.declared.image.TypeCode.TheVariants as type
use Rattle.ob_code.specs.declared.instruction.Instruction.{Instruction}
use Rattle.ob_emit_spec.specs.Emission.{EmissionFrame, terms_code, scratch_of_terms}

-- Declarations.

-- a permission
abbrev pub perm_code : Perm → PermCode
perm_code p = record { mode = p.mode; states = pos p.states }

-- the type of a field or a result
abbrev pub type_code : ResolvedType → TypeCode
type_code typed.Int = type.Int
type_code typed.Bool = type.Bool
type_code typed.Text = type.Text
type_code (typed.Reference id p) = type.Reference id (perm_code p)

-- the type of a parameter, with the permission at the exit
abbrev pub param_type_code : ResolvedType → Perm → ParamCode
param_type_code typed.Int exit = param.Int
param_type_code typed.Bool exit = param.Bool
param_type_code typed.Text exit = param.Text
param_type_code (typed.Reference id p) exit = param.Reference id (perm_code p) (perm_code exit)

-- a parameter, without its name
abbrev pub param_code : Param → ParamCode
param_code p = param_type_code p.of p.exit

-- a field
abbrev pub field_code : Field → FieldCode
field_code f = record { name = f.name; of = type_code f.of; available = pos f.available }

-- a mark that is set where something is so
abbrev pub mark_if : ℕ → Bool → ℕ
mark_if mark is_so = if is_so then mark else 0

-- the marks of a body: whether it is private, whether it is a constructor's, and whether it is no constructor's and declares `this`
-- Shared at the entry
abbrev pub body_marks : Bool → Signature → ℕ
body_marks constructs s =
    mark_if 1 s.private + mark_if 2 constructs + mark_if 4 (not constructs && is_shared (permission_of s.entry))

-- the marks of a contract: whether it is an asset, the main contract, and an interface
abbrev pub contract_marks : Contract → ℕ
contract_marks c = mark_if 1 c.asset + mark_if 2 c.main + mark_if 4 c.interface

-- the number of an interface plus 1, and 0 for none
abbrev pub implements_code : Option ContractId → ℕ
implements_code None = 0
implements_code (Some id) = suc id.0

-- Bodies.

-- a body with this signature, with so many slots and this code
abbrev pub signed_body : Bool → Signature → ℕ → List Instruction → BodyCode
signed_body constructs s slots code = record {
  name = s.name;
  flags = body_marks constructs s;
  entry = perm_code s.entry;
  exit = perm_code s.exit;
  params = map param_code s.params;
  result = option_map type_code s.result;
  slots = slots;
  instructions = code;
}

-- what stands around the forms of a body
abbrev pub frame_of_body : ClassTable → ContractId → Contract → TxId → Signature → SilicaBody → EmissionFrame
frame_of_body table id own tx s body = record {
  static = frame_of table id own s;
  signature = s;
  constructs = is_constructor table id tx.0;
  scratch = body.slots;
}

-- the code of a body
abbrev pub code_of_body : ClassTable → ContractId → Contract → TxId → Signature → SilicaBody → List Instruction
code_of_body table id own tx s body =
    terms_code (frame_of_body table id own tx s body) (held_at_start id s.params) body.terms 0

-- a constructor or transaction with its body; one of an interface has none, and so neither slots nor code
abbrev pub emitted_body : ClassTable → ContractId → Contract → TxId → Signature → Option SilicaBody → BodyCode
emitted_body table id own tx s None = signed_body (is_constructor table id tx.0) s 0 []
emitted_body table id own tx s (Some body) =
    signed_body (is_constructor table id tx.0) s (body.slots + scratch_of_terms body.terms) (code_of_body table id own tx s body)

-- a number as that of a constructor or transaction
abbrev pub tx_id : ℕ → TxId
tx_id n = record { 0 = n }

-- the constructor and the transactions of a contract from a number on
abbrev pub emitted_bodies : ClassTable → List SilicaBody → ContractId → Contract → ℕ → List Signature → List BodyCode
emitted_bodies table bodies id own n [] = []
emitted_bodies table bodies id own n (s ∷ ss) =
    emitted_body table id own (tx_id n) s (find (is_terms_of id (tx_id n)) bodies)
    ∷ emitted_bodies table bodies id own (n + 1) ss

-- Contracts.

-- a contract or interface with its bodies
abbrev pub emitted_contract : ClassTable → List SilicaBody → ContractId → Contract → ContractCode
emitted_contract table bodies id own = record {
  name = own.name;
  flags = contract_marks own;
  implements = implements_code own.implements;
  states = own.states;
  fields = map field_code own.fields;
  bodies = emitted_bodies table bodies id own 0 own.transactions;
}

-- the contracts and interfaces from a number on
abbrev pub emitted_contracts : ClassTable → List SilicaBody → ℕ → List Contract → List ContractCode
emitted_contracts table bodies n [] = []
emitted_contracts table bodies n (c ∷ cs) =
    emitted_contract table bodies (record { 0 = n }) c ∷ emitted_contracts table bodies (n + 1) cs

-- the image of a class table and the terms of its bodies
abbrev pub image_of : ClassTable → List SilicaBody → Image
image_of table bodies = record { contracts = emitted_contracts table bodies 0 table.contracts }

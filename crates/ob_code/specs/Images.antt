-- The bytes of an image (this project's own). Bytes, numbers and texts are spelled as ob_base writes them, and a word after
-- a colon only names the part. `x..` is several: as many as the count just before it.
--
--     image    = "OBI1" u32:contracts contract..
--     contract = text:name u8:flags(1 asset, 2 main, 4 interface) u32:implements+1
--                u32 text:state.. u32 field.. u32 body..
--     field    = text:name type i64:available
--     body     = text:name u8:flags(1 private, 2 constructor, 4 shared entry) permission:entry permission:exit
--                u32 param.. (u8 0 | u8 1 type):result u8:slots u32 instruction..
--     param    = type [permission:exit after a reference type]
--     type     = u8 0 int | 1 bool | 2 string | 3 u32:contract permission
--     permission = u8:mode(0 Owned, 1 Shared, 2 Unowned) i64:states
--
-- Bits of flags that aren't named are 0. The rows of instructions are in Instructions. Nothing follows an image.
use Rattle.std.specs.Prelude.{ℕ, Option, Some, None, [], ◌∷◌}
use Rattle.ob_base.specs.declared.id.ContractId.{ContractId}
use Rattle.ob_base.specs.declared.permission.Mode.{Mode}
use Rattle.ob_base.specs.declared.permission.Mode.TheVariants.{Owned, Shared, Unowned}
use Rattle.ob_format_spec.specs.Formats.{Format}
use Rattle.ob_format_spec.specs.Combinators.{byte_below, any_byte, number, integer, literal, constant, ◌⨟◌, of_parts, counted, variant, by_kinds}
use Rattle.ob_format_spec.specs.Texts.{text}
use Rattle.ob_format_spec.specs.Ids.{contract_id}
use Rattle.ob_code.specs.declared.image.PermCode.{PermCode}
use Rattle.ob_code.specs.declared.image.TypeCode.{TypeCode}
use Rattle.ob_code.specs.declared.image.TypeCode.TheVariants as of_type
use Rattle.ob_code.specs.declared.image.ParamCode.{ParamCode}
use Rattle.ob_code.specs.declared.image.ParamCode.TheVariants as of_param
use Rattle.ob_code.specs.declared.image.FieldCode.{FieldCode}
use Rattle.ob_code.specs.declared.image.BodyCode.{BodyCode}
use Rattle.ob_code.specs.declared.image.ContractCode.{ContractCode}
use Rattle.ob_code.specs.declared.image.Image.{Image}
use Rattle.ob_code.specs.Instructions.{instruction}

-- the byte of a mode
abbrev pub number_of_mode : Mode → ℕ
number_of_mode Owned = 0
number_of_mode Shared = 1
number_of_mode Unowned = 2

-- a mode
unfoldable pub mode : Format Mode
mode = by_kinds number_of_mode (constant Owned ∷ constant Shared ∷ constant Unowned ∷ [])

-- a permission
unfoldable pub permission : Format PermCode
permission = of_parts (λ p. record { mode = p.0; states = p.1 }) (λ p. (p.mode, p.states)) (mode ⨟ integer)

-- the byte of a type
abbrev pub number_of_type : TypeCode → ℕ
number_of_type of_type.Int = 0
number_of_type of_type.Bool = 1
number_of_type of_type.Text = 2
number_of_type (of_type.Reference c p) = 3

-- the contract of a reference type, and its permission
abbrev pub reference_parts : TypeCode → Option (ContractId × PermCode)
reference_parts (of_type.Reference c p) = Some (c, p)
reference_parts other = None

-- a reference type, after its byte
unfoldable pub reference : Format TypeCode
reference = variant (λ p. of_type.Reference p.0 p.1) reference_parts (contract_id ⨟ permission)

-- a type
unfoldable pub type_code : Format TypeCode
type_code = by_kinds number_of_type (constant of_type.Int ∷ constant of_type.Bool ∷ constant of_type.Text ∷ reference ∷ [])

-- the byte of a parameter's type
abbrev pub number_of_param : ParamCode → ℕ
number_of_param of_param.Int = 0
number_of_param of_param.Bool = 1
number_of_param of_param.Text = 2
number_of_param (of_param.Reference c entry exit) = 3

-- the contract of a parameter that is a reference, and its permissions at the entry and at the exit
abbrev pub reference_param_parts : ParamCode → Option (ContractId × (PermCode × PermCode))
reference_param_parts (of_param.Reference c entry exit) = Some (c, (entry, exit))
reference_param_parts other = None

-- a parameter that is a reference, after its byte
unfoldable pub reference_param : Format ParamCode
reference_param = variant (λ p. of_param.Reference p.0 p.1.0 p.1.1) reference_param_parts (contract_id ⨟ permission ⨟ permission)

-- a parameter
unfoldable pub param : Format ParamCode
param = by_kinds number_of_param (constant of_param.Int ∷ constant of_param.Bool ∷ constant of_param.Text ∷ reference_param ∷ [])

-- the byte of a result
abbrev pub number_of_result : Option TypeCode → ℕ
number_of_result None = 0
number_of_result (Some of) = 1

-- the type of a result, if there is one
unfoldable pub result_type : Format (Option TypeCode)
result_type = by_kinds number_of_result (constant None ∷ variant (λ of. Some of) (λ r. r) type_code ∷ [])

-- marks as bits, of which three are named
abbrev pub flags : Format ℕ
flags = byte_below 8

-- a field
unfoldable pub field : Format FieldCode
field = of_parts (λ p. record { name = p.0; of = p.1.0; available = p.1.1 }) (λ f. (f.name, (f.of, f.available))) (text ⨟ type_code ⨟ integer)

-- a body
unfoldable pub body : Format BodyCode
body = of_parts
    (λ p. record { name = p.0; flags = p.1.0; entry = p.1.1.0; exit = p.1.1.1.0; params = p.1.1.1.1.0; result = p.1.1.1.1.1.0; slots = p.1.1.1.1.1.1.0; instructions = p.1.1.1.1.1.1.1 })
    (λ b. (b.name, (b.flags, (b.entry, (b.exit, (b.params, (b.result, (b.slots, b.instructions))))))))
    (text ⨟ flags ⨟ permission ⨟ permission ⨟ counted param ⨟ result_type ⨟ any_byte ⨟ counted instruction)

-- a contract or an interface
unfoldable pub contract : Format ContractCode
contract = of_parts
    (λ p. record { name = p.0; flags = p.1.0; implements = p.1.1.0; states = p.1.1.1.0; fields = p.1.1.1.1.0; bodies = p.1.1.1.1.1 })
    (λ c. (c.name, (c.flags, (c.implements, (c.states, (c.fields, c.bodies))))))
    (text ⨟ flags ⨟ number ⨟ counted text ⨟ counted field ⨟ counted body)

-- an image: `OBI1`, and its contracts
unfoldable pub image : Format Image
image = of_parts (λ p. record { contracts = p.1 }) (λ i. (tt, i.contracts)) (literal (79 ∷ 66 ∷ 73 ∷ 49 ∷ []) ⨟ counted contract)

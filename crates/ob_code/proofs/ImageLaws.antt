-- The formats of an image are lawful.
use Rattle.std.proofs.Common.{◌≡◌, Option, Some, None, Result, Ok, Err, MatchResult, [], ◌∷◌, refl, sym, ap, arith}
use Rattle.ob_base.specs.declared.id.ContractId.{ContractId}
use Rattle.ob_base.specs.declared.permission.Mode.TheVariants.{Owned, Shared, Unowned}
use Rattle.ob_format_spec.specs.Formats.{Format}
use Rattle.ob_format_spec.specs.Combinators.{any_byte, number, integer, literal, constant, ◌⨟◌, counted, variant}
use Rattle.ob_format_spec.specs.Texts.{text}
use Rattle.ob_format_spec.specs.Ids.{contract_id}
use Rattle.ob_format_spec.specs.Lawful.{Lawful}
use Rattle.ob_format_spec.proofs.CombinatorLaws.{constant_lawful, both_lawful, of_parts_lawful}
use Rattle.ob_format_spec.proofs.NumberLaws.{byte_below_lawful, any_byte_lawful, number_lawful, integer_lawful, counted_lawful}
use Rattle.ob_format_spec.proofs.KindLaws.{literal_lawful, variant_lawful, variant_kind, kinds_lawful}
use Rattle.ob_format_spec.proofs.TextLaws.{text_lawful}
use Rattle.ob_format_spec.proofs.IdLaws.{contract_id_lawful}
use Rattle.ob_format_spec.proofs.Failing.{one_value, not_spelled}
use Rattle.ob_code.specs.declared.image.PermCode.{PermCode}
use Rattle.ob_code.specs.declared.image.TypeCode.{TypeCode}
use Rattle.ob_code.specs.declared.image.TypeCode.TheVariants as of_type
use Rattle.ob_code.specs.declared.image.ParamCode.{ParamCode}
use Rattle.ob_code.specs.declared.image.ParamCode.TheVariants as of_param
use Rattle.ob_code.specs.declared.error.CodeError.{CodeError}
use Rattle.ob_code.specs.declared.error.CodeError.TheVariants.{BadImage, Memory}
use Rattle.ob_code.specs.Decoding.{Decodes}
use Rattle.ob_code.specs.Instructions.{instruction}
use Rattle.ob_code.specs.Images.{number_of_mode, mode, permission, number_of_type, reference_parts, reference, type_code, number_of_param, reference_param_parts, reference_param, param, number_of_result, result_type, flags, field, body, contract, image}
use Rattle.ob_code.proofs.InstructionLaws.{instruction_lawful}

some_same : {A : Type 0} (x y : A) → Some x ≡ Some y → x ≡ y
some_same x y e = cc

mode_lawful : Lawful mode
unfolding mode
mode_lawful =
    kinds_lawful number_of_mode (constant Owned ∷ constant Shared ∷ constant Unowned ∷ [])
    (constant_lawful Owned, λ x is. ap number_of_mode is, (constant_lawful Shared, λ x is. ap number_of_mode is, (constant_lawful Unowned, λ x is. ap number_of_mode is, tt))) (omega arith)

permission_lawful : Lawful permission
unfolding permission
permission_lawful =
    of_parts_lawful (λ p. record { mode = p.0; states = p.1 }) (λ p. (p.mode, p.states)) (mode ⨟ integer) (λ p. refl) (λ p fits. refl) (both_lawful mode integer mode_lawful integer_lawful)

reference_again : (x : TypeCode) (p : ContractId × PermCode) → reference_parts x ≡ Some p → of_type.Reference p.0 p.1 ≡ x
reference_again (of_type.Reference c q) p e = cc
reference_again other p e = absurd cc

reference_lawful : Lawful reference
unfolding reference
reference_lawful =
    variant_lawful (λ p. of_type.Reference p.0 p.1) reference_parts (contract_id ⨟ permission) reference_again (λ p. refl) (both_lawful contract_id permission contract_id_lawful permission_lawful)

reference_kind : (x : TypeCode) → reference.fits x → number_of_type x ≡ 3
unfolding reference
reference_kind =
    variant_kind (λ p. of_type.Reference p.0 p.1) reference_parts (contract_id ⨟ permission) reference_again (λ p. refl) (both_lawful contract_id permission contract_id_lawful permission_lawful)
    number_of_type 3 (λ p. refl)

type_lawful : Lawful type_code
unfolding type_code
type_lawful =
    kinds_lawful number_of_type (constant of_type.Int ∷ constant of_type.Bool ∷ constant of_type.Text ∷ reference ∷ [])
    (constant_lawful of_type.Int, λ x is. ap number_of_type is, (constant_lawful of_type.Bool, λ x is. ap number_of_type is, (constant_lawful of_type.Text, λ x is. ap number_of_type is, (reference_lawful, reference_kind, tt))))
    (omega arith)

reference_param_again : (x : ParamCode) (p : ContractId × (PermCode × PermCode)) → reference_param_parts x ≡ Some p → of_param.Reference p.0 p.1.0 p.1.1 ≡ x
reference_param_again (of_param.Reference c entry exit) p e = ap (λ p. of_param.Reference p.0 p.1.0 p.1.1) (sym (some_same (c, (entry, exit)) p e))
reference_param_again other p e = absurd cc

reference_param_lawful : Lawful reference_param
unfolding reference_param
reference_param_lawful =
    variant_lawful (λ p. of_param.Reference p.0 p.1.0 p.1.1) reference_param_parts (contract_id ⨟ permission ⨟ permission) reference_param_again (λ p. refl)
    (both_lawful contract_id (permission ⨟ permission) contract_id_lawful (both_lawful permission permission permission_lawful permission_lawful))

reference_param_kind : (x : ParamCode) → reference_param.fits x → number_of_param x ≡ 3
unfolding reference_param
reference_param_kind =
    variant_kind (λ p. of_param.Reference p.0 p.1.0 p.1.1) reference_param_parts (contract_id ⨟ permission ⨟ permission) reference_param_again (λ p. refl)
    (both_lawful contract_id (permission ⨟ permission) contract_id_lawful (both_lawful permission permission permission_lawful permission_lawful)) number_of_param 3 (λ p. refl)

param_lawful : Lawful param
unfolding param
param_lawful =
    kinds_lawful number_of_param (constant of_param.Int ∷ constant of_param.Bool ∷ constant of_param.Text ∷ reference_param ∷ [])
    (constant_lawful of_param.Int, λ x is. ap number_of_param is, (constant_lawful of_param.Bool, λ x is. ap number_of_param is, (constant_lawful of_param.Text, λ x is. ap number_of_param is, (reference_param_lawful, reference_param_kind, tt))))
    (omega arith)

some_again : (x : Option TypeCode) (p : TypeCode) → x ≡ Some p → Some p ≡ x
some_again x p e = cc

result_lawful : Lawful result_type
unfolding result_type
result_lawful =
    kinds_lawful number_of_result (constant None ∷ variant (λ of. Some of) (λ r. r) type_code ∷ []) (
      constant_lawful None,
      λ x is. ap number_of_result is,
      (
        variant_lawful (λ of. Some of) (λ r. r) type_code some_again (λ p. refl) type_lawful,
        variant_kind (λ of. Some of) (λ r. r) type_code some_again (λ p. refl) type_lawful number_of_result 1 (λ p. refl),
        tt,
      ),
    ) (omega arith)

flags_lawful : Lawful flags
flags_lawful = byte_below_lawful 8 refl

field_lawful : Lawful field
unfolding field
field_lawful =
    of_parts_lawful (λ p. record { name = p.0; of = p.1.0; available = p.1.1 }) (λ f. (f.name, (f.of, f.available))) (text ⨟ type_code ⨟ integer) (λ f. refl) (λ p fits. refl)
    (both_lawful text (type_code ⨟ integer) text_lawful (both_lawful type_code integer type_lawful integer_lawful))

body_lawful : Lawful body
unfolding body
body_lawful =
    of_parts_lawful
    (λ p. record { name = p.0; flags = p.1.0; entry = p.1.1.0; exit = p.1.1.1.0; params = p.1.1.1.1.0; result = p.1.1.1.1.1.0; slots = p.1.1.1.1.1.1.0; instructions = p.1.1.1.1.1.1.1 })
    (λ b. (b.name, (b.flags, (b.entry, (b.exit, (b.params, (b.result, (b.slots, b.instructions))))))))
    (text ⨟ flags ⨟ permission ⨟ permission ⨟ counted param ⨟ result_type ⨟ any_byte ⨟ counted instruction) (λ b. refl) (λ p fits. refl)
    (both_lawful text (flags ⨟ permission ⨟ permission ⨟ counted param ⨟ result_type ⨟ any_byte ⨟ counted instruction) text_lawful
    (both_lawful flags (permission ⨟ permission ⨟ counted param ⨟ result_type ⨟ any_byte ⨟ counted instruction) flags_lawful
    (both_lawful permission (permission ⨟ counted param ⨟ result_type ⨟ any_byte ⨟ counted instruction) permission_lawful
    (both_lawful permission (counted param ⨟ result_type ⨟ any_byte ⨟ counted instruction) permission_lawful
    (both_lawful (counted param) (result_type ⨟ any_byte ⨟ counted instruction) (counted_lawful param param_lawful)
    (both_lawful result_type (any_byte ⨟ counted instruction) result_lawful
    (both_lawful any_byte (counted instruction) any_byte_lawful (counted_lawful instruction instruction_lawful))))))))

contract_lawful : Lawful contract
unfolding contract
contract_lawful =
    of_parts_lawful
    (λ p. record { name = p.0; flags = p.1.0; implements = p.1.1.0; states = p.1.1.1.0; fields = p.1.1.1.1.0; bodies = p.1.1.1.1.1 })
    (λ c. (c.name, (c.flags, (c.implements, (c.states, (c.fields, c.bodies))))))
    (text ⨟ flags ⨟ number ⨟ counted text ⨟ counted field ⨟ counted body) (λ c. refl) (λ p fits. refl)
    (both_lawful text (flags ⨟ number ⨟ counted text ⨟ counted field ⨟ counted body) text_lawful
    (both_lawful flags (number ⨟ counted text ⨟ counted field ⨟ counted body) flags_lawful
    (both_lawful number (counted text ⨟ counted field ⨟ counted body) number_lawful
    (both_lawful (counted text) (counted field ⨟ counted body) (counted_lawful text text_lawful)
    (both_lawful (counted field) (counted body) (counted_lawful field field_lawful) (counted_lawful body body_lawful))))))

pub image_lawful : Lawful image
unfolding image
image_lawful =
    of_parts_lawful (λ p. record { contracts = p.1 }) (λ i. (tt, i.contracts)) (literal (79 ∷ 66 ∷ 73 ∷ 49 ∷ []) ⨟ counted contract) (λ i. refl) (λ p fits. refl)
    (both_lawful (literal (79 ∷ 66 ∷ 73 ∷ 49 ∷ [])) (counted contract) (literal_lawful (79 ∷ 66 ∷ 73 ∷ 49 ∷ [])) (counted_lawful contract contract_lawful))

-- what is decoded from the spelling of a value
pub decoded_again : {A : Type 0} (f : Format A) → Lawful f → (x : A) (r : Result A CodeError) → f.fits x → Decodes f r (f.bytes x) → MatchResult r (λ y. y ≡ x) (λ e. e ≡ Memory)
decoded_again f a x (Ok y) fits is = one_value f a (f.bytes x) y x is record { fits = fits; is = refl }
decoded_again f a x (Err (BadImage k)) fits is = absurd (not_spelled f (f.bytes x) k x is record { fits = fits; is = refl })
decoded_again f a x (Err Memory) fits is = refl

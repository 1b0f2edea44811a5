-- The bytes of what an image declares.
use Rattle.std.proofs.Common.{◌≡◌, ℕ, ℤ, pos, suc, ◌+◌, Bool, List, [], ◌∷◌, ◌++◌, length, map, Option, Some, None, refl, sym, ap, ◌∙◌, arith, length-append}
use Rattle.std.specs.Prelude.{option_map}
use Rattle.ob_base.specs.Bytes.{u32_bytes, i64_bytes}
use Rattle.ob_base.specs.declared.permission.Mode.{Mode}
use Rattle.ob_base.specs.declared.permission.Mode.TheVariants.{Owned, Shared, Unowned}
use Rattle.ob_base.specs.declared.permission.Perm.{Perm}
use Rattle.ob_table.specs.declared.contract.Contract.{Contract}
use Rattle.ob_table.specs.declared.contract.Field.{Field}
use Rattle.ob_table.specs.declared.contract.Param.{Param}
use Rattle.ob_table.specs.declared.contract.ResolvedType.{ResolvedType}
use Rattle.ob_table.specs.declared.contract.ResolvedType.TheVariants as typed
use Rattle.ob_table.specs.declared.contract.Signature.{Signature}
use Rattle.ob_format_spec.specs.Combinators.{each_bytes}
use Rattle.ob_format_spec.specs.Texts.{text}
use Rattle.ob_code.specs.Images.{mode, permission, reference, type_code, reference_param, param, result_type, field, body, contract, image}
use Rattle.ob_code.specs.Instructions.{instruction}
use Rattle.ob_code.specs.declared.image.BodyCode.{BodyCode}
use Rattle.ob_code.specs.declared.image.ContractCode.{ContractCode}
use Rattle.ob_code.specs.declared.image.PermCode.{PermCode}
use Rattle.ob_code.specs.declared.instruction.Instruction.{Instruction}
use Rattle.ob_emit_spec.specs.EmittedImages as emitted
use Rattle.ob_emit_spec.specs.EmittedImages.{signed_body, mark_if}
use Rattle.ob_weight_laws.specs.Counting.{size_of_text, size_of_type, size_of_param_type, size_of_result, size_of_params, size_of_states, size_of_field, size_of_fields, size_of_signature}

pub four : (n : ℕ) → length (u32_bytes n) ≡ 4
four n = refl

pub eight : (z : ℤ) → length (i64_bytes z) ≡ 8
eight z = refl

one : (m : Mode) → length (mode.bytes m) ≡ 1
unfolding mode
one Owned = refl
one Shared = refl
one Unowned = refl

pub nine : (p : PermCode) → length (permission.bytes p) ≡ 9
unfolding permission
nine p =
    length-append (mode.bytes p.mode) (i64_bytes p.states)
    ∙ ap (λ n. n + length (i64_bytes p.states)) (one p.mode)
    ∙ ap (λ n. 1 + n) (eight p.states)

pub text_counted : (t : List ℕ) → length (text.bytes t) ≡ size_of_text t
unfolding text
text_counted t = length-append (u32_bytes (length t)) t ∙ ap (λ n. n + length t) (four (length t))

two_parts : (a b : List ℕ) (m n : ℕ) → length a ≡ m → length b ≡ n → length (a ++ b) ≡ m + n
two_parts a b m n e f = length-append a b ∙ ap (λ k. k + length b) e ∙ ap (λ k. m + k) f

pub type_counted : (of : ResolvedType) → length (type_code.bytes (emitted.type_code of)) ≡ size_of_type of
unfolding type_code reference
type_counted typed.Int = refl
type_counted typed.Bool = refl
type_counted typed.Text = refl
type_counted (typed.Reference id p) =
    ap (λ n. suc n) (two_parts (u32_bytes id.0) (permission.bytes (emitted.perm_code p)) 4 9 (four id.0)
    (nine (emitted.perm_code p)))

param_type_counted : (of : ResolvedType) (exit : Perm) → length (param.bytes (emitted.param_type_code of exit))
    ≡ size_of_param_type of
unfolding param reference_param
param_type_counted typed.Int exit = refl
param_type_counted typed.Bool exit = refl
param_type_counted typed.Text exit = refl
param_type_counted (typed.Reference id p) exit =
    ap (λ n. suc n)
    (two_parts (u32_bytes id.0) (permission.bytes (emitted.perm_code p) ++ permission.bytes (emitted.perm_code exit)) 4 18
    (four id.0)
    (two_parts (permission.bytes (emitted.perm_code p)) (permission.bytes (emitted.perm_code exit)) 9 9
    (nine (emitted.perm_code p)) (nine (emitted.perm_code exit))))

params_counted : (ps : List Param) → length (each_bytes param.bytes (map emitted.param_code ps)) ≡ size_of_params ps
params_counted [] = refl
params_counted (p ∷ ps) =
    two_parts (param.bytes (emitted.param_code p)) (each_bytes param.bytes (map emitted.param_code ps)) (size_of_param_type p.of)
    (size_of_params ps) (param_type_counted p.of p.exit) (params_counted ps)

result_counted : (of : Option ResolvedType) → length (result_type.bytes (option_map emitted.type_code of)) ≡ size_of_result of
unfolding result_type
result_counted None = refl
result_counted (Some of) = ap (λ n. suc n) (type_counted of) ∙ sym (one_more (size_of_type of))
  where
    one_more : (n : ℕ) → 1 + n ≡ suc n
    one_more n = omega arith

states_counted : (ss : List (List ℕ)) → length (each_bytes text.bytes ss) ≡ size_of_states ss
states_counted [] = refl
states_counted (s ∷ ss) = two_parts (text.bytes s) (each_bytes text.bytes ss) (size_of_text s) (size_of_states ss)
    (text_counted s) (states_counted ss)

field_counted : (f : Field) → length (field.bytes (emitted.field_code f)) ≡ size_of_field f
unfolding field
field_counted f =
    two_parts (text.bytes f.name) (type_code.bytes (emitted.type_code f.of) ++ i64_bytes (pos f.available)) (size_of_text f.name)
    (size_of_type f.of + 8) (text_counted f.name)
    (two_parts (type_code.bytes (emitted.type_code f.of)) (i64_bytes (pos f.available)) (size_of_type f.of) 8
    (type_counted f.of) (eight (pos f.available)))
    ∙ sums (size_of_text f.name) (size_of_type f.of)
  where
    sums : (a b : ℕ) → a + (b + 8) ≡ (a + b) + 8
    sums a b = omega arith

fields_counted : (fs : List Field) → length (each_bytes field.bytes (map emitted.field_code fs)) ≡ size_of_fields fs
fields_counted [] = refl
fields_counted (f ∷ fs) =
    two_parts (field.bytes (emitted.field_code f)) (each_bytes field.bytes (map emitted.field_code fs)) (size_of_field f)
    (size_of_fields fs)
    (field_counted f) (fields_counted fs)

-- the bytes of instructions
abbrev pub size_of_code : List Instruction → ℕ
size_of_code code = length (each_bytes instruction.bytes code)

-- a body has the bytes of its signature and those of its instructions
pub body_counted : (constructs : Bool) (s : Signature) (slots : ℕ) (code : List Instruction)
    → length (body.bytes (signed_body constructs s slots code)) ≡ size_of_signature s + size_of_code code
unfolding body
body_counted constructs s slots code =
    two_parts (text.bytes s.name) _ (size_of_text s.name) _ (text_counted s.name)
    (ap (λ n. suc n)
    (two_parts (permission.bytes (emitted.perm_code s.entry)) _ 9 _ (nine (emitted.perm_code s.entry))
    (two_parts (permission.bytes (emitted.perm_code s.exit)) _ 9 _ (nine (emitted.perm_code s.exit))
    (two_parts (u32_bytes (length (map emitted.param_code s.params)) ++ each_bytes param.bytes
    (map emitted.param_code s.params)) _
    (4 + size_of_params s.params) _
    (two_parts (u32_bytes (length (map emitted.param_code s.params))) (each_bytes param.bytes (map emitted.param_code s.params)) 4
    (size_of_params s.params) (four (length (map emitted.param_code s.params))) (params_counted s.params))
    (two_parts (result_type.bytes (option_map emitted.type_code s.result)) _ (size_of_result s.result) _ (result_counted s.result)
    (ap (λ n. suc n)
    (two_parts (u32_bytes (length code)) (each_bytes instruction.bytes code) 4 (size_of_code code)
    (four (length code)) refl)))))))
    ∙ sums (size_of_text s.name) (size_of_params s.params) (size_of_result s.result) (size_of_code code)
  where
    sums : (a p r c : ℕ) → a + suc (9 + (9 + ((4 + p) + (r + suc (4 + c))))) ≡ (a + p + r + 28) + c
    sums a p r c = omega arith

-- a contract whose bodies have so many bytes
pub contract_counted : (own : Contract) (bodies : List BodyCode) (size : ℕ) → length (each_bytes body.bytes bodies) ≡ size
    → length (contract.bytes (record {
      name = own.name;
      flags = emitted.contract_marks own;
      implements = emitted.implements_code own.implements;
      states = own.states;
      fields = map emitted.field_code own.fields;
      bodies = bodies;
    }))
    ≡ size_of_text own.name + size_of_states own.states + size_of_fields own.fields + size + 17
unfolding contract
contract_counted own bodies size e =
    two_parts (text.bytes own.name) _ (size_of_text own.name) _ (text_counted own.name)
    (ap (λ n. suc n)
    (two_parts (u32_bytes (emitted.implements_code own.implements)) (states ++ (fields ++ codes)) 4 _
    (four (emitted.implements_code own.implements))
    (two_parts states (fields ++ codes) (4 + size_of_states own.states) _
    (two_parts (u32_bytes (length own.states)) (each_bytes text.bytes own.states) 4 (size_of_states own.states)
    (four (length own.states)) (states_counted own.states))
    (two_parts fields codes (4 + size_of_fields own.fields) (4 + size)
    (two_parts (u32_bytes (length (map emitted.field_code own.fields)))
    (each_bytes field.bytes (map emitted.field_code own.fields)) 4
    (size_of_fields own.fields) (four (length (map emitted.field_code own.fields))) (fields_counted own.fields))
    (two_parts (u32_bytes (length bodies)) (each_bytes body.bytes bodies) 4 size (four (length bodies)) e)))))
    ∙ sums (size_of_text own.name) (size_of_states own.states) (size_of_fields own.fields) size
  where
    states : List ℕ
    states = u32_bytes (length own.states) ++ each_bytes text.bytes own.states

    fields : List ℕ
    fields = u32_bytes (length (map emitted.field_code own.fields)) ++ each_bytes field.bytes (map emitted.field_code own.fields)

    codes : List ℕ
    codes = u32_bytes (length bodies) ++ each_bytes body.bytes bodies

    sums : (a s f b : ℕ) → a + suc (4 + ((4 + s) + ((4 + f) + (4 + b)))) ≡ a + s + f + b + 17
    sums a s f b = omega arith

-- an image whose contracts have so many bytes
pub image_counted : (contracts : List ContractCode) (size : ℕ) → length (each_bytes contract.bytes contracts) ≡ size
    → length (image.bytes (record { contracts = contracts })) ≡ size + 8
unfolding image
image_counted contracts size e =
    ap (λ n. suc (suc (suc (suc n))))
    (two_parts (u32_bytes (length contracts)) (each_bytes contract.bytes contracts) 4 size (four (length contracts)) e)
    ∙ sums size
  where
    sums : (b : ℕ) → suc (suc (suc (suc (4 + b)))) ≡ b + 8
    sums b = omega arith

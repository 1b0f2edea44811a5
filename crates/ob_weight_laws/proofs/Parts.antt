-- What a class table declares has a spelling.
use Rattle.std.proofs.Common.{◌≡◌, ◌≤◌, ◌<◌, ◌^◌, ℕ, zero, suc, ◌+◌, pos, Bool, true, false, List, [], ◌∷◌, length, map, Option, Some, None, IsTrue, refl, sym, subst, arith, inl, inr}
use Rattle.std.specs.Prelude.{FitsSigned, IfSome, All, not, ◌&&◌, nat_le, option_map}
use Rattle.std.specs.List.{list_all}
use Rattle.std.specs.Str.{IsAscii, IsUtf8}
use Rattle.std.specs.Int.{w64}
use Rattle.std.proofs.Math.Pow.{pow_mono}
use Rattle.std.proofs.lemmas.Bool.{and_parts, leb-true, ltb-true, lt-ltb}
use Rattle.std.proofs.lemmas.Bool.Decides.{nat_tests}
use Rattle.std.proofs.lemmas.List.{length-map}
use Rattle.std.proofs.lemmas.Str.{IsUtf8-from_ascii}
use Rattle.ob_base.specs.Limits.{longest_name}
use Rattle.ob_base.specs.Names.{is_letter_or_digit, begins_with_letter, is_word, is_name}
use Rattle.ob_base.specs.declared.permission.Mode.{Mode}
use Rattle.ob_base.specs.declared.permission.Mode.TheVariants.{Owned, Shared, Unowned}
use Rattle.ob_base.specs.declared.permission.Perm.{Perm}
use Rattle.ob_perm.specs.Masks.{mask_of, permission_of}
use Rattle.ob_perm.specs.Permissions.{is_shared}
use Rattle.ob_perm.specs.States.{anywhere, states_max}
use Rattle.ob_table.specs.Tables.{ClassTable, contract_at}
use Rattle.ob_table.specs.declared.contract.Contract.{Contract}
use Rattle.ob_table.specs.declared.contract.Field.{Field}
use Rattle.ob_table.specs.declared.contract.ResolvedType.{ResolvedType}
use Rattle.ob_table.specs.declared.contract.ResolvedType.TheVariants as typed
use Rattle.ob_table.specs.declared.contract.Signature.{Signature}
use Rattle.ob_table_spec.specs.Conditions.{IsClassTable, IsContract, IsPermOn, IsType, IsExitOf, IsParam, IsField, IsSignature, IsAvailability}
use Rattle.ob_places_laws.proofs.Tables.{there_is}
use Rattle.ob_format_spec.specs.Combinators.{Each}
use Rattle.ob_format_spec.specs.Texts.{text}
use Rattle.ob_code.specs.Images.{mode, permission, reference, type_code, reference_param, param, result_type, field, body, contract}
use Rattle.ob_code.specs.declared.image.BodyCode.{BodyCode}
use Rattle.ob_code.specs.declared.instruction.Instruction.{Instruction}
use Rattle.ob_emit_spec.specs.EmittedImages as emitted
use Rattle.ob_emit_spec.specs.EmittedImages.{signed_body, body_marks, mark_if, contract_marks, implements_code}
use Rattle.ob_weight_laws.proofs.Few.{contract_low}
use Rattle.ob_weight_laws.proofs.Rows.{AllFit, byte_below, text_fits}
use Rattle.ob_weight_laws.proofs.Spelled.{text_spelled}

-- Names.

letter : (b : ℕ) → is_letter_or_digit b ≡ true → b < 128
letter b e = grind (arith, nat_tests)

letters : (bytes : List ℕ) → list_all is_letter_or_digit bytes ≡ true → IsAscii bytes
letters [] e i = omega arith
letters (b ∷ bytes) e zero = letter b (and_parts (is_letter_or_digit b) (list_all is_letter_or_digit bytes) e).0
letters (b ∷ bytes) e (suc i) = letters bytes (and_parts (is_letter_or_digit b) (list_all is_letter_or_digit bytes) e).1 i

-- a name is ASCII, and so UTF-8
pub name_is_utf8 : (bytes : List ℕ) → IsTrue (is_name bytes) → IsUtf8 bytes
name_is_utf8 bytes e =
    let word = (and_parts (nat_le (length bytes) longest_name) (is_word bytes) e).1 in
    IsUtf8-from_ascii bytes (letters bytes (and_parts (begins_with_letter bytes) (list_all is_letter_or_digit bytes) word).1)

pub name_fits : (bytes : List ℕ) → IsTrue (is_name bytes) → text.fits bytes
name_fits bytes e =
    let few = leb-true (length bytes) 64 (and_parts (nat_le (length bytes) longest_name) (is_word bytes) e).0 in
    text_fits bytes (omega (arith, few)) (name_is_utf8 bytes e)

pub no_name_fits : text.fits []
no_name_fits = text_fits [] (omega arith) (IsUtf8-from_ascii [] (λ i. omega arith))

-- Permissions and types.

small_fits : (n : ℕ) → n < 2 ^ 34 → FitsSigned w64 (pos n)
small_fits n h = record { sfits = omega (arith, h) }

mode_fits : (m : Mode) → mode.fits m
unfolding mode
mode_fits Owned = (omega arith, refl)
mode_fits Shared = (omega arith, refl)
mode_fits Unowned = (omega arith, refl)

pub permission_fits : (c : Contract) (p : Perm) → IsPermOn c p → permission.fits (emitted.perm_code p)
unfolding permission
permission_fits c p is = (mode_fits p.mode, small_fits p.states is.low)

pub type_fits : (table : ClassTable) → IsClassTable table → (of : ResolvedType) → IsType table of
    → type_code.fits (emitted.type_code of)
unfolding type_code reference
type_fits table is typed.Int h = (omega arith, refl)
type_fits table is typed.Bool h = (omega arith, refl)
type_fits table is typed.Text h = (omega arith, refl)
type_fits table is (typed.Reference id p) h =
    let c = there_is (contract_at table id) (λ c. IsPermOn c p) h in
    let low = contract_low table is id c.0 c.1 in
    (omega arith, (omega (arith, low), permission_fits c.0 p c.2))

param_type_fits : (table : ClassTable) → IsClassTable table → (of : ResolvedType) (exit : Perm) → IsType table of
    → IsExitOf table of exit → param.fits (emitted.param_type_code of exit)
unfolding param reference_param
param_type_fits table is typed.Int exit h e = (omega arith, refl)
param_type_fits table is typed.Bool exit h e = (omega arith, refl)
param_type_fits table is typed.Text exit h e = (omega arith, refl)
param_type_fits table is (typed.Reference id p) exit h e =
    let c = there_is (contract_at table id) (λ c. IsPermOn c p) h in
    let d = there_is (contract_at table id) (λ c. IsPermOn c exit) e.0 in
    let low = contract_low table is id c.0 c.1 in
    (omega arith, (omega (arith, low), (permission_fits c.0 p c.2, permission_fits d.0 exit d.2)))

result_fits : (table : ClassTable) → IsClassTable table → (of : Option ResolvedType) → IfSome of (IsType table)
    → result_type.fits (option_map emitted.type_code of)
unfolding result_type
result_fits table is None h = (omega arith, refl)
result_fits table is (Some of) h = (omega arith, type_fits table is of h)

-- Lists.

-- each of what a list is mapped to has a spelling
pub each_mapped : {A B : Type 0} (P : A → Type 0) (Q : B → Type 0) (f : A → B) → ((x : A) → P x → Q (f x))
    → (xs : List A) → All P xs → Each Q (map f xs)
each_mapped P Q f from [] all = tt
each_mapped P Q f from (x ∷ xs) all =
    (from x (all 0 x (omega arith)), each_mapped P Q f from xs (λ k d lt. all (suc k) d (omega arith)))

pub each_of : {A : Type 0} (P Q : A → Type 0) → ((x : A) → P x → Q x) → (xs : List A) → All P xs → Each Q xs
each_of P Q from [] all = tt
each_of P Q from (x ∷ xs) all = (from x (all 0 x (omega arith)), each_of P Q from xs (λ k d lt. all (suc k) d (omega arith)))

-- Fields.

anywhere_low : mask_of anywhere < 2 ^ 34
unfolding states_max
anywhere_low = ltb-true (mask_of anywhere) (2 ^ 34) refl

available_low : (states available : ℕ) → states ≤ 32 → IsAvailability states available → available < 2 ^ 34
available_low states available few (inl e) = subst (λ n. n < 2 ^ 34) (sym e) anywhere_low
available_low states available few (inr h) =
    let lt = h.1 in
    let more = pow_mono {i = states} {j = 32} few in
    omega (arith, lt, more)

pub field_fits : (table : ClassTable) → IsClassTable table → (c : Contract) → length c.states ≤ 32 → (f : Field) → IsField table c f
    → field.fits (emitted.field_code f)
unfolding field
field_fits table is c few f h = (
  name_fits f.name h.name,
  (type_fits table is f.of h.kind, small_fits f.available (available_low (length c.states) f.available few h.available)),
)

-- Bodies.

marks_low : (a b c : Bool) → mark_if 1 a + mark_if 2 b + mark_if 4 c < 8
marks_low true true true = omega arith
marks_low true true false = omega arith
marks_low true false true = omega arith
marks_low true false false = omega arith
marks_low false true true = omega arith
marks_low false true false = omega arith
marks_low false false true = omega arith
marks_low false false false = omega arith

-- a body with a signature and such code
pub signed_fits : (table : ClassTable) → IsClassTable table → (c : Contract) (s : Signature) → IsSignature table c s
    → text.fits s.name → (constructs : Bool) (slots : ℕ) (code : List Instruction) → slots < 256 → length code < 2 ^ 32
    → AllFit code → body.fits (signed_body constructs s slots code)
unfolding body
signed_fits table is c s h name constructs slots code few counted each =
    let params = h.few in
    let count : length (map emitted.param_code s.params) ≡ length s.params = length-map s.params emitted.param_code in (
      name,
      (
        lt-ltb (body_marks constructs s) 8 (marks_low s.private constructs (not constructs && is_shared (permission_of s.entry))),
        (
          permission_fits c s.entry h.entry,
          (
            permission_fits c s.exit h.exit,
            (
              (
                omega (arith, params, count),
                (
                  refl,
                  each_mapped (IsParam table) param.fits emitted.param_code
                      (λ p x. param_type_fits table is p.of p.exit x.kind x.exit) s.params h.params,
                ),
              ),
              (result_fits table is s.result h.result, (byte_below slots few, (counted, (refl, each)))),
            ),
          ),
        ),
      ),
    )

-- Contracts.

-- a contract whose bodies have a spelling
pub contract_fits : (table : ClassTable) → IsClassTable table → (c : Contract) → IsContract table c → (bodies : List BodyCode)
    → length bodies < 2 ^ 32 → Each body.fits bodies → implements_code c.implements < 2 ^ 32
    → contract.fits (record {
      name = c.name;
      flags = contract_marks c;
      implements = implements_code c.implements;
      states = c.states;
      fields = map emitted.field_code c.fields;
      bodies = bodies;
    })
unfolding contract
contract_fits table is c h bodies counted each implements =
    let name = text_spelled c.name h.name in
    let states = h.few_states in
    let fields = h.few_fields in
    let count : length (map emitted.field_code c.fields) ≡ length c.fields = length-map c.fields emitted.field_code in (
      text_fits c.name name.0 name.1,
      (
        lt-ltb (contract_marks c) 8 (marks_low c.asset c.main c.interface),
        (
          implements,
          (
            (
              omega (arith, states),
              (refl, each_of (λ state. IsTrue (is_name state)) text.fits name_fits c.states h.state_names),
            ),
            (
              (
                omega (arith, fields, count),
                (
                  refl,
                  each_mapped (IsField table c) field.fits emitted.field_code (λ f x. field_fits table is c states f x) c.fields
                      h.fields,
                ),
              ),
              (counted, (refl, each)),
            ),
          ),
        ),
      ),
    )

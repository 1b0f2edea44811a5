-- Which instructions have a spelling.
use Rattle.std.proofs.Common.{◌<◌, ◌≤◌, ◌^◌, ℕ, ℤ, pos, negsuc, List, [], ◌∷◌, ◌++◌, length, IsTrue, refl, arith}
use Rattle.std.specs.Prelude.{FitsSigned}
use Rattle.std.specs.Int.{w64}
use Rattle.std.specs.Str.{IsUtf8}
use Rattle.std.proofs.lemmas.Bool.{lt-ltb, ltb-true}
use Rattle.ob_base.specs.Numbers.{is_int}
use Rattle.ob_base.specs.declared.id.ContractId.{ContractId}
use Rattle.ob_base.specs.declared.id.FieldId.{FieldId}
use Rattle.ob_base.specs.declared.id.StateId.{StateId}
use Rattle.ob_base.specs.declared.id.TxId.{TxId}
use Rattle.ob_base.specs.declared.operator.Operator.{Operator}
use Rattle.ob_base.specs.declared.operator.Operator.TheVariants as operators
use Rattle.ob_format_spec.specs.Combinators.{any_byte, Each, ◌⨟◌}
use Rattle.ob_format_spec.specs.Ids.{field_id}
use Rattle.ob_format_spec.specs.Texts.{text}
use Rattle.ob_code.specs.Instructions.{instruction, operator, int_code, bool_code, text_code, copy_code, load_code, store_code, op_code, jump_code, unless_code, test_code, change_code, new_code, call_code, self_call_code, share_code, disown_code, ret_value_code, revert_code}
use Rattle.ob_code.specs.declared.instruction.Instruction.{Instruction}
use Rattle.ob_code.specs.declared.instruction.Instruction.TheVariants as does

-- an instruction has a spelling
abbrev pub Fits : Instruction → Type 0
Fits i = instruction.fits i

-- each of these has one
abbrev pub AllFit : List Instruction → Type 0
AllFit = Each instruction.fits

-- a number is one of a byte
abbrev pub IsByte : ℕ → Type 0
IsByte = any_byte.fits

-- a given field with its slot
abbrev pub IsPair : FieldId × ℕ → Type 0
IsPair = (field_id ⨟ any_byte).fits

pub byte_below : (b : ℕ) → b < 256 → IsByte b
byte_below b h = lt-ltb b 256 h

pub one_fits : (i : Instruction) → Fits i → AllFit (i ∷ [])
one_fits i h = (h, tt)

pub both_fit : (a b : List Instruction) → AllFit a → AllFit b → AllFit (a ++ b)
both_fit [] b h k = k
both_fit (i ∷ a) b h k = (h.0, both_fit a b h.1 k)

pub int_in_range : (z : ℤ) → IsTrue (is_int z) → FitsSigned w64 z
int_in_range (pos n) h = record { sfits = ltb-true n (2 ^ 63) h }
int_in_range (negsuc n) h = record { sfits = ltb-true n (2 ^ 63) h }

pub text_fits : (t : List ℕ) → length t ≤ 1024 → IsUtf8 t → text.fits t
unfolding text
text_fits t few utf8 = (omega (arith, few), (refl, utf8))

pub unit_fits : Fits does.Unit
unfolding instruction
unit_fits = (omega arith, refl)

pub int_fits : (k : ℕ) (z : ℤ) → IsByte k → FitsSigned w64 z → Fits (does.Int k z)
unfolding instruction int_code
int_fits k z hk hz = (omega arith, (hk, hz))

pub bool_fits : (k b : ℕ) → IsByte k → b < 2 → Fits (does.Bool k b)
unfolding instruction bool_code
bool_fits k b hk hb = (omega arith, (hk, lt-ltb b 2 hb))

pub text_instruction_fits : (k : ℕ) (t : List ℕ) → IsByte k → text.fits t → Fits (does.Text k t)
unfolding instruction text_code
text_instruction_fits k t hk ht = (omega arith, (hk, ht))

pub copy_fits : (k a : ℕ) → IsByte k → IsByte a → Fits (does.Copy k a)
unfolding instruction copy_code
copy_fits k a hk ha = (omega arith, (hk, ha))

pub load_instruction_fits : (k : ℕ) (f : FieldId) → IsByte k → IsByte f.0 → Fits (does.Load k f)
unfolding instruction load_code
load_instruction_fits k f hk hf = (omega arith, (hk, hf))

pub store_fits : (f : FieldId) (a : ℕ) → IsByte f.0 → IsByte a → Fits (does.Store f a)
unfolding instruction store_code
store_fits f a hf ha = (omega arith, (hf, ha))

operator_fits : (o : Operator) → operator.fits o
unfolding operator
operator_fits operators.Add = (omega arith, refl)
operator_fits operators.Sub = (omega arith, refl)
operator_fits operators.Mul = (omega arith, refl)
operator_fits operators.Div = (omega arith, refl)
operator_fits operators.Rem = (omega arith, refl)
operator_fits operators.Equal = (omega arith, refl)
operator_fits operators.NotEqual = (omega arith, refl)
operator_fits operators.Less = (omega arith, refl)
operator_fits operators.LessEqual = (omega arith, refl)
operator_fits operators.Greater = (omega arith, refl)
operator_fits operators.GreaterEqual = (omega arith, refl)
operator_fits operators.And = (omega arith, refl)
operator_fits operators.Or = (omega arith, refl)
operator_fits operators.Not = (omega arith, refl)
operator_fits operators.Negate = (omega arith, refl)

pub op_fits : (k : ℕ) (o : Operator) (a b line : ℕ) → IsByte k → IsByte a → IsByte b → line < 2 ^ 32 → Fits (does.Op k o a b line)
unfolding instruction op_code
op_fits k o a b line hk ha hb hl = (omega arith, (hk, (operator_fits o, (ha, (hb, hl)))))

pub jump_fits : (t : ℕ) → t < 2 ^ 32 → Fits (does.Jump t)
unfolding instruction jump_code
jump_fits t h = (omega arith, h)

pub unless_fits : (a t : ℕ) → IsByte a → t < 2 ^ 32 → Fits (does.Unless a t)
unfolding instruction unless_code
unless_fits a t ha ht = (omega arith, (ha, ht))

pub test_fits : (a : ℕ) (c : ContractId) (s : StateId) (t : ℕ) → IsByte a → c.0 < 2 ^ 32 → IsByte s.0 → t < 2 ^ 32
    → Fits (does.Test a c s t)
unfolding instruction test_code
test_fits a c s t ha hc hs ht = (omega arith, (ha, (hc, (hs, ht))))

pub end_fits : Fits does.EndTest
unfolding instruction
end_fits = (omega arith, refl)

pub change_fits : (s : StateId) (gs : List (FieldId × ℕ)) → IsByte s.0 → length gs < 256 → Each IsPair gs
    → Fits (does.Change s gs)
unfolding instruction change_code
change_fits s gs hs few each = (omega arith, (hs, (byte_below (length gs) few, (refl, each))))

pub new_fits : (k : ℕ) (c : ContractId) (xs : List ℕ) → IsByte k → c.0 < 2 ^ 32 → length xs < 256 → Each IsByte xs
    → Fits (does.New k c xs)
unfolding instruction new_code
new_fits k c xs hk hc few each = (omega arith, (hk, (hc, (byte_below (length xs) few, (refl, each)))))

pub call_fits : (k a : ℕ) (c : ContractId) (x : TxId) (xs : List ℕ) → IsByte k → IsByte a → c.0 < 2 ^ 32 → x.0 < 2 ^ 32
    → length xs < 256 → Each IsByte xs → Fits (does.Call k a c x xs)
unfolding instruction call_code
call_fits k a c x xs hk ha hc hx few each =
    (omega arith, (hk, (ha, (hc, (hx, (byte_below (length xs) few, (refl, each)))))))

pub self_call_fits : (k : ℕ) (x : TxId) (xs : List ℕ) → IsByte k → x.0 < 2 ^ 32 → length xs < 256 → Each IsByte xs
    → Fits (does.SelfCall k x xs)
unfolding instruction self_call_code
self_call_fits k x xs hk hx few each = (omega arith, (hk, (hx, (byte_below (length xs) few, (refl, each)))))

pub share_instruction_fits : (a : ℕ) → IsByte a → Fits (does.Share a)
unfolding instruction share_code
share_instruction_fits a h = (omega arith, h)

pub disown_fits : (a : ℕ) → IsByte a → Fits (does.Disown a)
unfolding instruction disown_code
disown_fits a h = (omega arith, h)

pub ret_fits : Fits does.Ret
unfolding instruction
ret_fits = (omega arith, refl)

pub ret_value_fits : (a : ℕ) → IsByte a → Fits (does.RetValue a)
unfolding instruction ret_value_code
ret_value_fits a h = (omega arith, h)

pub revert_fits : (a : ℕ) → IsByte a → Fits (does.Revert a)
unfolding instruction revert_code
revert_fits a h = (omega arith, h)

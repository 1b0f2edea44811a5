-- The bytes of the code of forms.
use Rattle.std.proofs.Common.{◌≡◌, ◌≤◌, ℕ, ℤ, suc, ◌+◌, List, [], ◌∷◌, ◌++◌, length, refl, sym, ap, ◌∙◌, arith, length-append}
use Rattle.ob_base.specs.Bytes.{u32_bytes}
use Rattle.ob_base.specs.declared.id.ContractId.{ContractId}
use Rattle.ob_base.specs.declared.id.FieldId.{FieldId}
use Rattle.ob_base.specs.declared.id.StateId.{StateId}
use Rattle.ob_base.specs.declared.id.TxId.{TxId}
use Rattle.ob_base.specs.declared.operator.Operator.{Operator}
use Rattle.ob_base.specs.declared.operator.Operator.TheVariants as operators
use Rattle.ob_format_spec.specs.Combinators.{any_byte, each_bytes, ◌⨟◌}
use Rattle.ob_format_spec.specs.Ids.{field_id}
use Rattle.ob_code.specs.Instructions.{instruction, operator, int_code, bool_code, text_code, copy_code, load_code, store_code, op_code, jump_code, unless_code, test_code, change_code, new_code, call_code, self_call_code, share_code, disown_code, ret_value_code, revert_code}
use Rattle.ob_format_spec.specs.Texts.{text}
use Rattle.ob_code.specs.declared.instruction.Instruction.{Instruction}
use Rattle.ob_code.specs.declared.instruction.Instruction.TheVariants as does
use Rattle.ob_weight_laws.proofs.Declared.{size_of_code}

-- Instructions one after another.

pub size_more : (a b : List Instruction) → size_of_code (a ++ b) ≡ size_of_code a + size_of_code b
size_more [] b = sym (zero_more (size_of_code b))
  where
    zero_more : (n : ℕ) → 0 + n ≡ n
    zero_more n = omega arith
size_more (i ∷ a) b =
    length-append (instruction.bytes i) (each_bytes instruction.bytes (a ++ b))
    ∙ ap (λ n. length (instruction.bytes i) + n) (size_more a b)
    ∙ sum (length (instruction.bytes i)) (size_of_code a) (size_of_code b) (size_of_code (i ∷ a))
    (length-append (instruction.bytes i) (each_bytes instruction.bytes a))
  where
    sum : (m s t u : ℕ) → u ≡ m + s → m + (s + t) ≡ u + t
    sum m s t u e = omega (arith, e)

pub within_both : (a b : List Instruction) (m n : ℕ) → size_of_code a ≤ m → size_of_code b ≤ n → size_of_code (a ++ b) ≤ m + n
within_both a b m n h k = let e = size_more a b in omega (arith, e, h, k)

size_one : (i : Instruction) (n : ℕ) → length (instruction.bytes i) ≡ n → size_of_code (i ∷ []) ≡ n
size_one i n e = length-append (instruction.bytes i) [] ∙ sum (length (instruction.bytes i)) n e
  where
    sum : (m n : ℕ) → m ≡ n → m + 0 ≡ n
    sum m n e = omega (arith, e)

pub within_one : (i : Instruction) (n m : ℕ) → length (instruction.bytes i) ≡ n → n ≤ m → size_of_code (i ∷ []) ≤ m
within_one i n m e h = let k = size_one i n e in omega (arith, k, h)

-- Rows of instructions.

byte_each : (xs : List ℕ) → length (each_bytes any_byte.bytes xs) ≡ length xs
byte_each [] = refl
byte_each (x ∷ xs) = ap (λ n. suc n) (byte_each xs)

pair_each : (gs : List (FieldId × ℕ)) → length (each_bytes (field_id ⨟ any_byte).bytes gs) ≡ length gs + length gs
pair_each [] = refl
pair_each (g ∷ gs) = ap (λ n. suc (suc n)) (pair_each gs) ∙ sum (length gs)
  where
    sum : (n : ℕ) → suc (suc (n + n)) ≡ suc n + suc n
    sum n = omega arith

abbrev pub Counts : Instruction → ℕ → Type 0
Counts i n = length (instruction.bytes i) ≡ n

pub unit_row : Counts does.Unit 1
unfolding instruction
unit_row = refl

pub int_row : (k : ℕ) (z : ℤ) → Counts (does.Int k z) 10
unfolding instruction int_code
int_row k z = refl

pub bool_row : (k b : ℕ) → Counts (does.Bool k b) 3
unfolding instruction bool_code
bool_row k b = refl

pub text_row : (k : ℕ) (t : List ℕ) → Counts (does.Text k t) (6 + length t)
unfolding instruction text_code text
text_row k t = sum (length t)
  where
    sum : (n : ℕ) → suc (suc (suc (suc (suc (suc n))))) ≡ 6 + n
    sum n = omega arith

pub copy_row : (k a : ℕ) → Counts (does.Copy k a) 3
unfolding instruction copy_code
copy_row k a = refl

pub load_row : (k : ℕ) (f : FieldId) → Counts (does.Load k f) 3
unfolding instruction load_code
load_row k f = refl

pub store_row : (f : FieldId) (a : ℕ) → Counts (does.Store f a) 3
unfolding instruction store_code
store_row f a = refl

operator_row : (o : Operator) → length (operator.bytes o) ≡ 1
unfolding operator
operator_row operators.Add = refl
operator_row operators.Sub = refl
operator_row operators.Mul = refl
operator_row operators.Div = refl
operator_row operators.Rem = refl
operator_row operators.Equal = refl
operator_row operators.NotEqual = refl
operator_row operators.Less = refl
operator_row operators.LessEqual = refl
operator_row operators.Greater = refl
operator_row operators.GreaterEqual = refl
operator_row operators.And = refl
operator_row operators.Or = refl
operator_row operators.Not = refl
operator_row operators.Negate = refl

pub op_row : (k : ℕ) (o : Operator) (a b line : ℕ) → Counts (does.Op k o a b line) 9
unfolding instruction op_code
op_row k o a b line =
    ap (λ n. suc (suc n)) (length-append (operator.bytes o) (a ∷ b ∷ u32_bytes line) ∙ ap (λ n. n + 6) (operator_row o))

pub jump_row : (t : ℕ) → Counts (does.Jump t) 5
unfolding instruction jump_code
jump_row t = refl

pub unless_row : (a t : ℕ) → Counts (does.Unless a t) 6
unfolding instruction unless_code
unless_row a t = refl

pub test_row : (a : ℕ) (c : ContractId) (s : StateId) (t : ℕ) → Counts (does.Test a c s t) 11
unfolding instruction test_code
test_row a c s t = refl

pub end_row : Counts does.EndTest 1
unfolding instruction
end_row = refl

pub change_row : (s : StateId) (gs : List (FieldId × ℕ)) → Counts (does.Change s gs) (3 + (length gs + length gs))
unfolding instruction change_code
change_row s gs = ap (λ n. suc (suc (suc n))) (pair_each gs) ∙ sum (length gs + length gs)
  where
    sum : (n : ℕ) → suc (suc (suc n)) ≡ 3 + n
    sum n = omega arith

pub new_row : (k : ℕ) (c : ContractId) (xs : List ℕ) → Counts (does.New k c xs) (7 + length xs)
unfolding instruction new_code
new_row k c xs = ap (λ n. suc (suc (suc (suc (suc (suc (suc n))))))) (byte_each xs) ∙ sum (length xs)
  where
    sum : (n : ℕ) → suc (suc (suc (suc (suc (suc (suc n)))))) ≡ 7 + n
    sum n = omega arith

pub call_row : (k a : ℕ) (c : ContractId) (x : TxId) (xs : List ℕ) → Counts (does.Call k a c x xs) (12 + length xs)
unfolding instruction call_code
call_row k a c x xs = ap (λ n. suc (suc (suc (suc (suc (suc (suc (suc (suc (suc (suc (suc n)))))))))))) (byte_each xs)
    ∙ sum (length xs)
  where
    sum : (n : ℕ) → suc (suc (suc (suc (suc (suc (suc (suc (suc (suc (suc (suc n))))))))))) ≡ 12 + n
    sum n = omega arith

pub self_call_row : (k : ℕ) (x : TxId) (xs : List ℕ) → Counts (does.SelfCall k x xs) (7 + length xs)
unfolding instruction self_call_code
self_call_row k x xs = ap (λ n. suc (suc (suc (suc (suc (suc (suc n))))))) (byte_each xs) ∙ sum (length xs)
  where
    sum : (n : ℕ) → suc (suc (suc (suc (suc (suc (suc n)))))) ≡ 7 + n
    sum n = omega arith

pub share_row : (a : ℕ) → Counts (does.Share a) 2
unfolding instruction share_code
share_row a = refl

pub disown_row : (a : ℕ) → Counts (does.Disown a) 2
unfolding instruction disown_code
disown_row a = refl

pub ret_row : Counts does.Ret 1
unfolding instruction
ret_row = refl

pub ret_value_row : (a : ℕ) → Counts (does.RetValue a) 2
unfolding instruction ret_value_code
ret_value_row a = refl

pub revert_row : (a : ℕ) → Counts (does.Revert a) 2
unfolding instruction revert_code
revert_row a = refl

-- The bytes of an instruction (this project's own): a byte that says which it is, and its operands. `k`, `a`, `b`, `f` and
-- `s` are bytes that name slots, fields and states; `n` is a byte that counts what follows it; `o` is a byte from 0 to 14,
-- which names an operator; ids, targets and lines have 32 bits.
--
--      0 unit | 1 int k i64 | 2 bool k u8(0 or 1) | 3 text k text | 4 copy k a | 5 load k f | 6 store f a
--      7 op k o a b line | 8 jump target | 9 unless a target | 10 test a contract s target | 11 end of a test
--     12 change s n (f a).. | 13 new k contract n a.. | 14 call k a contract transaction n b..
--     15 call of `this` k transaction n b.. | 16 share a | 17 disown a | 18 return | 19 return of a value a | 20 revert a
use Rattle.std.specs.Prelude.{ℕ, ℤ, Option, Some, None, List, [], ◌∷◌}
use Rattle.ob_base.specs.declared.id.ContractId.{ContractId}
use Rattle.ob_base.specs.declared.id.StateId.{StateId}
use Rattle.ob_base.specs.declared.id.FieldId.{FieldId}
use Rattle.ob_base.specs.declared.id.TxId.{TxId}
use Rattle.ob_base.specs.declared.operator.Operator.{Operator}
use Rattle.ob_base.specs.declared.operator.Operator.TheVariants.{Add, Sub, Mul, Div, Rem, Equal, NotEqual, Less, LessEqual, Greater, GreaterEqual, And, Or, Not, Negate}
use Rattle.ob_format_spec.specs.Formats.{Format}
use Rattle.ob_format_spec.specs.Combinators.{byte_below, any_byte, number, integer, constant, ◌⨟◌, counted_by_byte, variant, by_kinds}
use Rattle.ob_format_spec.specs.Texts.{text}
use Rattle.ob_format_spec.specs.Ids.{contract_id, tx_id, state_id, field_id}
use Rattle.ob_code.specs.declared.instruction.Instruction.{Instruction}
use Rattle.ob_code.specs.declared.instruction.Instruction.TheVariants as does

-- the byte of an operator
abbrev pub number_of_operator : Operator → ℕ
number_of_operator Add = 0
number_of_operator Sub = 1
number_of_operator Mul = 2
number_of_operator Div = 3
number_of_operator Rem = 4
number_of_operator Equal = 5
number_of_operator NotEqual = 6
number_of_operator Less = 7
number_of_operator LessEqual = 8
number_of_operator Greater = 9
number_of_operator GreaterEqual = 10
number_of_operator And = 11
number_of_operator Or = 12
number_of_operator Not = 13
number_of_operator Negate = 14

-- an operator
unfoldable pub operator : Format Operator
operator = by_kinds number_of_operator
    (constant Add ∷ constant Sub ∷ constant Mul ∷ constant Div ∷ constant Rem ∷ constant Equal ∷ constant NotEqual ∷ constant Less
    ∷ constant LessEqual ∷ constant Greater ∷ constant GreaterEqual ∷ constant And ∷ constant Or ∷ constant Not ∷ constant Negate ∷ [])

-- the byte of an instruction
abbrev pub number_of_instruction : Instruction → ℕ
number_of_instruction does.Unit = 0
number_of_instruction (does.Int k v) = 1
number_of_instruction (does.Bool k v) = 2
number_of_instruction (does.Text k v) = 3
number_of_instruction (does.Copy k a) = 4
number_of_instruction (does.Load k f) = 5
number_of_instruction (does.Store f a) = 6
number_of_instruction (does.Op k o a b l) = 7
number_of_instruction (does.Jump t) = 8
number_of_instruction (does.Unless a t) = 9
number_of_instruction (does.Test a c s t) = 10
number_of_instruction does.EndTest = 11
number_of_instruction (does.Change s gs) = 12
number_of_instruction (does.New k c xs) = 13
number_of_instruction (does.Call k a c x xs) = 14
number_of_instruction (does.SelfCall k x xs) = 15
number_of_instruction (does.Share a) = 16
number_of_instruction (does.Disown a) = 17
number_of_instruction does.Ret = 18
number_of_instruction (does.RetValue a) = 19
number_of_instruction (does.Revert a) = 20

-- ---- the operands of each

-- a slot and a number
abbrev pub int_parts : Instruction → Option (ℕ × ℤ)
int_parts (does.Int k v) = Some (k, v)
int_parts other = None

-- int, after its byte
unfoldable pub int_code : Format Instruction
int_code = variant (λ p. does.Int p.0 p.1) int_parts (any_byte ⨟ integer)

-- a slot and a truth value
abbrev pub bool_parts : Instruction → Option (ℕ × ℕ)
bool_parts (does.Bool k v) = Some (k, v)
bool_parts other = None

-- bool, after its byte
unfoldable pub bool_code : Format Instruction
bool_code = variant (λ p. does.Bool p.0 p.1) bool_parts (any_byte ⨟ byte_below 2)

-- a slot and a text
abbrev pub text_parts : Instruction → Option (ℕ × List ℕ)
text_parts (does.Text k v) = Some (k, v)
text_parts other = None

-- text, after its byte
unfoldable pub text_code : Format Instruction
text_code = variant (λ p. does.Text p.0 p.1) text_parts (any_byte ⨟ text)

-- a slot and the one that is read
abbrev pub copy_parts : Instruction → Option (ℕ × ℕ)
copy_parts (does.Copy k a) = Some (k, a)
copy_parts other = None

-- copy, after its byte
unfoldable pub copy_code : Format Instruction
copy_code = variant (λ p. does.Copy p.0 p.1) copy_parts (any_byte ⨟ any_byte)

-- a slot and a field
abbrev pub load_parts : Instruction → Option (ℕ × FieldId)
load_parts (does.Load k f) = Some (k, f)
load_parts other = None

-- load, after its byte
unfoldable pub load_code : Format Instruction
load_code = variant (λ p. does.Load p.0 p.1) load_parts (any_byte ⨟ field_id)

-- a field and the slot that is read
abbrev pub store_parts : Instruction → Option (FieldId × ℕ)
store_parts (does.Store f a) = Some (f, a)
store_parts other = None

-- store, after its byte
unfoldable pub store_code : Format Instruction
store_code = variant (λ p. does.Store p.0 p.1) store_parts (field_id ⨟ any_byte)

-- a slot, an operator, the slots of its operands, and a line
abbrev pub op_parts : Instruction → Option (ℕ × (Operator × (ℕ × (ℕ × ℕ))))
op_parts (does.Op k o a b l) = Some (k, (o, (a, (b, l))))
op_parts other = None

-- op, after its byte
unfoldable pub op_code : Format Instruction
op_code = variant (λ p. does.Op p.0 p.1.0 p.1.1.0 p.1.1.1.0 p.1.1.1.1) op_parts (any_byte ⨟ operator ⨟ any_byte ⨟ any_byte ⨟ number)

-- a target
abbrev pub jump_parts : Instruction → Option ℕ
jump_parts (does.Jump t) = Some t
jump_parts other = None

-- jump, after its byte
unfoldable pub jump_code : Format Instruction
jump_code = variant (λ p. does.Jump p) jump_parts (number)

-- the slot that is read, and a target
abbrev pub unless_parts : Instruction → Option (ℕ × ℕ)
unless_parts (does.Unless a t) = Some (a, t)
unless_parts other = None

-- unless, after its byte
unfoldable pub unless_code : Format Instruction
unless_code = variant (λ p. does.Unless p.0 p.1) unless_parts (any_byte ⨟ number)

-- the slot of the object, a contract, a state and a target
abbrev pub test_parts : Instruction → Option (ℕ × (ContractId × (StateId × ℕ)))
test_parts (does.Test a c s t) = Some (a, (c, (s, t)))
test_parts other = None

-- test, after its byte
unfoldable pub test_code : Format Instruction
test_code = variant (λ p. does.Test p.0 p.1.0 p.1.1.0 p.1.1.1) test_parts (any_byte ⨟ contract_id ⨟ state_id ⨟ number)

-- a state, and the given fields with their slots
abbrev pub change_parts : Instruction → Option (StateId × List (FieldId × ℕ))
change_parts (does.Change s gs) = Some (s, gs)
change_parts other = None

-- change, after its byte
unfoldable pub change_code : Format Instruction
change_code = variant (λ p. does.Change p.0 p.1) change_parts (state_id ⨟ counted_by_byte (field_id ⨟ any_byte))

-- a slot, a contract, and the slots of the arguments
abbrev pub new_parts : Instruction → Option (ℕ × (ContractId × List ℕ))
new_parts (does.New k c xs) = Some (k, (c, xs))
new_parts other = None

-- new, after its byte
unfoldable pub new_code : Format Instruction
new_code = variant (λ p. does.New p.0 p.1.0 p.1.1) new_parts (any_byte ⨟ contract_id ⨟ counted_by_byte any_byte)

-- a slot, the slot of the object, a contract, a transaction, and the slots of the arguments
abbrev pub call_parts : Instruction → Option (ℕ × (ℕ × (ContractId × (TxId × List ℕ))))
call_parts (does.Call k a c x xs) = Some (k, (a, (c, (x, xs))))
call_parts other = None

-- call, after its byte
unfoldable pub call_code : Format Instruction
call_code = variant (λ p. does.Call p.0 p.1.0 p.1.1.0 p.1.1.1.0 p.1.1.1.1) call_parts (any_byte ⨟ any_byte ⨟ contract_id ⨟ tx_id ⨟ counted_by_byte any_byte)

-- a slot, a transaction, and the slots of the arguments
abbrev pub self_call_parts : Instruction → Option (ℕ × (TxId × List ℕ))
self_call_parts (does.SelfCall k x xs) = Some (k, (x, xs))
self_call_parts other = None

-- a call of `this`, after its byte
unfoldable pub self_call_code : Format Instruction
self_call_code = variant (λ p. does.SelfCall p.0 p.1.0 p.1.1) self_call_parts (any_byte ⨟ tx_id ⨟ counted_by_byte any_byte)

-- the slot of the object
abbrev pub share_parts : Instruction → Option ℕ
share_parts (does.Share a) = Some a
share_parts other = None

-- share, after its byte
unfoldable pub share_code : Format Instruction
share_code = variant (λ p. does.Share p) share_parts (any_byte)

-- the slot of the object
abbrev pub disown_parts : Instruction → Option ℕ
disown_parts (does.Disown a) = Some a
disown_parts other = None

-- disown, after its byte
unfoldable pub disown_code : Format Instruction
disown_code = variant (λ p. does.Disown p) disown_parts (any_byte)

-- the slot of the result
abbrev pub ret_value_parts : Instruction → Option ℕ
ret_value_parts (does.RetValue a) = Some a
ret_value_parts other = None

-- a return of a value, after its byte
unfoldable pub ret_value_code : Format Instruction
ret_value_code = variant (λ p. does.RetValue p) ret_value_parts (any_byte)

-- the slot of the text
abbrev pub revert_parts : Instruction → Option ℕ
revert_parts (does.Revert a) = Some a
revert_parts other = None

-- revert, after its byte
unfoldable pub revert_code : Format Instruction
revert_code = variant (λ p. does.Revert p) revert_parts (any_byte)

-- an instruction
unfoldable pub instruction : Format Instruction
instruction = by_kinds number_of_instruction
    (constant does.Unit ∷ int_code ∷ bool_code ∷ text_code ∷ copy_code ∷ load_code ∷ store_code ∷ op_code ∷ jump_code ∷ unless_code ∷ test_code
    ∷ constant does.EndTest ∷ change_code ∷ new_code ∷ call_code ∷ self_call_code ∷ share_code ∷ disown_code ∷ constant does.Ret ∷ ret_value_code ∷ revert_code ∷ [])

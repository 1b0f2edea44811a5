-- The formats of instructions are lawful.
use Rattle.std.proofs.Common.{ℕ, ℤ, ◌≡◌, Some, List, [], ◌∷◌, refl, sym, ap, arith}
use Rattle.ob_base.specs.declared.id.ContractId.{ContractId}
use Rattle.ob_base.specs.declared.id.StateId.{StateId}
use Rattle.ob_base.specs.declared.id.FieldId.{FieldId}
use Rattle.ob_base.specs.declared.id.TxId.{TxId}
use Rattle.ob_base.specs.declared.operator.Operator.{Operator}
use Rattle.ob_base.specs.declared.operator.Operator.TheVariants.{Add, Sub, Mul, Div, Rem, Equal, NotEqual, Less, LessEqual, Greater, GreaterEqual, And, Or, Not, Negate}
use Rattle.ob_format_spec.specs.Combinators.{byte_below, any_byte, number, integer, constant, ◌⨟◌, counted_by_byte}
use Rattle.ob_format_spec.specs.Texts.{text}
use Rattle.ob_format_spec.specs.Ids.{contract_id, tx_id, state_id, field_id}
use Rattle.ob_format_spec.specs.Lawful.{Lawful}
use Rattle.ob_format_spec.proofs.CombinatorLaws.{constant_lawful, both_lawful}
use Rattle.ob_format_spec.proofs.NumberLaws.{byte_below_lawful, any_byte_lawful, number_lawful, integer_lawful, counted_by_byte_lawful}
use Rattle.ob_format_spec.proofs.KindLaws.{variant_lawful, variant_kind, kinds_lawful}
use Rattle.ob_format_spec.proofs.TextLaws.{text_lawful}
use Rattle.ob_format_spec.proofs.IdLaws.{contract_id_lawful, tx_id_lawful, state_id_lawful, field_id_lawful}
use Rattle.ob_code.specs.declared.instruction.Instruction.{Instruction}
use Rattle.ob_code.specs.declared.instruction.Instruction.TheVariants as does
use Rattle.ob_code.specs.Instructions.{number_of_operator, operator, number_of_instruction, int_parts, int_code, bool_parts, bool_code, text_parts, text_code, copy_parts, copy_code, load_parts, load_code, store_parts, store_code, op_parts, op_code, jump_parts, jump_code, unless_parts, unless_code, test_parts, test_code, change_parts, change_code, new_parts, new_code, call_parts, call_code, self_call_parts, self_call_code, share_parts, share_code, disown_parts, disown_code, ret_value_parts, ret_value_code, revert_parts, revert_code, instruction}

some_same : {A : Type 0} (x y : A) → Some x ≡ Some y → x ≡ y
some_same x y e = cc

operator_lawful : Lawful operator
unfolding operator
operator_lawful =
    kinds_lawful number_of_operator
    (constant Add ∷ constant Sub ∷ constant Mul ∷ constant Div ∷ constant Rem ∷ constant Equal ∷ constant NotEqual ∷ constant Less ∷ constant LessEqual ∷ constant Greater ∷ constant GreaterEqual ∷ constant And ∷ constant Or ∷ constant Not ∷ constant Negate ∷ [])
    (constant_lawful Add, λ x is. ap number_of_operator is, (constant_lawful Sub, λ x is. ap number_of_operator is, (constant_lawful Mul, λ x is. ap number_of_operator is, (constant_lawful Div, λ x is. ap number_of_operator is, (constant_lawful Rem, λ x is. ap number_of_operator is, (constant_lawful Equal, λ x is. ap number_of_operator is, (constant_lawful NotEqual, λ x is. ap number_of_operator is, (constant_lawful Less, λ x is. ap number_of_operator is, (constant_lawful LessEqual, λ x is. ap number_of_operator is, (constant_lawful Greater, λ x is. ap number_of_operator is, (constant_lawful GreaterEqual, λ x is. ap number_of_operator is, (constant_lawful And, λ x is. ap number_of_operator is, (constant_lawful Or, λ x is. ap number_of_operator is, (constant_lawful Not, λ x is. ap number_of_operator is, (constant_lawful Negate, λ x is. ap number_of_operator is, tt))))))))))))))) (omega arith)

int_again : (x : Instruction) (p : ℕ × ℤ) → int_parts x ≡ Some p → does.Int p.0 p.1 ≡ x
int_again (does.Int k v) p e = cc
int_again other p e = absurd cc

int_code_lawful : Lawful int_code
unfolding int_code
int_code_lawful = variant_lawful (λ p. does.Int p.0 p.1) int_parts (any_byte ⨟ integer) int_again (λ p. refl) (both_lawful any_byte integer any_byte_lawful integer_lawful)

int_kind : (x : Instruction) → int_code.fits x → number_of_instruction x ≡ 1
unfolding int_code
int_kind = variant_kind (λ p. does.Int p.0 p.1) int_parts (any_byte ⨟ integer) int_again (λ p. refl) (both_lawful any_byte integer any_byte_lawful integer_lawful) number_of_instruction 1 (λ p. refl)

bool_again : (x : Instruction) (p : ℕ × ℕ) → bool_parts x ≡ Some p → does.Bool p.0 p.1 ≡ x
bool_again (does.Bool k v) p e = cc
bool_again other p e = absurd cc

bool_code_lawful : Lawful bool_code
unfolding bool_code
bool_code_lawful = variant_lawful (λ p. does.Bool p.0 p.1) bool_parts (any_byte ⨟ byte_below 2) bool_again (λ p. refl) (both_lawful any_byte (byte_below 2) any_byte_lawful (byte_below_lawful 2 refl))

bool_kind : (x : Instruction) → bool_code.fits x → number_of_instruction x ≡ 2
unfolding bool_code
bool_kind = variant_kind (λ p. does.Bool p.0 p.1) bool_parts (any_byte ⨟ byte_below 2) bool_again (λ p. refl) (both_lawful any_byte (byte_below 2) any_byte_lawful (byte_below_lawful 2 refl)) number_of_instruction 2 (λ p. refl)

text_again : (x : Instruction) (p : ℕ × List ℕ) → text_parts x ≡ Some p → does.Text p.0 p.1 ≡ x
text_again (does.Text k v) p e = cc
text_again other p e = absurd cc

text_code_lawful : Lawful text_code
unfolding text_code
text_code_lawful = variant_lawful (λ p. does.Text p.0 p.1) text_parts (any_byte ⨟ text) text_again (λ p. refl) (both_lawful any_byte text any_byte_lawful text_lawful)

text_kind : (x : Instruction) → text_code.fits x → number_of_instruction x ≡ 3
unfolding text_code
text_kind = variant_kind (λ p. does.Text p.0 p.1) text_parts (any_byte ⨟ text) text_again (λ p. refl) (both_lawful any_byte text any_byte_lawful text_lawful) number_of_instruction 3 (λ p. refl)

copy_again : (x : Instruction) (p : ℕ × ℕ) → copy_parts x ≡ Some p → does.Copy p.0 p.1 ≡ x
copy_again (does.Copy k a) p e = cc
copy_again other p e = absurd cc

copy_code_lawful : Lawful copy_code
unfolding copy_code
copy_code_lawful = variant_lawful (λ p. does.Copy p.0 p.1) copy_parts (any_byte ⨟ any_byte) copy_again (λ p. refl) (both_lawful any_byte any_byte any_byte_lawful any_byte_lawful)

copy_kind : (x : Instruction) → copy_code.fits x → number_of_instruction x ≡ 4
unfolding copy_code
copy_kind = variant_kind (λ p. does.Copy p.0 p.1) copy_parts (any_byte ⨟ any_byte) copy_again (λ p. refl) (both_lawful any_byte any_byte any_byte_lawful any_byte_lawful) number_of_instruction 4 (λ p. refl)

load_again : (x : Instruction) (p : ℕ × FieldId) → load_parts x ≡ Some p → does.Load p.0 p.1 ≡ x
load_again (does.Load k f) p e = cc
load_again other p e = absurd cc

load_code_lawful : Lawful load_code
unfolding load_code
load_code_lawful = variant_lawful (λ p. does.Load p.0 p.1) load_parts (any_byte ⨟ field_id) load_again (λ p. refl) (both_lawful any_byte field_id any_byte_lawful field_id_lawful)

load_kind : (x : Instruction) → load_code.fits x → number_of_instruction x ≡ 5
unfolding load_code
load_kind = variant_kind (λ p. does.Load p.0 p.1) load_parts (any_byte ⨟ field_id) load_again (λ p. refl) (both_lawful any_byte field_id any_byte_lawful field_id_lawful) number_of_instruction 5 (λ p. refl)

store_again : (x : Instruction) (p : FieldId × ℕ) → store_parts x ≡ Some p → does.Store p.0 p.1 ≡ x
store_again (does.Store f a) p e = cc
store_again other p e = absurd cc

store_code_lawful : Lawful store_code
unfolding store_code
store_code_lawful = variant_lawful (λ p. does.Store p.0 p.1) store_parts (field_id ⨟ any_byte) store_again (λ p. refl) (both_lawful field_id any_byte field_id_lawful any_byte_lawful)

store_kind : (x : Instruction) → store_code.fits x → number_of_instruction x ≡ 6
unfolding store_code
store_kind = variant_kind (λ p. does.Store p.0 p.1) store_parts (field_id ⨟ any_byte) store_again (λ p. refl) (both_lawful field_id any_byte field_id_lawful any_byte_lawful) number_of_instruction 6 (λ p. refl)

op_again : (x : Instruction) (p : ℕ × (Operator × (ℕ × (ℕ × ℕ)))) → op_parts x ≡ Some p → does.Op p.0 p.1.0 p.1.1.0 p.1.1.1.0 p.1.1.1.1 ≡ x
op_again (does.Op k o a b l) p e = ap (λ p. does.Op p.0 p.1.0 p.1.1.0 p.1.1.1.0 p.1.1.1.1) (sym (some_same (k, (o, (a, (b, l)))) p e))
op_again other p e = absurd cc

op_code_lawful : Lawful op_code
unfolding op_code
op_code_lawful = variant_lawful (λ p. does.Op p.0 p.1.0 p.1.1.0 p.1.1.1.0 p.1.1.1.1) op_parts (any_byte ⨟ operator ⨟ any_byte ⨟ any_byte ⨟ number) op_again (λ p. refl) (both_lawful any_byte (operator ⨟ any_byte ⨟ any_byte ⨟ number) any_byte_lawful (both_lawful operator (any_byte ⨟ any_byte ⨟ number) operator_lawful (both_lawful any_byte (any_byte ⨟ number) any_byte_lawful (both_lawful any_byte number any_byte_lawful number_lawful))))

op_kind : (x : Instruction) → op_code.fits x → number_of_instruction x ≡ 7
unfolding op_code
op_kind = variant_kind (λ p. does.Op p.0 p.1.0 p.1.1.0 p.1.1.1.0 p.1.1.1.1) op_parts (any_byte ⨟ operator ⨟ any_byte ⨟ any_byte ⨟ number) op_again (λ p. refl) (both_lawful any_byte (operator ⨟ any_byte ⨟ any_byte ⨟ number) any_byte_lawful (both_lawful operator (any_byte ⨟ any_byte ⨟ number) operator_lawful (both_lawful any_byte (any_byte ⨟ number) any_byte_lawful (both_lawful any_byte number any_byte_lawful number_lawful)))) number_of_instruction 7 (λ p. refl)

jump_again : (x : Instruction) (p : ℕ) → jump_parts x ≡ Some p → does.Jump p ≡ x
jump_again (does.Jump t) p e = cc
jump_again other p e = absurd cc

jump_code_lawful : Lawful jump_code
unfolding jump_code
jump_code_lawful = variant_lawful (λ p. does.Jump p) jump_parts number jump_again (λ p. refl) number_lawful

jump_kind : (x : Instruction) → jump_code.fits x → number_of_instruction x ≡ 8
unfolding jump_code
jump_kind = variant_kind (λ p. does.Jump p) jump_parts number jump_again (λ p. refl) number_lawful number_of_instruction 8 (λ p. refl)

unless_again : (x : Instruction) (p : ℕ × ℕ) → unless_parts x ≡ Some p → does.Unless p.0 p.1 ≡ x
unless_again (does.Unless a t) p e = cc
unless_again other p e = absurd cc

unless_code_lawful : Lawful unless_code
unfolding unless_code
unless_code_lawful = variant_lawful (λ p. does.Unless p.0 p.1) unless_parts (any_byte ⨟ number) unless_again (λ p. refl) (both_lawful any_byte number any_byte_lawful number_lawful)

unless_kind : (x : Instruction) → unless_code.fits x → number_of_instruction x ≡ 9
unfolding unless_code
unless_kind = variant_kind (λ p. does.Unless p.0 p.1) unless_parts (any_byte ⨟ number) unless_again (λ p. refl) (both_lawful any_byte number any_byte_lawful number_lawful) number_of_instruction 9 (λ p. refl)

test_again : (x : Instruction) (p : ℕ × (ContractId × (StateId × ℕ))) → test_parts x ≡ Some p → does.Test p.0 p.1.0 p.1.1.0 p.1.1.1 ≡ x
test_again (does.Test a c s t) p e = ap (λ p. does.Test p.0 p.1.0 p.1.1.0 p.1.1.1) (sym (some_same (a, (c, (s, t))) p e))
test_again other p e = absurd cc

test_code_lawful : Lawful test_code
unfolding test_code
test_code_lawful = variant_lawful (λ p. does.Test p.0 p.1.0 p.1.1.0 p.1.1.1) test_parts (any_byte ⨟ contract_id ⨟ state_id ⨟ number) test_again (λ p. refl) (both_lawful any_byte (contract_id ⨟ state_id ⨟ number) any_byte_lawful (both_lawful contract_id (state_id ⨟ number) contract_id_lawful (both_lawful state_id number state_id_lawful number_lawful)))

test_kind : (x : Instruction) → test_code.fits x → number_of_instruction x ≡ 10
unfolding test_code
test_kind = variant_kind (λ p. does.Test p.0 p.1.0 p.1.1.0 p.1.1.1) test_parts (any_byte ⨟ contract_id ⨟ state_id ⨟ number) test_again (λ p. refl) (both_lawful any_byte (contract_id ⨟ state_id ⨟ number) any_byte_lawful (both_lawful contract_id (state_id ⨟ number) contract_id_lawful (both_lawful state_id number state_id_lawful number_lawful))) number_of_instruction 10 (λ p. refl)

change_again : (x : Instruction) (p : StateId × List (FieldId × ℕ)) → change_parts x ≡ Some p → does.Change p.0 p.1 ≡ x
change_again (does.Change s gs) p e = cc
change_again other p e = absurd cc

change_code_lawful : Lawful change_code
unfolding change_code
change_code_lawful = variant_lawful (λ p. does.Change p.0 p.1) change_parts (state_id ⨟ counted_by_byte (field_id ⨟ any_byte)) change_again (λ p. refl) (both_lawful state_id (counted_by_byte (field_id ⨟ any_byte)) state_id_lawful (counted_by_byte_lawful (field_id ⨟ any_byte) (both_lawful field_id any_byte field_id_lawful any_byte_lawful)))

change_kind : (x : Instruction) → change_code.fits x → number_of_instruction x ≡ 12
unfolding change_code
change_kind = variant_kind (λ p. does.Change p.0 p.1) change_parts (state_id ⨟ counted_by_byte (field_id ⨟ any_byte)) change_again (λ p. refl) (both_lawful state_id (counted_by_byte (field_id ⨟ any_byte)) state_id_lawful (counted_by_byte_lawful (field_id ⨟ any_byte) (both_lawful field_id any_byte field_id_lawful any_byte_lawful))) number_of_instruction 12 (λ p. refl)

new_again : (x : Instruction) (p : ℕ × (ContractId × List ℕ)) → new_parts x ≡ Some p → does.New p.0 p.1.0 p.1.1 ≡ x
new_again (does.New k c xs) p e = ap (λ p. does.New p.0 p.1.0 p.1.1) (sym (some_same (k, (c, xs)) p e))
new_again other p e = absurd cc

new_code_lawful : Lawful new_code
unfolding new_code
new_code_lawful = variant_lawful (λ p. does.New p.0 p.1.0 p.1.1) new_parts (any_byte ⨟ contract_id ⨟ counted_by_byte any_byte) new_again (λ p. refl) (both_lawful any_byte (contract_id ⨟ counted_by_byte any_byte) any_byte_lawful (both_lawful contract_id (counted_by_byte any_byte) contract_id_lawful (counted_by_byte_lawful any_byte any_byte_lawful)))

new_kind : (x : Instruction) → new_code.fits x → number_of_instruction x ≡ 13
unfolding new_code
new_kind = variant_kind (λ p. does.New p.0 p.1.0 p.1.1) new_parts (any_byte ⨟ contract_id ⨟ counted_by_byte any_byte) new_again (λ p. refl) (both_lawful any_byte (contract_id ⨟ counted_by_byte any_byte) any_byte_lawful (both_lawful contract_id (counted_by_byte any_byte) contract_id_lawful (counted_by_byte_lawful any_byte any_byte_lawful))) number_of_instruction 13 (λ p. refl)

call_again : (x : Instruction) (p : ℕ × (ℕ × (ContractId × (TxId × List ℕ)))) → call_parts x ≡ Some p → does.Call p.0 p.1.0 p.1.1.0 p.1.1.1.0 p.1.1.1.1 ≡ x
call_again (does.Call k a c x xs) p e = ap (λ p. does.Call p.0 p.1.0 p.1.1.0 p.1.1.1.0 p.1.1.1.1) (sym (some_same (k, (a, (c, (x, xs)))) p e))
call_again other p e = absurd cc

call_code_lawful : Lawful call_code
unfolding call_code
call_code_lawful = variant_lawful (λ p. does.Call p.0 p.1.0 p.1.1.0 p.1.1.1.0 p.1.1.1.1) call_parts (any_byte ⨟ any_byte ⨟ contract_id ⨟ tx_id ⨟ counted_by_byte any_byte) call_again (λ p. refl) (both_lawful any_byte (any_byte ⨟ contract_id ⨟ tx_id ⨟ counted_by_byte any_byte) any_byte_lawful (both_lawful any_byte (contract_id ⨟ tx_id ⨟ counted_by_byte any_byte) any_byte_lawful (both_lawful contract_id (tx_id ⨟ counted_by_byte any_byte) contract_id_lawful (both_lawful tx_id (counted_by_byte any_byte) tx_id_lawful (counted_by_byte_lawful any_byte any_byte_lawful)))))

call_kind : (x : Instruction) → call_code.fits x → number_of_instruction x ≡ 14
unfolding call_code
call_kind = variant_kind (λ p. does.Call p.0 p.1.0 p.1.1.0 p.1.1.1.0 p.1.1.1.1) call_parts (any_byte ⨟ any_byte ⨟ contract_id ⨟ tx_id ⨟ counted_by_byte any_byte) call_again (λ p. refl) (both_lawful any_byte (any_byte ⨟ contract_id ⨟ tx_id ⨟ counted_by_byte any_byte) any_byte_lawful (both_lawful any_byte (contract_id ⨟ tx_id ⨟ counted_by_byte any_byte) any_byte_lawful (both_lawful contract_id (tx_id ⨟ counted_by_byte any_byte) contract_id_lawful (both_lawful tx_id (counted_by_byte any_byte) tx_id_lawful (counted_by_byte_lawful any_byte any_byte_lawful))))) number_of_instruction 14 (λ p. refl)

self_call_again : (x : Instruction) (p : ℕ × (TxId × List ℕ)) → self_call_parts x ≡ Some p → does.SelfCall p.0 p.1.0 p.1.1 ≡ x
self_call_again (does.SelfCall k x xs) p e = ap (λ p. does.SelfCall p.0 p.1.0 p.1.1) (sym (some_same (k, (x, xs)) p e))
self_call_again other p e = absurd cc

self_call_code_lawful : Lawful self_call_code
unfolding self_call_code
self_call_code_lawful = variant_lawful (λ p. does.SelfCall p.0 p.1.0 p.1.1) self_call_parts (any_byte ⨟ tx_id ⨟ counted_by_byte any_byte) self_call_again (λ p. refl) (both_lawful any_byte (tx_id ⨟ counted_by_byte any_byte) any_byte_lawful (both_lawful tx_id (counted_by_byte any_byte) tx_id_lawful (counted_by_byte_lawful any_byte any_byte_lawful)))

self_call_kind : (x : Instruction) → self_call_code.fits x → number_of_instruction x ≡ 15
unfolding self_call_code
self_call_kind = variant_kind (λ p. does.SelfCall p.0 p.1.0 p.1.1) self_call_parts (any_byte ⨟ tx_id ⨟ counted_by_byte any_byte) self_call_again (λ p. refl) (both_lawful any_byte (tx_id ⨟ counted_by_byte any_byte) any_byte_lawful (both_lawful tx_id (counted_by_byte any_byte) tx_id_lawful (counted_by_byte_lawful any_byte any_byte_lawful))) number_of_instruction 15 (λ p. refl)

share_again : (x : Instruction) (p : ℕ) → share_parts x ≡ Some p → does.Share p ≡ x
share_again (does.Share a) p e = cc
share_again other p e = absurd cc

share_code_lawful : Lawful share_code
unfolding share_code
share_code_lawful = variant_lawful (λ p. does.Share p) share_parts any_byte share_again (λ p. refl) any_byte_lawful

share_kind : (x : Instruction) → share_code.fits x → number_of_instruction x ≡ 16
unfolding share_code
share_kind = variant_kind (λ p. does.Share p) share_parts any_byte share_again (λ p. refl) any_byte_lawful number_of_instruction 16 (λ p. refl)

disown_again : (x : Instruction) (p : ℕ) → disown_parts x ≡ Some p → does.Disown p ≡ x
disown_again (does.Disown a) p e = cc
disown_again other p e = absurd cc

disown_code_lawful : Lawful disown_code
unfolding disown_code
disown_code_lawful = variant_lawful (λ p. does.Disown p) disown_parts any_byte disown_again (λ p. refl) any_byte_lawful

disown_kind : (x : Instruction) → disown_code.fits x → number_of_instruction x ≡ 17
unfolding disown_code
disown_kind = variant_kind (λ p. does.Disown p) disown_parts any_byte disown_again (λ p. refl) any_byte_lawful number_of_instruction 17 (λ p. refl)

ret_value_again : (x : Instruction) (p : ℕ) → ret_value_parts x ≡ Some p → does.RetValue p ≡ x
ret_value_again (does.RetValue a) p e = cc
ret_value_again other p e = absurd cc

ret_value_code_lawful : Lawful ret_value_code
unfolding ret_value_code
ret_value_code_lawful = variant_lawful (λ p. does.RetValue p) ret_value_parts any_byte ret_value_again (λ p. refl) any_byte_lawful

ret_value_kind : (x : Instruction) → ret_value_code.fits x → number_of_instruction x ≡ 19
unfolding ret_value_code
ret_value_kind = variant_kind (λ p. does.RetValue p) ret_value_parts any_byte ret_value_again (λ p. refl) any_byte_lawful number_of_instruction 19 (λ p. refl)

revert_again : (x : Instruction) (p : ℕ) → revert_parts x ≡ Some p → does.Revert p ≡ x
revert_again (does.Revert a) p e = cc
revert_again other p e = absurd cc

revert_code_lawful : Lawful revert_code
unfolding revert_code
revert_code_lawful = variant_lawful (λ p. does.Revert p) revert_parts any_byte revert_again (λ p. refl) any_byte_lawful

revert_kind : (x : Instruction) → revert_code.fits x → number_of_instruction x ≡ 20
unfolding revert_code
revert_kind = variant_kind (λ p. does.Revert p) revert_parts any_byte revert_again (λ p. refl) any_byte_lawful number_of_instruction 20 (λ p. refl)

pub instruction_lawful : Lawful instruction
unfolding instruction
instruction_lawful =
    kinds_lawful number_of_instruction
    (constant does.Unit ∷ int_code ∷ bool_code ∷ text_code ∷ copy_code ∷ load_code ∷ store_code ∷ op_code ∷ jump_code ∷ unless_code ∷ test_code ∷ constant does.EndTest ∷ change_code ∷ new_code ∷ call_code ∷ self_call_code ∷ share_code ∷ disown_code ∷ constant does.Ret ∷ ret_value_code ∷ revert_code ∷ [])
    (constant_lawful does.Unit, λ x is. ap number_of_instruction is, (int_code_lawful, int_kind, (bool_code_lawful, bool_kind, (text_code_lawful, text_kind, (copy_code_lawful, copy_kind, (load_code_lawful, load_kind, (store_code_lawful, store_kind, (op_code_lawful, op_kind, (jump_code_lawful, jump_kind, (unless_code_lawful, unless_kind, (test_code_lawful, test_kind, (constant_lawful does.EndTest, λ x is. ap number_of_instruction is, (change_code_lawful, change_kind, (new_code_lawful, new_kind, (call_code_lawful, call_kind, (self_call_code_lawful, self_call_kind, (share_code_lawful, share_kind, (disown_code_lawful, disown_kind, (constant_lawful does.Ret, λ x is. ap number_of_instruction is, (ret_value_code_lawful, ret_value_kind, (revert_code_lawful, revert_kind, tt))))))))))))))))))))) (omega arith)

-- The code of a form has at most as many bytes as the form weighs.
use Rattle.std.proofs.Common.{◌≡◌, ◌≤◌, ℕ, suc, ◌+◌, ◌*◌, Bool, true, false, List, [], ◌∷◌, ◌++◌, length, map, Option, Some, None, refl, ap, arith}
use Rattle.std.specs.Prelude.{not, if◌then◌else◌}
use Rattle.std.specs.Option.{option_map_or}
use Rattle.ob_base.specs.declared.id.ContractId.{ContractId}
use Rattle.ob_base.specs.declared.id.FieldId.{FieldId}
use Rattle.ob_base.specs.declared.id.StateId.{StateId}
use Rattle.ob_base.specs.declared.id.TxId.{TxId}
use Rattle.ob_perm.specs.Masks.{permission_of}
use Rattle.ob_perm.specs.Permissions.{is_shared}
use Rattle.ob_table.specs.Tables.{field_at, signature_of}
use Rattle.ob_table.specs.declared.contract.Contract.{Contract}
use Rattle.ob_table.specs.declared.contract.Field.{Field as FieldOf}
use Rattle.ob_table.specs.declared.contract.ResolvedType.{ResolvedType}
use Rattle.ob_table.specs.declared.contract.ResolvedType.TheVariants as typed
use Rattle.ob_table.specs.declared.contract.Signature.{Signature}
use Rattle.ob_table_spec.specs.WellFormed.{constructor_at}
use Rattle.ob_silica.specs.Terms.{SilicaForm, unit_form, const_form, op_form, copy_form, move_form, new_form, call_form, call_this_form, change_form, test_form, if_form, loop_form, assert_form, disown_form, drop_form, return_form, revert_form, bad_row_form, SilicaTerms, no_terms, and_term}
use Rattle.ob_silica.specs.declared.place.Constant.{Constant}
use Rattle.ob_silica.specs.declared.place.Constant.TheVariants as constant
use Rattle.ob_silica.specs.declared.place.Given.{Given}
use Rattle.ob_silica.specs.declared.place.Operand.{Operand}
use Rattle.ob_silica.specs.declared.place.Place.{Place}
use Rattle.ob_silica.specs.declared.place.Place.TheVariants.{This, Slot, Field}
use Rattle.ob_silica.specs.declared.term.SilicaOperator.{SilicaOperator}
use Rattle.ob_silica.specs.declared.term.SilicaOperator.TheVariants.{Unary, Binary}
use Rattle.ob_silica_places.specs.Parameters.{Parameter, all_parameters, parameters}
use Rattle.ob_silica_formed.specs.Holdings.{Holdings, kind_of_operand, after_form, after_terms, at_head, terms_end}
use Rattle.ob_code.specs.Instructions.{instruction}
use Rattle.ob_code.specs.declared.instruction.Instruction.{Instruction}
use Rattle.ob_code.specs.declared.instruction.Instruction.TheVariants as does
use Rattle.ob_emit_spec.specs.Operands.{slot_read, load, slots_read, loads, values_given, share, shares}
use Rattle.ob_emit_spec.specs.Emission.{EmissionFrame, constant_code, unary_code, binary_code, operation_code, fetch_code, share_in_field, copy_code, move_code, result_slot, shares_of_call, shares_of_new, call_code, call_this_code, new_code, given_slots, shares_of_given, change_code, jumps_over, jump_if, after_branch, choice_code, end_test, contract_referred, share_result, return_code, after_load, turn_code, form_code, terms_code}
use Rattle.ob_emit_spec.specs.Weights.{weight_of_constant, weight_of_form, weight_of_terms}
use Rattle.ob_weight_laws.proofs.Declared.{size_of_code}
use Rattle.ob_weight_laws.proofs.Sizes.{within_both, within_one, unit_row, int_row, bool_row, text_row, copy_row, load_row, store_row, op_row, jump_row, unless_row, test_row, end_row, change_row, new_row, call_row, self_call_row, share_row, disown_row, ret_row, ret_value_row, revert_row}

-- an instruction has so many bytes
abbrev length_of : Instruction → ℕ → Type 0
length_of i n = length (instruction.bytes i) ≡ n

-- numbers of a choice
tested : (s b o : ℕ) → s ≤ 3 + (((11 + (b + 1)) + 5) + o) → s ≤ 32 + (b + o)
tested s b o h = omega (arith, h)

chosen : (s b o : ℕ) → s ≤ 3 + (((6 + b) + 5) + o) → s ≤ 32 + (b + o)
chosen s b o h = omega (arith, h)

looped : (s w b : ℕ) → s ≤ w + (3 + ((6 + b) + 5)) → s ≤ 32 + (w + b)
looped s w b h = omega (arith, h)

-- Operands.

load_within : (scratch n : ℕ) (place : Place) → size_of_code (load scratch n place) ≤ 3
load_within scratch n This = omega arith
load_within scratch n (Slot k) = omega arith
load_within scratch n (Field id) = within_one (does.Load (scratch + n) id) 3 3 (load_row (scratch + n) id) (omega arith)

loads_within : (scratch n : ℕ) (os : List Operand) → size_of_code (loads scratch n os) ≤ 3 * length os
loads_within scratch n [] = omega arith
loads_within scratch n (o ∷ os) =
    sum (size_of_code (loads scratch n (o ∷ os))) (length os)
    (within_both (load scratch n o.place) (loads scratch (n + 1) os) 3 (3 * length os) (load_within scratch n o.place)
    (loads_within scratch (n + 1) os))
  where
    sum : (s k : ℕ) → s ≤ 3 + 3 * k → s ≤ 3 * suc k
    sum s k h = omega (arith, h)

one_load : (scratch : ℕ) (o : Operand) → size_of_code (loads scratch 0 (o ∷ [])) ≤ 3
one_load scratch o = loads_within scratch 0 (o ∷ [])

count_slots : (scratch n : ℕ) (os : List Operand) → length (slots_read scratch n os) ≡ length os
count_slots scratch n [] = refl
count_slots scratch n (o ∷ os) = ap (λ k. suc k) (count_slots scratch (n + 1) os)

count_given : (scratch n : ℕ) (gs : List Given) → length (given_slots scratch n gs) ≡ length gs
count_given scratch n [] = refl
count_given scratch n (g ∷ gs) = ap (λ k. suc k) (count_given scratch (n + 1) gs)

count_values : (gs : List Given) → length (values_given gs) ≡ length gs
count_values [] = refl
count_values (g ∷ gs) = ap (λ k. suc k) (count_values gs)

-- Marks.

share_if : (shared : Bool) (a : ℕ) → size_of_code (if shared then does.Share a ∷ [] else []) ≤ 2
share_if true a = within_one (does.Share a) 2 2 (share_row a) (omega arith)
share_if false a = omega arith

share_within : (of : ResolvedType) (a : ℕ) → size_of_code (share of a) ≤ 2
share_within typed.Int a = omega arith
share_within typed.Bool a = omega arith
share_within typed.Text a = omega arith
share_within (typed.Reference id p) a = share_if (is_shared (permission_of p)) a

shares_within : (types : List ResolvedType) (slots : List ℕ) → size_of_code (shares types slots) ≤ 2 * length slots
shares_within [] slots = omega arith
shares_within (of ∷ types) [] = omega arith
shares_within (of ∷ types) (a ∷ slots) =
    sum (size_of_code (shares (of ∷ types) (a ∷ slots))) (length slots)
    (within_both (share of a) (shares types slots) 2 (2 * length slots) (share_within of a) (shares_within types slots))
  where
    sum : (s k : ℕ) → s ≤ 2 + 2 * k → s ≤ 2 * suc k
    sum s k h = omega (arith, h)

call_shares_within : (contract : ContractId) (s : Option Signature) (slots : List ℕ)
    → size_of_code (shares_of_call contract s slots) ≤ 2 * length slots
call_shares_within contract None slots = omega arith
call_shares_within contract (Some s) slots = shares_within (map (λ (p : Parameter). p.of) (all_parameters contract s)) slots

new_shares_within : (s : Option Signature) (slots : List ℕ) → size_of_code (shares_of_new s slots) ≤ 2 * length slots
new_shares_within None slots = omega arith
new_shares_within (Some s) slots = shares_within (map (λ (p : Parameter). p.of) (parameters s)) slots

field_share_within : (f : Option FieldOf) (a : ℕ) → size_of_code (option_map_or (λ (f : FieldOf). share f.of a) f []) ≤ 2
field_share_within None a = omega arith
field_share_within (Some f) a = share_within f.of a

given_shares_within : (own : Contract) (gs : List (FieldId × ℕ)) → size_of_code (shares_of_given own gs) ≤ 2 * length gs
given_shares_within own [] = omega arith
given_shares_within own (g ∷ gs) =
    sum (size_of_code (shares_of_given own (g ∷ gs))) (length gs)
    (within_both (share_in_field own g.0 g.1) (shares_of_given own gs) 2 (2 * length gs)
    (field_share_within (field_at own g.0) g.1) (given_shares_within own gs))
  where
    sum : (s k : ℕ) → s ≤ 2 + 2 * k → s ≤ 2 * suc k
    sum s k h = omega (arith, h)

-- Forms without branches.

constant_within : (k : ℕ) (value : Constant) → size_of_code (constant_code k value ∷ []) ≤ 32 + weight_of_constant value
constant_within k (constant.Int z) = within_one (does.Int k z) 10 (32 + 0) (int_row k z) (omega arith)
constant_within k (constant.Bool b) = within_one (does.Bool k (if b then 1 else 0)) 3 (32 + 0) (bool_row k (if b then 1 else 0))
    (omega arith)
constant_within k (constant.Text bytes) = within_one (does.Text k bytes) (6 + length bytes) (32 + length bytes)
    (text_row k bytes) (omega arith)

operation_within : (scratch k : ℕ) (o : SilicaOperator) (a b : Operand) (line : ℕ)
    → size_of_code (operation_code scratch k o a b line) ≤ 32
operation_within scratch k (Unary o) a b line =
    most (size_of_code (operation_code scratch k (Unary o) a b line))
    (within_both (loads scratch 0 (a ∷ [])) (does.Op k (unary_code o) (slot_read scratch 0 a.place)
    (slot_read scratch 0 a.place) line ∷ []) 3 9
    (one_load scratch a)
    (within_one (does.Op k (unary_code o) (slot_read scratch 0 a.place) (slot_read scratch 0 a.place) line) 9 9
    (op_row k (unary_code o) (slot_read scratch 0 a.place) (slot_read scratch 0 a.place) line) (omega arith)))
  where
    most : (s : ℕ) → s ≤ 3 + 9 → s ≤ 32
    most s h = omega (arith, h)
operation_within scratch k (Binary o) a b line =
    most (size_of_code (operation_code scratch k (Binary o) a b line))
    (within_both (loads scratch 0 (a ∷ b ∷ [])) (does.Op k (binary_code o) (slot_read scratch 0 a.place)
    (slot_read scratch 1 b.place) line ∷ []) 6 9
    (loads_within scratch 0 (a ∷ b ∷ []))
    (within_one (does.Op k (binary_code o) (slot_read scratch 0 a.place) (slot_read scratch 1 b.place) line) 9 9
    (op_row k (binary_code o) (slot_read scratch 0 a.place) (slot_read scratch 1 b.place) line) (omega arith)))
  where
    most : (s : ℕ) → s ≤ 6 + 9 → s ≤ 32
    most s h = omega (arith, h)

fetch_within : (k : ℕ) (place : Place) → size_of_code (fetch_code k place ∷ []) ≤ 32
fetch_within k This = within_one (does.Copy k 0) 3 32 (copy_row k 0) (omega arith)
fetch_within k (Slot a) = within_one (does.Copy k a) 3 32 (copy_row k a) (omega arith)
fetch_within k (Field id) = within_one (does.Load k id) 3 32 (load_row k id) (omega arith)

copy_within : (scratch : ℕ) (to : Place) (from : Operand) → size_of_code (copy_code scratch to from) ≤ 32
copy_within scratch This from = fetch_within 0 from.place
copy_within scratch (Slot k) from = fetch_within k from.place
copy_within scratch (Field id) from =
    most (size_of_code (copy_code scratch (Field id) from))
    (within_both (loads scratch 0 (from ∷ [])) (does.Store id (slot_read scratch 0 from.place) ∷ []) 3 3 (one_load scratch from)
    (within_one (does.Store id (slot_read scratch 0 from.place)) 3 3 (store_row id (slot_read scratch 0 from.place))
    (omega arith)))
  where
    most : (s : ℕ) → s ≤ 3 + 3 → s ≤ 32
    most s h = omega (arith, h)

move_within : (own : Contract) (scratch : ℕ) (to : Place) (from : Operand) → size_of_code (move_code own scratch to from) ≤ 32
move_within own scratch This from = fetch_within 0 from.place
move_within own scratch (Slot k) from = fetch_within k from.place
move_within own scratch (Field id) from =
    most (size_of_code (move_code own scratch (Field id) from))
    (within_both (loads scratch 0 (from ∷ []) ++ share_in_field own id (slot_read scratch 0 from.place))
    (does.Store id (slot_read scratch 0 from.place) ∷ []) 5 3
    (within_both (loads scratch 0 (from ∷ [])) (share_in_field own id (slot_read scratch 0 from.place)) 3 2
    (one_load scratch from)
    (field_share_within (field_at own id) (slot_read scratch 0 from.place)))
    (within_one (does.Store id (slot_read scratch 0 from.place)) 3 3 (store_row id (slot_read scratch 0 from.place))
    (omega arith)))
  where
    most : (s : ℕ) → s ≤ 5 + 3 → s ≤ 32
    most s h = omega (arith, h)

call_within : (f : EmissionFrame) (k : Option ℕ) (receiver : Operand) (contract : ContractId) (tx : TxId) (args : List Operand)
    → size_of_code (call_code f k receiver contract tx args) ≤ 32 + 16 * length args
call_within f k receiver contract tx args =
    most (size_of_code (call_code f k receiver contract tx args)) (length args)
    (length (slots_read f.scratch 0 (receiver ∷ args))) (length (slots_read f.scratch 1 args))
    (count_slots f.scratch 0 (receiver ∷ args)) (count_slots f.scratch 1 args)
    (within_both (loads f.scratch 0 (receiver ∷ args)
    ++ shares_of_call contract (signature_of f.static.table contract tx) (slots_read f.scratch 0 (receiver ∷ args)))
    (call ∷ []) (3 * suc (length args) + 2 * length (slots_read f.scratch 0 (receiver ∷ args)))
    (12 + length (slots_read f.scratch 1 args))
    (within_both (loads f.scratch 0 (receiver ∷ args))
    (shares_of_call contract (signature_of f.static.table contract tx) (slots_read f.scratch 0 (receiver ∷ args)))
    (3 * suc (length args)) (2 * length (slots_read f.scratch 0 (receiver ∷ args)))
    (loads_within f.scratch 0 (receiver ∷ args))
    (call_shares_within contract (signature_of f.static.table contract tx) (slots_read f.scratch 0 (receiver ∷ args))))
    (within_one call (12 + length (slots_read f.scratch 1 args)) (12 + length (slots_read f.scratch 1 args))
    (call_row (result_slot k) (slot_read f.scratch 0 receiver.place) contract tx (slots_read f.scratch 1 args)) (omega arith)))
  where
    call : Instruction
    call = does.Call (result_slot k) (slot_read f.scratch 0 receiver.place) contract tx (slots_read f.scratch 1 args)

    most : (s n m l : ℕ) → m ≡ suc n → l ≡ n → s ≤ (3 * suc n + 2 * m) + (12 + l) → s ≤ 32 + 16 * n
    most s n m l a b h = omega (arith, a, b, h)

call_this_within : (f : EmissionFrame) (k : Option ℕ) (tx : TxId) (args : List Operand)
    → size_of_code (call_this_code f k tx args) ≤ 32 + 16 * length args
call_this_within f k tx args =
    most (size_of_code (call_this_code f k tx args)) (length args) (length (slots_read f.scratch 0 args))
    (count_slots f.scratch 0 args)
    (within_both (loads f.scratch 0 args
    ++ shares_of_call f.static.here (signature_of f.static.table f.static.here tx) (0 ∷ slots_read f.scratch 0 args))
    (call ∷ []) (3 * length args + 2 * suc (length (slots_read f.scratch 0 args))) (7 + length (slots_read f.scratch 0 args))
    (within_both (loads f.scratch 0 args)
    (shares_of_call f.static.here (signature_of f.static.table f.static.here tx) (0 ∷ slots_read f.scratch 0 args))
    (3 * length args) (2 * suc (length (slots_read f.scratch 0 args)))
    (loads_within f.scratch 0 args)
    (call_shares_within f.static.here (signature_of f.static.table f.static.here tx) (0 ∷ slots_read f.scratch 0 args)))
    (within_one call (7 + length (slots_read f.scratch 0 args)) (7 + length (slots_read f.scratch 0 args))
    (self_call_row (result_slot k) tx (slots_read f.scratch 0 args)) (omega arith)))
  where
    call : Instruction
    call = does.SelfCall (result_slot k) tx (slots_read f.scratch 0 args)

    most : (s n m : ℕ) → m ≡ n → s ≤ (3 * n + 2 * suc m) + (7 + m) → s ≤ 32 + 16 * n
    most s n m a h = omega (arith, a, h)

new_within : (f : EmissionFrame) (k : ℕ) (contract : ContractId) (args : List Operand)
    → size_of_code (new_code f k contract args) ≤ 32 + 16 * length args
new_within f k contract args =
    most (size_of_code (new_code f k contract args)) (length args) (length (slots_read f.scratch 0 args))
    (count_slots f.scratch 0 args)
    (within_both (loads f.scratch 0 args ++ shares_of_new (constructor_at f.static.table contract) (slots_read f.scratch 0 args))
    (new ∷ []) (3 * length args + 2 * length (slots_read f.scratch 0 args)) (7 + length (slots_read f.scratch 0 args))
    (within_both (loads f.scratch 0 args) (shares_of_new (constructor_at f.static.table contract) (slots_read f.scratch 0 args))
    (3 * length args) (2 * length (slots_read f.scratch 0 args)) (loads_within f.scratch 0 args)
    (new_shares_within (constructor_at f.static.table contract) (slots_read f.scratch 0 args)))
    (within_one new (7 + length (slots_read f.scratch 0 args)) (7 + length (slots_read f.scratch 0 args))
    (new_row k contract (slots_read f.scratch 0 args)) (omega arith)))
  where
    new : Instruction
    new = does.New k contract (slots_read f.scratch 0 args)

    most : (s n m : ℕ) → m ≡ n → s ≤ (3 * n + 2 * m) + (7 + m) → s ≤ 32 + 16 * n
    most s n m a h = omega (arith, a, h)

change_within : (own : Contract) (scratch : ℕ) (state : StateId) (given : List Given)
    → size_of_code (change_code own scratch state given) ≤ 32 + 16 * length given
change_within own scratch state given =
    most (size_of_code (change_code own scratch state given)) (length given) (length (given_slots scratch 0 given))
    (length (values_given given))
    (count_given scratch 0 given) (count_values given)
    (within_both (loads scratch 0 (values_given given)) (change ∷ shares_of_given own (given_slots scratch 0 given))
    (3 * length (values_given given)) ((3 + (length (given_slots scratch 0 given) + length (given_slots scratch 0 given)))
    + 2 * length (given_slots scratch 0 given))
    (loads_within scratch 0 (values_given given))
    (within_both (change ∷ []) (shares_of_given own (given_slots scratch 0 given))
    (3 + (length (given_slots scratch 0 given) + length (given_slots scratch 0 given))) (2 * length (given_slots scratch 0 given))
    (within_one change (3 + (length (given_slots scratch 0 given) + length (given_slots scratch 0 given)))
    (3 + (length (given_slots scratch 0 given) + length (given_slots scratch 0 given)))
    (change_row state (given_slots scratch 0 given)) (omega arith))
    (given_shares_within own (given_slots scratch 0 given))))
  where
    change : Instruction
    change = does.Change state (given_slots scratch 0 given)

    most : (s n m v : ℕ) → m ≡ n → v ≡ n → s ≤ 3 * v + ((3 + (m + m)) + 2 * m) → s ≤ 32 + 16 * n
    most s n m v a b h = omega (arith, a, b, h)

with_load : (scratch : ℕ) (o : Operand) (i : Instruction) (n : ℕ) → length_of i n → n ≤ 20
    → size_of_code (loads scratch 0 (o ∷ []) ++ i ∷ []) ≤ 32
with_load scratch o i n row h =
    most (size_of_code (loads scratch 0 (o ∷ []) ++ i ∷ []))
    (within_both (loads scratch 0 (o ∷ [])) (i ∷ []) 3 20 (one_load scratch o) (within_one i n 20 row h))
  where
    most : (s : ℕ) → s ≤ 3 + 20 → s ≤ 32
    most s h = omega (arith, h)

given_if : (constructs : Bool) (of : ResolvedType) → size_of_code (if constructs then share of 0 else []) ≤ 2
given_if true of = share_within of 0
given_if false of = omega arith

result_share_within : (of : Option ResolvedType) (a : ℕ) → size_of_code (option_map_or (λ of. share of a) of []) ≤ 2
result_share_within None a = omega arith
result_share_within (Some of) a = share_within of a

return_within : (f : EmissionFrame) (place : Option Operand) → size_of_code (return_code f place) ≤ 32
return_within f None =
    most (size_of_code (return_code f None))
    (within_both (if f.constructs then share (typed.Reference f.static.here f.signature.exit) 0 else []) (does.Ret ∷ []) 2 1
    (given_if f.constructs (typed.Reference f.static.here f.signature.exit)) (within_one does.Ret 1 1 ret_row (omega arith)))
  where
    most : (s : ℕ) → s ≤ 2 + 1 → s ≤ 32
    most s h = omega (arith, h)
return_within f (Some o) =
    most (size_of_code (return_code f (Some o)))
    (within_both (loads f.scratch 0 (o ∷ []) ++ share_result f.signature (slot_read f.scratch 0 o.place))
    (does.RetValue (slot_read f.scratch 0 o.place) ∷ []) 5 2
    (within_both (loads f.scratch 0 (o ∷ [])) (share_result f.signature (slot_read f.scratch 0 o.place)) 3 2
    (one_load f.scratch o)
    (result_share_within f.signature.result (slot_read f.scratch 0 o.place)))
    (within_one (does.RetValue (slot_read f.scratch 0 o.place)) 2 2 (ret_value_row (slot_read f.scratch 0 o.place))
    (omega arith)))
  where
    most : (s : ℕ) → s ≤ 5 + 2 → s ≤ 32
    most s h = omega (arith, h)

-- Branches.

jump_within : (jumps : Bool) (target : ℕ) → size_of_code (jump_if jumps target) ≤ 5
jump_within true target = within_one (does.Jump target) 5 5 (jump_row target) (omega arith)
jump_within false target = omega arith

end_within : (ends : Bool) → size_of_code (if ends then [] else does.EndTest ∷ []) ≤ 1
end_within true = omega arith
end_within false = within_one does.EndTest 1 1 end_row (omega arith)

-- a choice whose instruction has so many bytes, and whose branches have at most so many
choice_within : (at : ℕ) (chooses : ℕ → Instruction) (jumps : Bool) (branch other : List Instruction) (n b o : ℕ)
    → ((target : ℕ) → length_of (chooses target) n) → size_of_code branch ≤ b → size_of_code other ≤ o
    → size_of_code (choice_code at chooses jumps branch other) ≤ ((n + b) + 5) + o
choice_within at chooses jumps branch other n b o row hb ho =
    within_both ((chooses (after_branch (at + 1) branch jumps) ∷ branch) ++ jump_if jumps
    (after_branch (at + 1) branch jumps + length other)) other
    ((n + b) + 5) o
    (within_both (chooses (after_branch (at + 1) branch jumps) ∷ branch)
    (jump_if jumps (after_branch (at + 1) branch jumps + length other)) (n + b) 5
    (within_both (chooses (after_branch (at + 1) branch jumps) ∷ []) branch n b
    (within_one (chooses (after_branch (at + 1) branch jumps)) n n (row (after_branch (at + 1) branch jumps)) (omega arith)) hb)
    (jump_within jumps (after_branch (at + 1) branch jumps + length other)))
    ho

mutual
  pub form_within : (f : EmissionFrame) (h : Holdings) (form : SilicaForm) (at : ℕ)
      → size_of_code (form_code f h form at) ≤ weight_of_form form
  form_within f h unit_form at = within_one does.Unit 1 32 unit_row (omega arith)
  form_within f h (const_form k value) at = constant_within k value
  form_within f h (op_form k operator a b line) at = operation_within f.scratch k operator a b line
  form_within f h (copy_form to from) at = copy_within f.scratch to from
  form_within f h (move_form to from contract) at = move_within f.static.own f.scratch to from
  form_within f h (new_form k contract args) at = new_within f k contract args
  form_within f h (call_form k receiver contract tx args) at = call_within f k receiver contract tx args
  form_within f h (call_this_form k tx args) at = call_this_within f k tx args
  form_within f h (change_form state given) at = change_within f.static.own f.scratch state given
  form_within f h (test_form o state branch other join) at =
      let start = after_load f o at in
      let chooses = λ (target : ℕ). does.Test (slot_read f.scratch 0 o.place)
      (contract_referred (kind_of_operand f.static h o)) state target in
      let first = terms_code f h branch (start + 1) ++ end_test branch in
      let second = terms_code f h other (after_branch (start + 1) first (jumps_over branch other)) in
      tested (size_of_code (form_code f h (test_form o state branch other join) at)) (weight_of_terms branch)
      (weight_of_terms other)
      (within_both (loads f.scratch 0 (o ∷ [])) (choice_code start chooses (jumps_over branch other) first second)
      3 (((11 + (weight_of_terms branch + 1)) + 5) + weight_of_terms other) (one_load f.scratch o)
      (choice_within start chooses (jumps_over branch other) first second 11 (weight_of_terms branch + 1) (weight_of_terms other)
      (λ target. test_row (slot_read f.scratch 0 o.place) (contract_referred (kind_of_operand f.static h o)) state target)
      (within_both (terms_code f h branch (start + 1)) (end_test branch) (weight_of_terms branch) 1
      (terms_within f h branch (start + 1)) (end_within (terms_end branch)))
      (terms_within f h other (after_branch (start + 1) first (jumps_over branch other)))))
  form_within f h (if_form o branch other join) at =
      let start = after_load f o at in
      let chooses = λ (target : ℕ). does.Unless (slot_read f.scratch 0 o.place) target in
      let first = terms_code f h branch (start + 1) in
      let second = terms_code f h other (after_branch (start + 1) first (jumps_over branch other)) in
      chosen (size_of_code (form_code f h (if_form o branch other join) at)) (weight_of_terms branch) (weight_of_terms other)
      (within_both (loads f.scratch 0 (o ∷ [])) (choice_code start chooses (jumps_over branch other) first second)
      3 (((6 + weight_of_terms branch) + 5) + weight_of_terms other) (one_load f.scratch o)
      (choice_within start chooses (jumps_over branch other) first second 6 (weight_of_terms branch) (weight_of_terms other)
      (λ target. unless_row (slot_read f.scratch 0 o.place) target)
      (terms_within f h branch (start + 1))
      (terms_within f h other (after_branch (start + 1) first (jumps_over branch other)))))
  form_within f h (loop_form first o body end) at =
      let again = not (terms_end body) in
      let a = slot_read f.scratch 0 o.place in
      let one = terms_code f (at_head f.static first body h) first at in
      let start = after_load f o (at + length one) in
      let two = terms_code f (after_terms f.static first (at_head f.static first body h)) body (start + 1) in
      let target = after_branch (start + 1) two again in
      looped (size_of_code (form_code f h (loop_form first o body end) at)) (weight_of_terms first) (weight_of_terms body)
      (within_both one (loads f.scratch 0 (o ∷ []) ++ turn_code a at again start two) (weight_of_terms first)
      (3 + ((6 + weight_of_terms body) + 5)) (terms_within f (at_head f.static first body h) first at)
      (within_both (loads f.scratch 0 (o ∷ [])) (turn_code a at again start two) 3 ((6 + weight_of_terms body) + 5)
      (one_load f.scratch o)
      (within_both (does.Unless a target ∷ two) (jump_if again at) (6 + weight_of_terms body) 5
      (within_both (does.Unless a target ∷ []) two 6 (weight_of_terms body)
      (within_one (does.Unless a target) 6 6 (unless_row a target) (omega arith))
      (terms_within f (after_terms f.static first (at_head f.static first body h)) body (start + 1)))
      (jump_within again at))))
  form_within f h (assert_form o perm) at = omega arith
  form_within f h (disown_form o) at =
      with_load f.scratch o (does.Disown (slot_read f.scratch 0 o.place)) 2 (disown_row (slot_read f.scratch 0 o.place))
      (omega arith)
  form_within f h (drop_form k) at = omega arith
  form_within f h (return_form place) at = return_within f place
  form_within f h (revert_form o) at =
      with_load f.scratch o (does.Revert (slot_read f.scratch 0 o.place)) 2 (revert_row (slot_read f.scratch 0 o.place))
      (omega arith)
  form_within f h bad_row_form at = omega arith

  pub terms_within : (f : EmissionFrame) (h : Holdings) (ts : SilicaTerms) (at : ℕ)
      → size_of_code (terms_code f h ts at) ≤ weight_of_terms ts
  terms_within f h no_terms at = omega arith
  terms_within f h (and_term form span rest) at =
      within_both (form_code f h form at) (terms_code f (after_form f.static form h) rest (at + length (form_code f h form at)))
      (weight_of_form form) (weight_of_terms rest) (form_within f h form at)
      (terms_within f (after_form f.static form h) rest (at + length (form_code f h form at)))

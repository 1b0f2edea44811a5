-- The code of a body's terms (this project's own; the form is that of a compiler from structured terms to jumps, Leroy, "Formal
-- verification of a realistic compiler", CACM 52(7), 2009).
use Rattle.std.specs.Prelude.{ℕ, ◌+◌, max, Bool, true, false, not, List, [], ◌∷◌, ◌++◌, map, length, Option, Some, None, if◌then◌else◌}
use Rattle.std.specs.Option.{option_map_or}
use Rattle.ob_base.specs.declared.id.ContractId.{ContractId}
use Rattle.ob_base.specs.declared.id.FieldId.{FieldId}
use Rattle.ob_base.specs.declared.id.StateId.{StateId}
use Rattle.ob_base.specs.declared.id.TxId.{TxId}
use Rattle.ob_base.specs.declared.operator.Operator.{Operator}
use Rattle.ob_base.specs.declared.operator.Operator.TheVariants as operator
use Rattle.ob_table.specs.Tables.{field_at, signature_of}
use Rattle.ob_table.specs.declared.contract.Contract.{Contract}
use Rattle.ob_table.specs.declared.contract.Field.{Field as FieldOf}
use Rattle.ob_table.specs.declared.contract.ResolvedType.TheVariants.{Reference as TypedReference}
use Rattle.ob_table.specs.declared.contract.Signature.{Signature}
use Rattle.ob_table.specs.declared.operator.BinaryOperator.{BinaryOperator}
use Rattle.ob_table.specs.declared.operator.BinaryOperator.TheVariants as binary
use Rattle.ob_table.specs.declared.operator.UnaryOperator.{UnaryOperator}
use Rattle.ob_table.specs.declared.operator.UnaryOperator.TheVariants as unary
use Rattle.ob_table.specs.declared.seen.Kind.{Kind}
use Rattle.ob_table.specs.declared.seen.Kind.TheVariants.{Reference}
use Rattle.ob_table_spec.specs.WellFormed.{StaticFrame, constructor_at}
use Rattle.ob_silica.specs.Terms.{SilicaForm, unit_form, const_form, op_form, copy_form, move_form, new_form, call_form, call_this_form, change_form, test_form, if_form, loop_form, assert_form, disown_form, drop_form, return_form, revert_form, bad_row_form, SilicaTerms, no_terms, and_term}
use Rattle.ob_silica.specs.declared.place.Constant.{Constant}
use Rattle.ob_silica.specs.declared.place.Constant.TheVariants as constant
use Rattle.ob_silica.specs.declared.place.Given.{Given}
use Rattle.ob_silica.specs.declared.place.Operand.{Operand}
use Rattle.ob_silica.specs.declared.place.Place.{Place}
use Rattle.ob_silica.specs.declared.place.Place.TheVariants.{This, Slot, Field}
use Rattle.ob_silica.specs.declared.term.SilicaOperator.{SilicaOperator}
use Rattle.ob_silica.specs.declared.term.SilicaOperator.TheVariants.{Unary, Binary}
use Rattle.ob_silica_places.specs.Parameters.{Parameter, all_parameters, parameters}
use Rattle.ob_silica_formed.specs.Holdings.{Holdings, kind_of_operand, terms_end, after_form, after_terms, at_head}
use Rattle.ob_code.specs.Code.{no_result}
use Rattle.ob_code.specs.declared.instruction.Instruction.{Instruction}
use Rattle.ob_code.specs.declared.instruction.Instruction.TheVariants as instruction
use Rattle.ob_emit_spec.specs.Operands.{slot_read, slots_read, loads, all_scratch_slots, values_given, share, shares}

-- What stands around the forms of a body: the table, its contract and its result as well-formed terms see them, its signature,
-- whether it is a constructor's, and the number of its first scratch slot.
pub record EmissionFrame : Type 0 where
  pub static : StaticFrame
  pub signature : Signature
  pub constructs : Bool
  pub scratch : ℕ

-- Constants and operators.

-- a slot is set to a constant
abbrev pub constant_code : ℕ → Constant → Instruction
constant_code k (constant.Int z) = instruction.Int k z
constant_code k (constant.Bool b) = instruction.Bool k (if b then 1 else 0)
constant_code k (constant.Text bytes) = instruction.Text k bytes

-- the operator of an instruction that has one operand
abbrev pub unary_code : UnaryOperator → Operator
unary_code unary.Not = operator.Not
unary_code unary.Negate = operator.Negate

-- the operator of an instruction that has two operands
abbrev pub binary_code : BinaryOperator → Operator
binary_code binary.Add = operator.Add
binary_code binary.Sub = operator.Sub
binary_code binary.Mul = operator.Mul
binary_code binary.Div = operator.Div
binary_code binary.Rem = operator.Rem
binary_code binary.Equal = operator.Equal
binary_code binary.NotEqual = operator.NotEqual
binary_code binary.Less = operator.Less
binary_code binary.LessEqual = operator.LessEqual
binary_code binary.Greater = operator.Greater
binary_code binary.GreaterEqual = operator.GreaterEqual

-- an operation: the left operand is read before the right one, and a single one stands twice
abbrev pub operation_code : ℕ → ℕ → SilicaOperator → Operand → Operand → ℕ → List Instruction
operation_code scratch k (Unary o) a b line =
    loads scratch 0 (a ∷ [])
    ++ instruction.Op k (unary_code o) (slot_read scratch 0 a.place) (slot_read scratch 0 a.place) line ∷ []
operation_code scratch k (Binary o) a b line =
    loads scratch 0 (a ∷ b ∷ [])
    ++ instruction.Op k (binary_code o) (slot_read scratch 0 a.place) (slot_read scratch 1 b.place) line ∷ []

-- Copies and moves.

-- a slot gets the value of a place; a field is loaded into it
abbrev pub fetch_code : ℕ → Place → Instruction
fetch_code k This = instruction.Copy k 0
fetch_code k (Slot a) = instruction.Copy k a
fetch_code k (Field id) = instruction.Load k id

-- the object of a slot is marked where the field that gets it is declared Shared
abbrev pub share_in_field : Contract → FieldId → ℕ → List Instruction
share_in_field own id a = option_map_or (λ (f : FieldOf). share f.of a) (field_at own id) []

-- a value that is no reference is copied to a place
abbrev pub copy_code : ℕ → Place → Operand → List Instruction
copy_code scratch This from = fetch_code 0 from.place ∷ []
copy_code scratch (Slot k) from = fetch_code k from.place ∷ []
copy_code scratch (Field id) from = loads scratch 0 (from ∷ []) ++ instruction.Store id (slot_read scratch 0 from.place) ∷ []

-- a reference is moved to a place
abbrev pub move_code : Contract → ℕ → Place → Operand → List Instruction
move_code own scratch This from = fetch_code 0 from.place ∷ []
move_code own scratch (Slot k) from = fetch_code k from.place ∷ []
move_code own scratch (Field id) from =
    loads scratch 0 (from ∷ [])
    ++ share_in_field own id (slot_read scratch 0 from.place)
    ++ instruction.Store id (slot_read scratch 0 from.place) ∷ []

-- Calls. The objects of the receiver and of the arguments are marked in this order, before the call takes its unit.

-- the slot of an instruction that gets a result, which may be none
abbrev pub result_slot : Option ℕ → ℕ
result_slot None = no_result
result_slot (Some k) = k

-- the marks of what comes into a callee: its receiver, and then its arguments
abbrev pub shares_of_call : ContractId → Option Signature → List ℕ → List Instruction
shares_of_call contract None slots = []
shares_of_call contract (Some s) slots = shares (map (λ (p : Parameter). p.of) (all_parameters contract s)) slots

-- the marks of what comes into a constructor
abbrev pub shares_of_new : Option Signature → List ℕ → List Instruction
shares_of_new None slots = []
shares_of_new (Some s) slots = shares (map (λ (p : Parameter). p.of) (parameters s)) slots

-- a call of the object of a place
abbrev pub call_code : EmissionFrame → Option ℕ → Operand → ContractId → TxId → List Operand → List Instruction
call_code f k receiver contract tx args =
    loads f.scratch 0 (receiver ∷ args)
    ++ shares_of_call contract (signature_of f.static.table contract tx) (slots_read f.scratch 0 (receiver ∷ args))
    ++ instruction.Call (result_slot k) (slot_read f.scratch 0 receiver.place) contract tx (slots_read f.scratch 1 args) ∷ []

-- a call of a transaction of `this`
abbrev pub call_this_code : EmissionFrame → Option ℕ → TxId → List Operand → List Instruction
call_this_code f k tx args =
    loads f.scratch 0 args
    ++ shares_of_call f.static.here (signature_of f.static.table f.static.here tx) (0 ∷ slots_read f.scratch 0 args)
    ++ instruction.SelfCall (result_slot k) tx (slots_read f.scratch 0 args) ∷ []

-- a `new`
abbrev pub new_code : EmissionFrame → ℕ → ContractId → List Operand → List Instruction
new_code f k contract args =
    loads f.scratch 0 args
    ++ shares_of_new (constructor_at f.static.table contract) (slots_read f.scratch 0 args)
    ++ instruction.New k contract (slots_read f.scratch 0 args) ∷ []

-- Changes of state. The change comes before the marks, since it may abort.

-- each field that is given, with the slot of its value, of which the first has this number
abbrev pub given_slots : ℕ → ℕ → List Given → List (FieldId × ℕ)
given_slots scratch n [] = []
given_slots scratch n (g ∷ gs) = (g.field, slot_read scratch n g.from.place) ∷ given_slots scratch (n + 1) gs

-- the marks of what comes into fields
abbrev pub shares_of_given : Contract → List (FieldId × ℕ) → List Instruction
shares_of_given own [] = []
shares_of_given own (g ∷ gs) = share_in_field own g.0 g.1 ++ shares_of_given own gs

-- a change of state
abbrev pub change_code : Contract → ℕ → StateId → List Given → List Instruction
change_code own scratch state given =
    loads scratch 0 (values_given given)
    ++ instruction.Change state (given_slots scratch 0 given) ∷ shares_of_given own (given_slots scratch 0 given)

-- Branches. A choice is a jump forward over the branch that isn't run; `&&` and `||` are such choices too.

-- whether a branch ends with a jump over the other one: its end is reached, and the other one has terms
abbrev pub jumps_over : SilicaTerms → SilicaTerms → Bool
jumps_over branch no_terms = false
jumps_over branch (and_term form span rest) = not (terms_end branch)

-- a jump to a place, or none
abbrev pub jump_if : Bool → ℕ → List Instruction
jump_if true target = instruction.Jump target ∷ []
jump_if false target = []

-- where the other branch begins after one at this place, with or without a jump behind it
abbrev pub after_branch : ℕ → List Instruction → Bool → ℕ
after_branch at branch jumps = at + length branch + (if jumps then 1 else 0)

-- A choice at a place: an instruction that names where the other branch begins, the branch, the jump over the other one if there
-- is one, and the other branch.
abbrev pub choice_code : ℕ → (ℕ → Instruction) → Bool → List Instruction → List Instruction → List Instruction
choice_code at chooses jumps branch other =
    chooses (after_branch (at + 1) branch jumps)
    ∷ branch ++ jump_if jumps (after_branch (at + 1) branch jumps + length other) ++ other

-- the test of a branch ends where the end of the branch is reached
abbrev pub end_test : SilicaTerms → List Instruction
end_test branch = if terms_end branch then [] else instruction.EndTest ∷ []

-- the contract or interface to which a place refers; the place of a test is known to be a reference, and the 0 means nothing
abbrev pub contract_referred : Option Kind → ContractId
contract_referred (Some (Reference id)) = id
contract_referred kind = record { 0 = 0 }

-- Returns.

-- a return without a value: a constructor's object is marked where it is given as Shared
abbrev pub return_none_code : EmissionFrame → List Instruction
return_none_code f =
    (if f.constructs then share (TypedReference f.static.here f.signature.exit) 0 else []) ++ instruction.Ret ∷ []

-- a value comes into the result
abbrev pub share_result : Signature → ℕ → List Instruction
share_result s a = option_map_or (λ of. share of a) s.result []

-- a return
abbrev pub return_code : EmissionFrame → Option Operand → List Instruction
return_code f None = return_none_code f
return_code f (Some o) =
    loads f.scratch 0 (o ∷ [])
    ++ share_result f.signature (slot_read f.scratch 0 o.place)
    ++ instruction.RetValue (slot_read f.scratch 0 o.place) ∷ []

-- Forms.

-- where the instruction of a form with one operand stands, if its code begins at this place
abbrev pub after_load : EmissionFrame → Operand → ℕ → ℕ
after_load f o at = at + length (loads f.scratch 0 (o ∷ []))

-- the code of a choice by an operand, from the code of its branches by their places
abbrev pub choose_code : EmissionFrame → Operand → (ℕ → ℕ → Instruction) → Bool → (ℕ → List Instruction)
    → (ℕ → List Instruction) → ℕ → List Instruction
choose_code f o chooses jumps branch other at =
    loads f.scratch 0 (o ∷ [])
    ++ choice_code (after_load f o at) (chooses (slot_read f.scratch 0 o.place)) jumps
    (branch (after_load f o at + 1))
    (other (after_branch (after_load f o at + 1) (branch (after_load f o at + 1)) jumps))

-- what is behind the operand of a loop, at a place: an instruction that leaves the loop where the operand is false, the body, and a
-- jump back to the place where the loop begins, where the body's end is reached
abbrev pub turn_code : ℕ → ℕ → Bool → ℕ → List Instruction → List Instruction
turn_code a start again at body = instruction.Unless a (after_branch (at + 1) body again) ∷ (body ++ jump_if again start)

-- the code of a loop at a place, from that of its first part, and that of its body by its place
abbrev pub loop_code : EmissionFrame → Operand → Bool → List Instruction → (ℕ → List Instruction) → ℕ → List Instruction
loop_code f o again first body start =
    first ++ (loads f.scratch 0 (o ∷ [])
    ++ turn_code (slot_read f.scratch 0 o.place) start again (after_load f o (start + length first))
    (body (after_load f o (start + length first) + 1)))

abbrev mutual
  -- the code of a form at a place, where slots hold this
  pub form_code : EmissionFrame → Holdings → SilicaForm → ℕ → List Instruction
  form_code f h unit_form at = instruction.Unit ∷ []
  form_code f h (const_form k value) at = constant_code k value ∷ []
  form_code f h (op_form k operator a b line) at = operation_code f.scratch k operator a b line
  form_code f h (copy_form to from) at = copy_code f.scratch to from
  form_code f h (move_form to from contract) at = move_code f.static.own f.scratch to from
  form_code f h (new_form k contract args) at = new_code f k contract args
  form_code f h (call_form k receiver contract tx args) at = call_code f k receiver contract tx args
  form_code f h (call_this_form k tx args) at = call_this_code f k tx args
  form_code f h (change_form state given) at = change_code f.static.own f.scratch state given
  form_code f h (test_form o state branch other join) at =
      choose_code f o (λ a target. instruction.Test a (contract_referred (kind_of_operand f.static h o)) state target)
      (jumps_over branch other) (λ place. terms_code f h branch place ++ end_test branch) (λ place. terms_code f h other place) at
  form_code f h (if_form o branch other join) at =
      choose_code f o (λ a target. instruction.Unless a target)
      (jumps_over branch other) (λ place. terms_code f h branch place) (λ place. terms_code f h other place) at
  form_code f h (loop_form first o body end) at =
      loop_code f o (not (terms_end body)) (terms_code f (at_head f.static first body h) first at)
      (λ place. terms_code f (after_terms f.static first (at_head f.static first body h)) body place) at
  form_code f h (assert_form o perm) at = []
  form_code f h (disown_form o) at =
      loads f.scratch 0 (o ∷ []) ++ instruction.Disown (slot_read f.scratch 0 o.place) ∷ []
  form_code f h (drop_form k) at = []
  form_code f h (return_form place) at = return_code f place
  form_code f h (revert_form o) at =
      loads f.scratch 0 (o ∷ []) ++ instruction.Revert (slot_read f.scratch 0 o.place) ∷ []
  form_code f h bad_row_form at = []

  -- the code of terms at a place, one after another
  pub terms_code : EmissionFrame → Holdings → SilicaTerms → ℕ → List Instruction
  terms_code f h no_terms at = []
  terms_code f h (and_term form span rest) at =
      form_code f h form at
      ++ terms_code f (after_form f.static form h) rest (at + length (form_code f h form at))

-- Scratch slots.

abbrev mutual
  -- how many scratch slots a form needs
  pub scratch_of_form : SilicaForm → ℕ
  scratch_of_form unit_form = 0
  scratch_of_form (const_form k value) = 0
  scratch_of_form (op_form k operator a b line) = all_scratch_slots 0 (a ∷ b ∷ [])
  scratch_of_form (copy_form to from) = all_scratch_slots 0 (from ∷ [])
  scratch_of_form (move_form to from contract) = all_scratch_slots 0 (from ∷ [])
  scratch_of_form (new_form k contract args) = all_scratch_slots 0 args
  scratch_of_form (call_form k receiver contract tx args) = all_scratch_slots 0 (receiver ∷ args)
  scratch_of_form (call_this_form k tx args) = all_scratch_slots 0 args
  scratch_of_form (change_form state given) = all_scratch_slots 0 (values_given given)
  scratch_of_form (test_form o state branch other join) =
      max (all_scratch_slots 0 (o ∷ [])) (max (scratch_of_terms branch) (scratch_of_terms other))
  scratch_of_form (if_form o branch other join) =
      max (all_scratch_slots 0 (o ∷ [])) (max (scratch_of_terms branch) (scratch_of_terms other))
  scratch_of_form (loop_form first o body end) =
      max (all_scratch_slots 0 (o ∷ [])) (max (scratch_of_terms first) (scratch_of_terms body))
  scratch_of_form (assert_form o perm) = 0
  scratch_of_form (disown_form o) = all_scratch_slots 0 (o ∷ [])
  scratch_of_form (drop_form k) = 0
  scratch_of_form (return_form None) = 0
  scratch_of_form (return_form (Some o)) = all_scratch_slots 0 (o ∷ [])
  scratch_of_form (revert_form o) = all_scratch_slots 0 (o ∷ [])
  scratch_of_form bad_row_form = 0

  -- how many scratch slots terms need
  pub scratch_of_terms : SilicaTerms → ℕ
  scratch_of_terms no_terms = 0
  scratch_of_terms (and_term form span rest) = max (scratch_of_form form) (scratch_of_terms rest)

-- The conditions on an instruction that don't speak of what slots hold, each by its name.
use Rattle.std.specs.Prelude.{ℕ, ◌+◌, List, [], ◌∷◌, length, Option, Some, None, is_some, Bool, true, false, ◌==◌, nat_lt, ◌&&◌, ◌||◌, not, find, slice_get}
use Rattle.std.specs.Option.{option_map_or}
use Rattle.std.specs.List.{list_all}
use Rattle.ob_base.specs.declared.id.ContractId.{ContractId}
use Rattle.ob_base.specs.declared.id.StateId.{StateId}
use Rattle.ob_table.specs.declared.seen.Kind.{Kind}
use Rattle.ob_code.specs.declared.image.BodyCode.{BodyCode}
use Rattle.ob_code.specs.declared.image.ContractCode.{ContractCode}
use Rattle.ob_code.specs.declared.image.Image.{Image}
use Rattle.ob_code.specs.declared.instruction.Instruction.{Instruction}
use Rattle.ob_code.specs.declared.instruction.Instruction.TheVariants as is
use Rattle.ob_code.specs.Code.{is_interface, is_private, is_constructor, contract_code, body_code, is_transaction_named}
use Rattle.ob_verify_spec.specs.Kinds.{same_kind, implements_number}
use Rattle.ob_verify_spec.specs.Frames.{CodeFrame, kinds_of_params, kind_of_result}
use Rattle.ob_verify_spec.specs.Instructions.{reads, slot_set, slot_of_result, fields_named, targets}

-- A bad jump: a target isn't in the body.

-- whether a place is in the body
abbrev pub is_within : CodeFrame → ℕ → Bool
is_within f t = nat_lt t (length f.body.instructions)

-- whether an instruction has a bad jump
abbrev pub bad_jump : CodeFrame → Instruction → Bool
bad_jump f x = not (list_all (is_within f) (targets x))

-- A bad slot: one that isn't below the body's number is named, or that of `this` is set; or, at the first instruction, the body
-- has fewer slots than `this` and its parameters take.

-- whether a body has too few slots, at its first instruction
abbrev pub lacks_slots : CodeFrame → ℕ → Bool
lacks_slots f i = i == 0 && nat_lt f.body.slots (length f.body.params + 1)

-- whether a slot can be set
abbrev pub may_set : CodeFrame → ℕ → Bool
may_set f k = not (k == 0) && nat_lt k f.body.slots

-- whether an instruction names a bad slot
abbrev pub names_bad_slot : CodeFrame → Instruction → Bool
names_bad_slot f x = not (list_all (λ k. nat_lt k f.body.slots) (reads x)) || not (option_map_or (may_set f) (slot_set x) true)

-- whether the one or the other is so
abbrev pub bad_slot : CodeFrame → ℕ → Instruction → Bool
bad_slot f i x = lacks_slots f i || names_bad_slot f x

-- A bad field: one that the contract doesn't have is named.

-- whether an instruction names a bad field
abbrev pub bad_field : CodeFrame → Instruction → Bool
bad_field f x = not (list_all (λ field. nat_lt field.0 (length f.own.fields)) (fields_named x))

-- A bad call: a contract, state, body, number of arguments or result is named that there isn't.

-- whether a contract or interface has a state of this number
abbrev pub has_state : StateId → ContractCode → Bool
has_state s own = nat_lt s.0 (length own.states)

-- whether a body is no constructor's, and takes so many arguments, and has a result where a slot gets one
abbrev pub takes : ℕ → Option ℕ → BodyCode → Bool
takes count slot b = not (is_constructor b) && count == length b.params && (not (is_some slot) || is_some b.result)

-- whether kinds are the same, one by one
abbrev pub same_kinds : List Kind → List Kind → Bool
same_kinds [] [] = true
same_kinds (x ∷ xs) (y ∷ ys) = same_kind x y && same_kinds xs ys
same_kinds xs ys = false

-- whether two results, where there are any, are of one kind
abbrev pub same_result : Option Kind → Option Kind → Bool
same_result None None = true
same_result (Some x) (Some y) = same_kind x y
same_result x y = false

-- whether a body can answer for a transaction of an interface
abbrev pub answers_for : BodyCode → BodyCode → Bool
answers_for asked b =
    not (is_private b) && same_kinds (kinds_of_params asked) (kinds_of_params b) && same_result (kind_of_result asked) (kind_of_result b)

-- whether a contract's first transaction of a name can answer for one of an interface
abbrev pub has_answer : BodyCode → ContractCode → Bool
has_answer asked own = option_map_or (answers_for asked) (find (is_transaction_named asked.name) own.bodies) false

-- whether each contract that implements an interface has an answer for its transaction
abbrev pub answers_if_implemented : ContractId → BodyCode → ContractCode → Bool
answers_if_implemented interface asked own = not (implements_number interface own) || is_interface own || has_answer asked own

-- whether a transaction is answered wherever it is called: that of a contract is, and that of an interface by those that implement it
abbrev pub is_answered : Image → ContractId → BodyCode → Bool
is_answered m c asked =
    not (option_map_or is_interface (contract_code m c) false) || list_all (answers_if_implemented c asked) m.contracts

-- whether a `new` of a contract takes so many arguments
abbrev pub constructs : ℕ → ContractCode → Bool
constructs count own =
    not (is_interface own) && option_map_or (λ (b : BodyCode). count == length b.params) (find is_constructor own.bodies) false

-- whether an instruction is a bad call
abbrev pub bad_call : CodeFrame → Instruction → Bool
bad_call f (is.Test a c s t) = not (option_map_or (has_state s) (contract_code f.image c) false)
bad_call f (is.Change s given) = not (has_state s f.own)
bad_call f (is.New k c args) = not (option_map_or (constructs (length args)) (contract_code f.image c) false)
bad_call f (is.Call k a c tx args) =
    not (option_map_or (λ (b : BodyCode). takes (length args) (slot_of_result k) b && is_answered f.image c b) (body_code f.image c tx) false)
bad_call f (is.SelfCall k tx args) = not (option_map_or (takes (length args) (slot_of_result k)) (slice_get f.own.bodies tx.0) false)
bad_call f is.Ret = is_some f.body.result
bad_call f (is.RetValue a) = not (is_some f.body.result)
bad_call f x = false

-- No fuel mark: a jump backward, or to itself, leads to no `unit`. So each turn of a loop takes a unit.

-- whether an instruction is a `unit`
abbrev pub is_unit : Instruction → Bool
is_unit is.Unit = true
is_unit x = false

-- whether a target is ahead of an instruction, or a `unit` stands there
abbrev pub is_ahead_or_unit : CodeFrame → ℕ → ℕ → Bool
is_ahead_or_unit f i t = nat_lt i t || option_map_or is_unit (slice_get f.body.instructions t) false

-- whether an instruction jumps backward, or to itself, without a fuel mark
abbrev pub no_fuel_mark : CodeFrame → ℕ → Instruction → Bool
no_fuel_mark f i x = not (list_all (is_ahead_or_unit f i) (targets x))

-- whether none of these conditions holds, so that ways go on after the instruction
abbrev pub may_go_on : CodeFrame → ℕ → Instruction → Bool
may_go_on f i x = not (bad_jump f x) && not (bad_slot f i x) && not (bad_field f x) && not (bad_call f x) && not (no_fuel_mark f i x)

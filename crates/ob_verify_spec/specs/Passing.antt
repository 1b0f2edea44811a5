-- The first fault of a body, found on one pass over its instructions in their order. What jumps forward bring to an instruction is
-- known when the pass comes to it. What jumps backward bring is known before the pass: where there are some, by passes that are
-- repeated until nothing changes.
use Rattle.std.specs.Prelude.{ℕ, zero, suc, ◌+◌, ◌*◌, List, [], ◌∷◌, length, Option, Some, None, Bool, false, ◌||◌, not, nat_le, slice_get, slice_set, if◌then◌else◌}
use Rattle.std.specs.List.{list_all}
use Rattle.std.specs.Option.{option_flatten}
use Rattle.ob_table.specs.declared.seen.Kind.{Kind}
use Rattle.ob_table.specs.declared.seen.Kind.TheVariants as kind
use Rattle.ob_code.specs.declared.image.Image.{Image}
use Rattle.ob_code.specs.declared.instruction.Instruction.{Instruction}
use Rattle.ob_verify_spec.specs.declared.CodeFault.{CodeFault}
use Rattle.ob_verify_spec.specs.declared.CodeFault.TheVariants.{BadJump, BadSlot, KindMismatch, BadField, BadCall, FallsOff, NoFuelMark}
use Rattle.ob_code.specs.Code.{is_interface}
use Rattle.ob_verify_spec.specs.Kinds.{both_hold}
use Rattle.ob_verify_spec.specs.Frames.{CodeFrame, kinds_of_params}
use Rattle.ob_verify_spec.specs.Instructions.{meets, needs, Effect, keeps, sets, copies, effect, targets, leads}
use Rattle.ob_verify_spec.specs.Conditions.{bad_jump, lacks_slots, bad_slot, bad_field, bad_call, no_fuel_mark, may_go_on}

-- what is in a cell; one that is unset or past the end holds nothing
abbrev pub held_at : {A : Type 0} → List (Option A) → ℕ → Option A
held_at xs k = option_flatten (slice_get xs k)

-- what the slots of a body are known to hold at a place, one after another
abbrev pub KindRow : Type 0
KindRow = List (Option Kind)

-- for each place of a body, and its end, the row of the ways to it that are known; none where none is
abbrev pub KindRows : Type 0
KindRows = List (Option KindRow)

-- so many slots, of which the first hold these
abbrev pub row_of : ℕ → List Kind → KindRow
row_of zero held = []
row_of (suc n) [] = None ∷ row_of n []
row_of (suc n) (x ∷ held) = Some x ∷ row_of n held

-- no row for so many places
abbrev pub no_rows : ℕ → KindRows
no_rows zero = []
no_rows (suc n) = None ∷ no_rows n

-- the rows that are known before any pass: that of the entry
abbrev pub first_rows : CodeFrame → KindRows
first_rows f = Some (row_of f.body.slots (kind.Reference f.here ∷ kinds_of_params f.body)) ∷ no_rows (length f.body.instructions)

-- what the slots are known to hold where two ways meet
abbrev pub meet : Image → KindRow → KindRow → KindRow
meet m [] other = []
meet m (x ∷ row) [] = None ∷ meet m row []
meet m (x ∷ row) (y ∷ other) = both_hold m x y ∷ meet m row other

-- the row after an effect
abbrev pub row_after : Effect → KindRow → KindRow
row_after keeps row = row
row_after (sets k held) row = slice_set row k held
row_after (copies k a) row = slice_set row k (held_at row a)

-- what the slots are known to hold at a place to which one more way leads
abbrev pub joined : Image → Option KindRow → KindRow → KindRow
joined m None row = row
joined m (Some known) row = meet m known row

-- one more way leads to a place, with this row
abbrev pub put_row : Image → KindRows → ℕ → KindRow → KindRows
put_row m rows j row = slice_set rows j (Some (joined m (held_at rows j) row))

-- the same of these places
abbrev pub put_rows : Image → KindRows → List ℕ → KindRow → KindRows
put_rows m rows [] row = rows
put_rows m rows (j ∷ places) row = put_rows m (put_row m rows j row) places row

-- the rows after the instruction at a place, whose own row, if it has one, was taken out
abbrev pub passed_with : CodeFrame → ℕ → Instruction → Option KindRow → KindRows → KindRows
passed_with f i x None rows = rows
passed_with f i x (Some row) rows = if may_go_on f i x then put_rows f.image rows (leads i x) (row_after (effect f x) row) else rows

-- the rows after the instruction at a place
abbrev pub passed : CodeFrame → ℕ → Instruction → KindRows → KindRows
passed f i x rows = passed_with f i x (held_at rows i) (slice_set rows i None)

-- the rows after these instructions, of which the first is at this place; those that are left are of places behind, and of the end
abbrev pub all_passed : CodeFrame → ℕ → List Instruction → KindRows → KindRows
all_passed f i [] rows = rows
all_passed f i (x ∷ xs) rows = all_passed f (i + 1) xs (passed f i x rows)

-- what the slots are known to hold at a place, where a pass has left a row for it, or none
abbrev pub merged_row : Image → Option KindRow → Option KindRow → Option KindRow
merged_row m known None = known
merged_row m known (Some row) = Some (joined m known row)

-- the same of places one after another
abbrev pub merged : Image → KindRows → KindRows → KindRows
merged m [] left = []
merged m (known ∷ rows) [] = known ∷ rows
merged m (known ∷ rows) (row ∷ left) = merged_row m known row ∷ merged m rows left

-- the rows that are known before a pass, after one more
abbrev pub rows_after_pass : CodeFrame → KindRows → KindRows
rows_after_pass f rows = merged f.image rows (all_passed f 0 f.body.instructions rows)

-- the same after so many
abbrev pub rows_after_passes : ℕ → CodeFrame → KindRows → KindRows
rows_after_passes zero f rows = rows
rows_after_passes (suc n) f rows = rows_after_passes n f (rows_after_pass f rows)

-- how many passes may change a row, at most: the first that comes to its place, and two for each slot, which holds a contract, then
-- the interface of several, then nothing that is known
abbrev pub most_changes : CodeFrame → ℕ
most_changes f = (length f.body.instructions + 1) * (f.body.slots + f.body.slots + 1)

-- whether one of these places is this or behind it
abbrev pub some_behind : ℕ → List ℕ → Bool
some_behind i [] = false
some_behind i (t ∷ places) = nat_le t i || some_behind i places

-- whether some instruction leads behind or to itself, where the first is at this place
abbrev pub some_lead_behind : ℕ → List Instruction → Bool
some_lead_behind i [] = false
some_lead_behind i (x ∷ xs) = some_behind i (targets x) || some_lead_behind (i + 1) xs

-- the rows that are known before the last pass: where some instruction leads behind, those that no further pass changes
abbrev pub known_rows : CodeFrame → KindRows
known_rows f =
    if some_lead_behind 0 f.body.instructions then rows_after_passes (most_changes f) f (first_rows f) else first_rows f

-- whether an instruction's needs are met by a row; by none they are
abbrev pub mismatched : CodeFrame → Instruction → Option KindRow → Bool
mismatched f x None = false
mismatched f x (Some row) = not (list_all (meets f.image (held_at row)) (needs f x))

-- the fault of the least number at an instruction
abbrev pub fault_at : CodeFrame → ℕ → Instruction → Option KindRow → Option CodeFault
fault_at f i x row =
    if bad_jump f x then Some BadJump
    else if bad_slot f i x then Some BadSlot
    else if mismatched f x row then Some KindMismatch
    else if bad_field f x then Some BadField
    else if bad_call f x then Some BadCall
    else if no_fuel_mark f i x then Some NoFuelMark
    else None

-- the fault at the end of a body
abbrev pub end_with : Option KindRow → Option CodeFault
end_with None = None
end_with (Some row) = Some FallsOff

-- the same, but a body with too few slots and without an instruction has another fault there
abbrev pub fault_at_end : CodeFrame → ℕ → Option KindRow → Option CodeFault
fault_at_end f i row = if lacks_slots f i then Some BadSlot else end_with row

-- a fault, with the place of its instruction
pub record FaultAt : Type 0 where
  pub instruction : ℕ
  pub fault : CodeFault

-- a fault at a place, if there is one, or else a later one
abbrev pub found : ℕ → Option CodeFault → Option FaultAt → Option FaultAt
found i None rest = rest
found i (Some fault) rest = Some (record { instruction = i; fault = fault })

-- the first fault from a place on, with these instructions
abbrev pub first_fault_from : CodeFrame → ℕ → List Instruction → KindRows → Option FaultAt
first_fault_from f i [] rows = found i (fault_at_end f i (held_at rows i)) None
first_fault_from f i (x ∷ xs) rows = found i (fault_at f i x (held_at rows i)) (first_fault_from f (i + 1) xs (passed f i x rows))

-- the first fault of a body
abbrev pub first_fault : CodeFrame → Option FaultAt
first_fault f = first_fault_from f 0 f.body.instructions (known_rows f)

-- the same, but an interface's body has none
abbrev pub checked_fault : CodeFrame → Option FaultAt
checked_fault f = if is_interface f.own then None else first_fault f

-- the fault of the body of this number, if it has one, or else that of a later body
abbrev pub found_in : ℕ → Option FaultAt → Option (ℕ × FaultAt) → Option (ℕ × FaultAt)
found_in n None rest = rest
found_in n (Some fault) rest = Some (n, fault)

-- the first fault of bodies, of which the first has this number, with the number of its body
abbrev pub first_fault_of : ℕ → List CodeFrame → Option (ℕ × FaultAt)
first_fault_of n [] = None
first_fault_of n (f ∷ frames) = found_in n (checked_fault f) (first_fault_of (n + 1) frames)

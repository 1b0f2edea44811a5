-- The ways through a body, and which condition holds where.
use Rattle.std.specs.Prelude.{◌≡◌, ℕ, ◌<◌, ◌∷◌, length, Some, None, Bool, true, false, slice_get, Contains, ◌⊎◌}
use Rattle.ob_table.specs.declared.seen.Kind.TheVariants as kind
use Rattle.ob_code.specs.declared.instruction.Instruction.{Instruction}
use Rattle.ob_verify_spec.specs.declared.CodeFault.{CodeFault}
use Rattle.ob_verify_spec.specs.declared.CodeFault.TheVariants.{BadJump, BadSlot, KindMismatch, BadField, BadCall, FallsOff, NoFuelMark}
use Rattle.ob_verify_spec.specs.Kinds.{both_hold}
use Rattle.ob_verify_spec.specs.Frames.{CodeFrame, kinds_of_params}
use Rattle.ob_verify_spec.specs.Instructions.{KindsOfSlots, Need, slots_needed, meets, needs, done, effect, leads}
use Rattle.ob_verify_spec.specs.Conditions.{bad_jump, lacks_slots, names_bad_slot, bad_field, bad_call, no_fuel_mark, may_go_on}

-- the instruction at a place is this one
abbrev pub IsAt : CodeFrame → ℕ → Instruction → Type 0
IsAt f i x = slice_get f.body.instructions i ≡ Some x

-- what slots hold at the entry: `this`, and the arguments
abbrev pub at_entry : CodeFrame → KindsOfSlots
at_entry f = slice_get (kind.Reference f.here ∷ kinds_of_params f.body)

-- Some way leads to a place, and on it the slots hold this there. A way begins at the entry, and goes on after each instruction at
-- which no condition holds that doesn't speak of what slots hold.
pub data Way (f : CodeFrame) : ℕ → KindsOfSlots → Type 0 where
  start : Way f 0 (at_entry f)
  step : {i : ℕ} {s : KindsOfSlots} (x : Instruction) (j : ℕ) → Way f i s → IsAt f i x → may_go_on f i x ≡ true → Contains (leads i x) j → Way f j (done (effect f x) s)

-- some way leads to a place
abbrev pub IsReached : CodeFrame → ℕ → Type 0
IsReached f i = (s : KindsOfSlots) × Way f i s

-- on some way to a place a need isn't met, or in a slot of which it speaks two ways hold kinds that have nothing in common
pub data Mismatch (f : CodeFrame) (i : ℕ) (n : Need) : Type 0 where
  unmet : (s : KindsOfSlots) → Way f i s → meets f.image s n ≡ false → Mismatch f i n
  differs : (s t : KindsOfSlots) (k : ℕ) → Way f i s → Way f i t → Contains (slots_needed n) k
      → both_hold f.image (s k) (t k) ≡ None → Mismatch f i n

-- a condition that doesn't speak of ways holds at a place
pub record Breaks (f : CodeFrame) (i : ℕ) (test : Instruction → Bool) : Type 0 where
  pub instruction : Instruction
  pub at : IsAt f i instruction
  pub so : test instruction ≡ true

-- a need of the instruction at a place isn't met there
pub record Mismatches (f : CodeFrame) (i : ℕ) : Type 0 where
  pub instruction : Instruction
  pub at : IsAt f i instruction
  pub need : Need
  pub needed : Contains (needs f instruction) need
  pub so : Mismatch f i need

-- the condition of a fault holds at a place; an instruction that no way reaches has every condition but that on kinds
abbrev pub Holds : CodeFrame → ℕ → CodeFault → Type 0
Holds f i BadJump = Breaks f i (bad_jump f)
Holds f i BadSlot = (lacks_slots f i ≡ true) ⊎ Breaks f i (names_bad_slot f)
Holds f i KindMismatch = Mismatches f i
Holds f i BadField = Breaks f i (bad_field f)
Holds f i BadCall = Breaks f i (bad_call f)
Holds f i FallsOff = (i ≡ length f.body.instructions) × IsReached f i
Holds f i NoFuelMark = Breaks f i (no_fuel_mark f i)

-- the number of a fault
abbrev pub number_of : CodeFault → ℕ
number_of BadJump = 511
number_of BadSlot = 512
number_of KindMismatch = 513
number_of BadField = 514
number_of BadCall = 515
number_of FallsOff = 516
number_of NoFuelMark = 517

-- no condition holds in a body
abbrev pub IsFaultless : CodeFrame → Type 0
IsFaultless f = (i : ℕ) (fault : CodeFault) → ¬ (Holds f i fault)

-- the first instruction of a body at which a condition holds, and of those that hold there the one of the least number
pub record IsFirstFault (f : CodeFrame) (i : ℕ) (fault : CodeFault) : Type 0 where
  pub holds : Holds f i fault
  pub least : (other : CodeFault) → number_of other < number_of fault → ¬ (Holds f i other)
  pub first : (j : ℕ) (other : CodeFault) → j < i → ¬ (Holds f j other)

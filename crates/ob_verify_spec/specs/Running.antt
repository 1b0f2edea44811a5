-- What verified code promises to what runs it: each need is met, and it leaves neither its slots nor its code.
use Rattle.std.specs.Prelude.{◌≡◌, ◌≢◌, ◌⊎◌, ℕ, ◌<◌, ◌≤◌, length, Option, Some, None, true, Contains}
use Rattle.ob_code.specs.declared.instruction.Instruction.{Instruction}
use Rattle.ob_code.specs.declared.instruction.Instruction.TheVariants as is
use Rattle.ob_verify_spec.specs.Frames.{CodeFrame}
use Rattle.ob_verify_spec.specs.Instructions.{KindsOfSlots, reads, slot_set, leads, Need, slots_needed, meets, needs, done, effect}
use Rattle.ob_verify_spec.specs.Conditions.{may_go_on}
use Rattle.ob_verify_spec.specs.Ways.{IsAt, at_entry}
use Rattle.ob_verify_spec.specs.Calling.{FitKnown}

-- a place has kinds, and where they say what a slot of the body holds, it holds that or what may take the place of it
pub record AreKnownAt (f : CodeFrame) (kinds : ℕ → Option KindsOfSlots) (i : ℕ) (s : KindsOfSlots) : Type 0 where
  pub known : KindsOfSlots
  pub there : kinds i ≡ Some known
  pub held : FitKnown f.image f.body.slots known s

-- The kinds of a body hold on from instruction to instruction. At the entry they say no more than is so there, and just that where
-- nothing leads back to it. A place that has kinds has an instruction, whose needs they meet, and each place to which it leads has
-- kinds that say no more than is so after it. Each instruction names slots of the body alone, never sets that of `this`, and leads
-- ahead or to a `unit`.
pub record KeepsKinds (f : CodeFrame) (kinds : ℕ → Option KindsOfSlots) : Type 0 where
  pub enters : AreKnownAt f kinds 0 (at_entry f)
  pub as_entered : ((i : ℕ) (x : Instruction) → IsAt f i x → ¬ (Contains (leads i x) 0))
      → (s : KindsOfSlots) (k : ℕ) → kinds 0 ≡ Some s → k < f.body.slots → s k ≡ at_entry f k
  pub stays : (i : ℕ) (s : KindsOfSlots) → kinds i ≡ Some s → (x : Instruction) × IsAt f i x
  pub met : (i : ℕ) (x : Instruction) (s : KindsOfSlots) (n : Need) → IsAt f i x → kinds i ≡ Some s → Contains (needs f x) n → meets f.image s n ≡ true
  pub leads_on : (i j : ℕ) (x : Instruction) (s : KindsOfSlots) → IsAt f i x → kinds i ≡ Some s → Contains (leads i x) j → AreKnownAt f kinds j (done (effect f x) s)
  pub goes : (i : ℕ) (x : Instruction) → IsAt f i x → may_go_on f i x ≡ true
  pub reads_within : (i k : ℕ) (x : Instruction) → IsAt f i x → Contains (reads x) k → k < f.body.slots
  pub needs_within : (i k : ℕ) (x : Instruction) (n : Need) → IsAt f i x → Contains (needs f x) n → Contains (slots_needed n) k → k < f.body.slots
  pub sets_within : (i k : ℕ) (x : Instruction) → IsAt f i x → slot_set x ≡ Some k → (k ≢ 0) × (k < f.body.slots)
  pub ahead : (i j : ℕ) (x : Instruction) → IsAt f i x → Contains (leads i x) j
      → (j ≤ length f.body.instructions) × ((i < j) ⊎ IsAt f j is.Unit)
  pub ends : kinds (length f.body.instructions) ≡ None

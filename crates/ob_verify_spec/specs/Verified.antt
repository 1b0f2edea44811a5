-- Which image is verified, and what is wrong with another.
use Rattle.std.specs.Prelude.{◌≡◌, ◌↔◌, ℕ, ◌<◌, Option, Some, None, false, slice_get, All}
use Rattle.ob_table.specs.declared.seen.Kind.{Kind}
use Rattle.ob_code.specs.declared.image.Image.{Image}
use Rattle.ob_verify_spec.specs.declared.CodeFault.{CodeFault}
use Rattle.ob_code.specs.Code.{is_interface}
use Rattle.ob_verify_spec.specs.Kinds.{BelongsTo}
use Rattle.ob_verify_spec.specs.Frames.{CodeFrame, frames_of}
use Rattle.ob_verify_spec.specs.Instructions.{KindsOfSlots}
use Rattle.ob_verify_spec.specs.Ways.{Way, IsReached, IsFaultless, IsFirstFault, number_of}

-- on each way to a place a slot holds a value of this kind there, or of one that belongs to it
abbrev pub HoldsOnAllWays : CodeFrame → ℕ → ℕ → Kind → Type 0
HoldsOnAllWays f i k held =
    (s : KindsOfSlots) → Way f i s → (x : Kind) × (s k ≡ Some x) × BelongsTo f.image x held

-- What is known of a slot at a place: the least kind to which all belong that it holds on the ways there. So where all ways hold one
-- kind it is that, and where they differ it is the interface of all of them.
pub record IsKnown (f : CodeFrame) (i k : ℕ) (held : Kind) : Type 0 where
  pub each : HoldsOnAllWays f i k held
  pub least : (x : Kind) → HoldsOnAllWays f i k x → BelongsTo f.image held x

-- The slot kinds of a body: before each instruction, and at the end, what is known of its slots; none where no way leads.
pub record AreSlotKinds (f : CodeFrame) (kinds : ℕ → Option KindsOfSlots) : Type 0 where
  pub unreached : (i : ℕ) → kinds i ≡ None → ¬ (IsReached f i)
  pub reached : (i : ℕ) (s : KindsOfSlots) → kinds i ≡ Some s → IsReached f i
  pub held : (i : ℕ) (s : KindsOfSlots) (k : ℕ) (x : Kind) → kinds i ≡ Some s → k < f.body.slots → (s k ≡ Some x) ↔ IsKnown f i k x

-- a body is verified: it has slot kinds, and no condition holds
pub record IsVerifiedBody (f : CodeFrame) : Type 0 where
  pub kinds : ℕ → Option KindsOfSlots
  pub are_kinds : AreSlotKinds f kinds
  pub faultless : IsFaultless f

-- an image is verified: each body is that isn't an interface's
abbrev pub IsVerified : Image → Type 0
IsVerified m = All (λ (f : CodeFrame). is_interface f.own ≡ false → IsVerifiedBody f) (frames_of m)

-- an image isn't verified: in the body of this number, which is no interface's, this is the first fault, and no body of a contract
-- before it has any
pub record HasFault (m : Image) (number body instruction : ℕ) : Type 0 where
  pub frame : CodeFrame
  pub at : slice_get (frames_of m) body ≡ Some frame
  pub contract : is_interface frame.own ≡ false
  pub fault : CodeFault
  pub numbered : number ≡ number_of fault
  pub first : IsFirstFault frame instruction fault
  pub before : (n : ℕ) (other : CodeFrame) → n < body → slice_get (frames_of m) n ≡ Some other → is_interface other.own ≡ false → IsFaultless other

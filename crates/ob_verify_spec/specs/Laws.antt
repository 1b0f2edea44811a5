-- What holds of the verifier's definitions (the statements are this project's own).
use Rattle.std.specs.Prelude.{◌≡◌, ◌↔◌, ◌⊎◌, ℕ, ◌<◌, ◌≤◌, Option, Some, None, false, slice_get, Contains}
use Rattle.ob_base.specs.declared.id.ContractId.{ContractId}
use Rattle.ob_base.specs.declared.id.TxId.{TxId}
use Rattle.ob_code.specs.declared.image.BodyCode.{BodyCode}
use Rattle.ob_code.specs.declared.image.ContractCode.{ContractCode}
use Rattle.ob_code.specs.declared.image.Image.{Image}
use Rattle.ob_code.specs.Code.{is_interface, contract_code}
use Rattle.ob_verify_spec.specs.Frames.{CodeFrame, frames_of}
use Rattle.ob_verify_spec.specs.Instructions.{KindsOfSlots}
use Rattle.ob_verify_spec.specs.Ways.{IsFirstFault, number_of}
use Rattle.ob_verify_spec.specs.Verified.{AreSlotKinds, IsVerifiedBody, IsVerified, HasFault}
use Rattle.ob_verify_spec.specs.Passing.{FaultAt}

-- what the first fault that is found in a body, or none, tells of it
abbrev pub TellsOfBody : CodeFrame → Option FaultAt → Type 0
TellsOfBody f None = IsVerifiedBody f
TellsOfBody f (Some x) = IsFirstFault f x.instruction x.fault

-- the same of an image, with the number of the body
abbrev pub TellsOfImage : Image → Option (ℕ × FaultAt) → Type 0
TellsOfImage m None = IsVerified m
TellsOfImage m (Some x) = HasFault m (number_of x.1.fault) x.0 x.1.instruction

-- an image is verified or has a fault, never both, and one fault at most
pub record HasOneVerdict (m : Image) : Type 0 where
  pub some : IsVerified m ⊎ ((number body instruction : ℕ) × HasFault m number body instruction)
  pub never_both : IsVerified m → (number body instruction : ℕ) → HasFault m number body instruction → ⊥
  pub one_fault : (number body instruction other_number other_body other_instruction : ℕ) → HasFault m number body instruction → HasFault m other_number other_body other_instruction
      → (number ≡ other_number) × (body ≡ other_body) × (instruction ≡ other_instruction)

-- kinds are known at the same places, and say the same of each slot of the body
pub record AreSameKinds (f : CodeFrame) (kinds others : ℕ → Option KindsOfSlots) : Type 0 where
  pub there : (i : ℕ) → (kinds i ≡ None) ↔ (others i ≡ None)
  pub held : (i k : ℕ) (s t : KindsOfSlots) → kinds i ≡ Some s → others i ≡ Some t → k < f.body.slots → s k ≡ t k

-- a body has slot kinds, and any two that it has are the same
pub record HasOneSlotKinds (f : CodeFrame) : Type 0 where
  pub some : (kinds : ℕ → Option KindsOfSlots) × AreSlotKinds f kinds
  pub same : (kinds others : ℕ → Option KindsOfSlots) → AreSlotKinds f kinds → AreSlotKinds f others → AreSameKinds f kinds others

-- a body with what stands around it
abbrev pub frame_of : Image → ContractId → ContractCode → BodyCode → CodeFrame
frame_of m c own b = record { image = m; here = c; own = own; body = b }

-- a contract of an image has this body, by its number there
pub record HasBody (m : Image) (c : ContractId) (own : ContractCode) (tx : TxId) (b : BodyCode) : Type 0 where
  pub contract : contract_code m c ≡ Some own
  pub body : slice_get own.bodies tx.0 ≡ Some b

-- each body of an image has at most as many slots as the byte of their number can say
pub record SlotsFitByte (image : Image) : Type 0 where
  pub each : (c : ContractId) (own : ContractCode) (tx : TxId) (b : BodyCode) → HasBody image c own tx b → b.slots ≤ 255

-- the frames of an image are those of the bodies of its contracts
pub record HasFrames (m : Image) : Type 0 where
  pub each : (c : ContractId) (own : ContractCode) (tx : TxId) (b : BodyCode) → HasBody m c own tx b → Contains (frames_of m) (frame_of m c own b)
  pub no_other : (f : CodeFrame) → Contains (frames_of m) f → (f.image ≡ m) × ((tx : TxId) × HasBody m f.here f.own tx f.body)

-- each body of an image is verified that isn't an interface's
abbrev pub HasVerifiedBodies : Image → Type 0
HasVerifiedBodies m = (c : ContractId) (own : ContractCode) (tx : TxId) (b : BodyCode) → HasBody m c own tx b → is_interface own ≡ false → IsVerifiedBody (frame_of m c own b)

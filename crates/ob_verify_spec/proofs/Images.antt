-- Images: the first fault of their bodies, one verdict, and their frames.
use Rattle.std.proofs.Common.{◌≡◌, ℕ, zero, suc, ◌+◌, ◌<◌, List, [], ◌∷◌, map, option_map, Option, Some, None, Bool, true, false, cond, Contains, All, slice_get, refl, sym, ap, ◌∙◌, subst, arith, ◌⊎◌, inl, inr}
use Rattle.std.proofs.lemmas.Bool.{true≢false, cases_order}
use Rattle.std.proofs.lemmas.Option.{slice_get-map, slice_get-get_or}
use Rattle.std.proofs.lemmas.List.Elements.{All-nil, All-cons, All-contains, Contains-append_left, Contains-append_right, Contains-append_cases}
use Rattle.ob_base.specs.declared.id.ContractId.{ContractId}
use Rattle.ob_base.specs.declared.id.TxId.{TxId}
use Rattle.ob_code.specs.declared.image.BodyCode.{BodyCode}
use Rattle.ob_code.specs.declared.image.ContractCode.{ContractCode}
use Rattle.ob_code.specs.declared.image.Image.{Image}
use Rattle.ob_verify_spec.specs.declared.CodeFault.{CodeFault}
use Rattle.ob_code.specs.Code.{is_interface}
use Rattle.ob_verify_spec.specs.Frames.{CodeFrame, frames_from, frames_of}
use Rattle.ob_verify_spec.specs.Ways.{Holds, number_of, IsFaultless, IsFirstFault}
use Rattle.ob_verify_spec.specs.Verified.{IsVerifiedBody, IsVerified, HasFault}
use Rattle.ob_verify_spec.specs.Passing.{FaultAt, first_fault, checked_fault, found_in, first_fault_of}
use Rattle.ob_verify_spec.specs.Laws.{TellsOfBody, TellsOfImage, HasOneVerdict, frame_of, HasBody, HasFrames, HasVerifiedBodies}
use Rattle.ob_verify_spec.proofs.Cells.{none_some, some_same}
use Rattle.ob_verify_spec.proofs.Listed.{not_empty, head, behind, cases, from_get}
use Rattle.ob_verify_spec.proofs.Verdict.{one_found}
use Rattle.ob_verify_spec.proofs.SlotKinds.{verified}

-- Bodies.

tells_of : (f : CodeFrame) (o : Option FaultAt) → first_fault f ≡ o → TellsOfBody f o
tells_of f None e = verified f e
tells_of f (Some x) e = one_found f x e

pub tells_of_body : (f : CodeFrame) → TellsOfBody f (first_fault f)
tells_of_body f = tells_of f (first_fault f) refl

-- a body that isn't an interface's is verified
abbrev IsPassed : CodeFrame → Type 0
IsPassed f = is_interface f.own ≡ false → IsVerifiedBody f

abbrev ChecksBody : CodeFrame → Option FaultAt → Type 0
ChecksBody f None = IsPassed f
ChecksBody f (Some x) = (is_interface f.own ≡ false) × IsFirstFault f x.instruction x.fault

checks_code : (f : CodeFrame) (o : Option FaultAt) → is_interface f.own ≡ false → TellsOfBody f o → ChecksBody f o
checks_code f None e t = λ w. t
checks_code f (Some x) e t = (e, t)

checks_of : (f : CodeFrame) (c : Bool) → is_interface f.own ≡ c → ChecksBody f (cond c None (first_fault f))
checks_of f true e = λ w. absurd (true≢false (sym e ∙ w))
checks_of f false e = checks_code f (first_fault f) e (tells_of_body f)

checks_body : (f : CodeFrame) → ChecksBody f (checked_fault f)
checks_body f = checks_of f (is_interface f.own) refl

-- Bodies one after another.

-- the first fault among bodies, and the place of its body
record FirstIn (frames : List CodeFrame) (place : ℕ) (x : FaultAt) : Type 0 where
  frame : CodeFrame
  at : slice_get frames place ≡ Some frame
  contract : is_interface frame.own ≡ false
  first : IsFirstFault frame x.instruction x.fault
  before : (n : ℕ) (other : CodeFrame) → n < place → slice_get frames n ≡ Some other → is_interface other.own ≡ false → IsFaultless other

abbrev TellsOfFrames : ℕ → List CodeFrame → Option (ℕ × FaultAt) → Type 0
TellsOfFrames n frames None = All IsPassed frames
TellsOfFrames n frames (Some x) = (place : ℕ) × (x.0 ≡ n + place) × FirstIn frames place x.1

before_next : (f : CodeFrame) (frames : List CodeFrame) (place : ℕ) → IsPassed f
    → ((n : ℕ) (other : CodeFrame) → n < place → slice_get frames n ≡ Some other → is_interface other.own ≡ false → IsFaultless other)
    → (n : ℕ) (other : CodeFrame) → n < suc place → slice_get (f ∷ frames) n ≡ Some other → is_interface other.own ≡ false → IsFaultless other
before_next f frames place passed rest zero other lt e w = let same : f ≡ other = some_same e in (subst IsPassed same passed w).faultless
before_next f frames place passed rest (suc n) other lt e w = rest n other (omega arith) e w

tells_next : (n : ℕ) (f : CodeFrame) (frames : List CodeFrame) (o : Option FaultAt) (rest : Option (ℕ × FaultAt)) → ChecksBody f o → TellsOfFrames (n + 1) frames rest
    → TellsOfFrames n (f ∷ frames) (found_in n o rest)
tells_next n f frames (Some x) rest c t = (0, omega arith, record { frame = f; at = refl; contract = c.0; first = c.1; before = λ k other lt. absurd (omega arith) })
tells_next n f frames None None c t = All-cons IsPassed f frames c t
tells_next n f frames None (Some x) c t = let e : x.0 ≡ n + 1 + t.0 = t.1 in
    (suc t.0, omega arith, record { frame = t.2.frame; at = t.2.at; contract = t.2.contract; first = t.2.first; before = before_next f frames t.0 c t.2.before })

tells_of_frames : (n : ℕ) (frames : List CodeFrame) → TellsOfFrames n frames (first_fault_of n frames)
tells_of_frames n [] = All-nil IsPassed
tells_of_frames n (f ∷ frames) = tells_next n f frames (checked_fault f) (first_fault_of (n + 1) frames) (checks_body f) (tells_of_frames (n + 1) frames)

fault_of : (m : Image) (x : ℕ × FaultAt) (place : ℕ) → x.0 ≡ place → FirstIn (frames_of m) place x.1 → HasFault m (number_of x.1.fault) x.0 x.1.instruction
fault_of m x place e h = record {
  frame = h.frame;
  at = ap (slice_get (frames_of m)) e ∙ h.at;
  contract = h.contract;
  fault = x.1.fault;
  numbered = refl;
  first = h.first;
  before = λ n other lt. let less : n < place = subst (λ z. n < z) e lt in h.before n other less;
}

tells_of_image_by : (m : Image) (o : Option (ℕ × FaultAt)) → TellsOfFrames 0 (frames_of m) o → TellsOfImage m o
tells_of_image_by m None t = t
tells_of_image_by m (Some x) t = let e : x.0 ≡ 0 + t.0 = t.1 in fault_of m x t.0 (omega arith) t.2

pub tells_of_image : (m : Image) → TellsOfImage m (first_fault_of 0 (frames_of m))
tells_of_image m = tells_of_image_by m (first_fault_of 0 (frames_of m)) (tells_of_frames 0 (frames_of m))

-- One verdict.

some_verdict : (m : Image) (o : Option (ℕ × FaultAt)) → TellsOfImage m o → IsVerified m ⊎ ((number body instruction : ℕ) × HasFault m number body instruction)
some_verdict m None t = inl t
some_verdict m (Some x) t = inr (number_of x.1.fault, x.0, x.1.instruction, t)

never_both : (m : Image) → IsVerified m → (number body instruction : ℕ) → HasFault m number body instruction → ⊥
never_both m v number body instruction h =
    let w : IsVerifiedBody h.frame = All-contains IsPassed (frames_of m) h.frame v (from_get (frames_of m) body h.frame h.at) h.contract in
    w.faultless instruction h.fault h.first.holds

not_before : (m : Image) (number body instruction other_number other_body other_instruction : ℕ) → HasFault m number body instruction
    → HasFault m other_number other_body other_instruction → body < other_body → ⊥
not_before m number body instruction other_number other_body other_instruction h g lt = g.before body h.frame lt h.at h.contract instruction h.fault h.first.holds

same_place : (f : CodeFrame) (i j : ℕ) (x y : CodeFault) → IsFirstFault f i x → IsFirstFault f j y → i ≡ j
same_place f i j x y a b = elim (cases_order i j) [
  | inl e ↦ e
  | inr (inl lt) ↦ absurd (b.first i x lt a.holds)
  | inr (inr lt) ↦ absurd (a.first j y lt b.holds)
]

same_number : (f : CodeFrame) (i j : ℕ) (x y : CodeFault) → i ≡ j → IsFirstFault f i x → IsFirstFault f j y → number_of x ≡ number_of y
same_number f i j x y e a b = elim (cases_order (number_of x) (number_of y)) [
  | inl same ↦ same
  | inr (inl lt) ↦ absurd (b.least x lt (subst (λ z. Holds f z x) e a.holds))
  | inr (inr lt) ↦ absurd (a.least y lt (subst (λ z. Holds f z y) (sym e) b.holds))
]

same_fault : (m : Image) (number body instruction other_number other_body other_instruction : ℕ) → body ≡ other_body → HasFault m number body instruction
    → HasFault m other_number other_body other_instruction
    → (number ≡ other_number) × (body ≡ other_body) × (instruction ≡ other_instruction)
same_fault m number body instruction other_number other_body other_instruction e h g =
    let frames : h.frame ≡ g.frame = some_same (sym h.at ∙ ap (slice_get (frames_of m)) e ∙ g.at) in
    let first : IsFirstFault g.frame instruction h.fault = subst (λ z. IsFirstFault z instruction h.fault) frames h.first in
    let place : instruction ≡ other_instruction = same_place g.frame instruction other_instruction h.fault g.fault first g.first in
    (h.numbered ∙ same_number g.frame instruction other_instruction h.fault g.fault place first g.first ∙ sym g.numbered, e, place)

one_fault : (m : Image) (number body instruction other_number other_body other_instruction : ℕ) → HasFault m number body instruction → HasFault m other_number other_body other_instruction
    → (number ≡ other_number) × (body ≡ other_body) × (instruction ≡ other_instruction)
one_fault m number body instruction other_number other_body other_instruction h g = elim (cases_order body other_body) [
  | inl e ↦ same_fault m number body instruction other_number other_body other_instruction e h g
  | inr (inl lt) ↦ absurd (not_before m number body instruction other_number other_body other_instruction h g lt)
  | inr (inr lt) ↦ absurd (not_before m other_number other_body other_instruction number body instruction g h lt)
]

pub one_verdict : (m : Image) → HasOneVerdict m
one_verdict m = record {
  some = some_verdict m (first_fault_of 0 (frames_of m)) (tells_of_image m);
  never_both = never_both m;
  one_fault = one_fault m;
}

-- Frames.

bodies_stand : (m : Image) (n : ContractId) (own : ContractCode) (bodies : List BodyCode) (tx : ℕ) (b : BodyCode) → slice_get bodies tx ≡ Some b
    → Contains (map (λ (z : BodyCode). frame_of m n own z) bodies) (frame_of m n own b)
bodies_stand m n own bodies tx b e =
    from_get (map (λ (z : BodyCode). frame_of m n own z) bodies) tx (frame_of m n own b)
    (slice_get-map (λ (z : BodyCode). frame_of m n own z) bodies tx ∙ ap (option_map (λ (z : BodyCode). frame_of m n own z)) e)

abbrev numbered : ℕ → ContractId
numbered n = record { 0 = n }

contracts_stand : (m : Image) (n : ℕ) (contracts : List ContractCode) (c : ℕ) (own : ContractCode) (tx : ℕ) (b : BodyCode) → slice_get contracts c ≡ Some own
    → slice_get own.bodies tx ≡ Some b
    → Contains (frames_from m n contracts) (frame_of m (numbered (n + c)) own b)
contracts_stand m n [] c own tx b e g = absurd (none_some e)
contracts_stand m n (first ∷ contracts) zero own tx b e g =
    let same : first ≡ own = some_same e in
    let at : slice_get first.bodies tx ≡ Some b = ap (λ (z : ContractCode). slice_get z.bodies tx) same ∙ g in
    let h = Contains-append_left (map (λ (z : BodyCode). frame_of m (numbered n) first z) first.bodies) (frames_from m (n + 1) contracts)
    (frame_of m (numbered n) first b) (bodies_stand m (numbered n) first first.bodies tx b at) in
    let place : n ≡ n + 0 = omega arith in
    subst (λ z. Contains (frames_from m n (first ∷ contracts)) (frame_of m (numbered z) own b)) place (subst (λ z. Contains (frames_from m n (first ∷ contracts)) (frame_of m (numbered n) z b)) same h)
contracts_stand m n (first ∷ contracts) (suc c) own tx b e g =
    let h = Contains-append_right (map (λ (z : BodyCode). frame_of m (numbered n) first z) first.bodies) (frames_from m (n + 1) contracts)
    (frame_of m (numbered (n + 1 + c)) own b) (contracts_stand m (n + 1) contracts c own tx b e g) in
    let place : n + 1 + c ≡ n + suc c = omega arith in
    subst (λ z. Contains (frames_from m n (first ∷ contracts)) (frame_of m (numbered z) own b)) place h

each_stands : (m : Image) (c : ContractId) (own : ContractCode) (tx : TxId) (b : BodyCode) → HasBody m c own tx b → Contains (frames_of m) (frame_of m c own b)
each_stands m c own tx b h =
    let place : 0 + c.0 ≡ c.0 = omega arith in
    subst (λ z. Contains (frames_of m) (frame_of m (numbered z) own b)) place (contracts_stand m 0 m.contracts c.0 own tx.0 b h.contract h.body)

-- a frame among those of contracts, of which the first has this number
abbrev StandsIn : Image → ℕ → List ContractCode → CodeFrame → Type 0
StandsIn m n contracts f = (f.image ≡ m) × ((c : ℕ) × (f.here.0 ≡ n + c) × (slice_get contracts c ≡ Some f.own) × ((tx : ℕ) × (slice_get f.own.bodies tx ≡ Some f.body)))

stands_first : (m : Image) (n : ℕ) (first : ContractCode) (contracts : List ContractCode) (b : BodyCode) → Contains first.bodies b
    → StandsIn m n (first ∷ contracts) (frame_of m (numbered n) first b)
stands_first m n first contracts b c = (refl, (0, omega arith, refl, (c.0, slice_get-get_or first.bodies c.0 b c.1 ∙ ap Some c.2)))

from_bodies : (m : Image) (n : ContractId) (own : ContractCode) (bodies : List BodyCode) (f : CodeFrame) → Contains (map (λ (z : BodyCode). frame_of m n own z) bodies) f
    → (b : BodyCode) × Contains bodies b × (frame_of m n own b ≡ f)
from_bodies m n own [] f c = absurd (not_empty f c)
from_bodies m n own (b ∷ bodies) f c = elim (cases (frame_of m n own b) f (map (λ (z : BodyCode). frame_of m n own z) bodies) c) [
  | inl e ↦ (b, head b bodies, e)
  | inr h ↦ let w = from_bodies m n own bodies f h in (w.0, behind b w.0 bodies w.1, w.2)
]

stands_in : (m : Image) (n : ℕ) (contracts : List ContractCode) (f : CodeFrame) → Contains (frames_from m n contracts) f → StandsIn m n contracts f
stands_in m n [] f c = absurd (not_empty f c)
stands_in m n (first ∷ contracts) f c = elim (Contains-append_cases (map (λ (z : BodyCode). frame_of m (numbered n) first z) first.bodies) (frames_from m (n + 1) contracts) f c) [
  | inl h ↦ let w = from_bodies m (numbered n) first first.bodies f h in subst (StandsIn m n (first ∷ contracts)) w.2 (stands_first m n first contracts w.0 w.1)
  | inr h ↦ let w = stands_in m (n + 1) contracts f h in let e : f.here.0 ≡ n + 1 + w.1.0 = w.1.1 in (w.0, (suc w.1.0, omega arith, w.1.2, w.1.3))
]

has_body : (m : Image) (f : CodeFrame) → StandsIn m 0 m.contracts f → (f.image ≡ m) × ((tx : TxId) × HasBody m f.here f.own tx f.body)
has_body m f (image, (c, e, own, (tx, at))) =
    let place : f.here.0 ≡ c = omega arith in
    (image, (record { 0 = tx }, record { contract = ap (slice_get m.contracts) place ∙ own; body = at }))

pub has_frames : (m : Image) → HasFrames m
has_frames m = record { each = each_stands m; no_other = λ f c. has_body m f (stands_in m 0 m.contracts f c) }

pub has_verified_bodies : (m : Image) → IsVerified m → HasVerifiedBodies m
has_verified_bodies m v c own tx b h w = All-contains IsPassed (frames_of m) (frame_of m c own b) v (each_stands m c own tx b h) w

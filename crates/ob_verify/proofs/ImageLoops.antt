-- The bodies of an image, one after another.
use Rattle.std.proofs.Common.{◌≡◌, ℕ, suc, ◌+◌, ◌<◌, ◌≤◌, List, [], ◌∷◌, ◌++◌, length, map, drop, get_or, Option, Some, None, refl, sym, ap, ◌∙◌, arith, add-one, drop-cons}
use Rattle.std.proofs.Math.ListN.{drop_of_length-le}
use Rattle.ob_base.specs.declared.id.ContractId.{ContractId}
use Rattle.ob_code.specs.declared.image.BodyCode.{BodyCode}
use Rattle.ob_code.specs.declared.image.ContractCode.{ContractCode}
use Rattle.ob_code.specs.declared.image.Image.{Image}
use Rattle.ob_verify_spec.specs.Frames.{CodeFrame, frames_from}
use Rattle.ob_verify_spec.specs.Passing.{FaultAt, found_in, checked_fault, first_fault_of}
use Rattle.ob_verify.specs.Bodies.{frames_in}

-- The bodies of one contract.

abbrev pub frame_of : Image → ContractId → ContractCode → BodyCode → CodeFrame
frame_of m here own b = record { image = m; here = here; own = own; body = b }

-- the first fault of the bodies of a contract from a place on
abbrev pub left_of : Image → ContractId → ContractCode → ℕ → List BodyCode → Option (ℕ × FaultAt)
left_of m here own n bodies = first_fault_of n (map (frame_of m here own) bodies)

from_body : (m : Image) (here : ContractId) (own : ContractCode) (n : ℕ) (bs : List BodyCode) (i : ℕ) (d : BodyCode) → i < length bs
    → left_of m here own n (drop i bs) ≡ found_in n (checked_fault (frame_of m here own (get_or bs i d))) (left_of m here own (n + 1) (drop (i + 1) bs))
from_body m here own n bs i d h = ap (left_of m here own n) (drop-cons bs i d h)
    ∙ ap (λ k. found_in n (checked_fault (frame_of m here own (get_or bs i d))) (left_of m here own (n + 1) (drop k bs))) (sym (add-one i))

pub body_found : (m : Image) (here : ContractId) (own : ContractCode) (all : Option (ℕ × FaultAt)) (n number : ℕ) (bs : List BodyCode) (i : ℕ) (b : BodyCode) (fault : FaultAt)
    → i < length bs → b ≡ get_or bs i b → all ≡ left_of m here own (n + i) (drop i bs) → Some fault ≡ checked_fault (frame_of m here own b) → number ≡ n + i → Some (number, fault) ≡ all
body_found m here own all n number bs i b fault h is e s k = ap (λ z. Some (z, fault)) k
    ∙ ap (λ z. found_in (n + i) z (left_of m here own (n + i + 1) (drop (i + 1) bs))) s
    ∙ ap (λ y. found_in (n + i) (checked_fault (frame_of m here own y)) (left_of m here own (n + i + 1) (drop (i + 1) bs))) is
    ∙ sym (from_body m here own (n + i) bs i b h) ∙ sym e

pub body_passed : (m : Image) (here : ContractId) (own : ContractCode) (all : Option (ℕ × FaultAt)) (n : ℕ) (bs : List BodyCode) (i : ℕ) (b : BodyCode) → i < length bs → b ≡ get_or bs i b
    → all ≡ left_of m here own (n + i) (drop i bs) → None ≡ checked_fault (frame_of m here own b) → all ≡ left_of m here own (n + (i + 1)) (drop (i + 1) bs)
body_passed m here own all n bs i b h is e s = let k : n + i + 1 ≡ n + (i + 1) = omega arith in
    e ∙ from_body m here own (n + i) bs i b h
    ∙ ap (λ y. found_in (n + i) (checked_fault (frame_of m here own y)) (left_of m here own (n + i + 1) (drop (i + 1) bs))) (sym is)
    ∙ ap (λ z. found_in (n + i) z (left_of m here own (n + i + 1) (drop (i + 1) bs))) (sym s)
    ∙ ap (λ z. left_of m here own z (drop (i + 1) bs)) k

pub bodies_done : (m : Image) (here : ContractId) (own : ContractCode) (all : Option (ℕ × FaultAt)) (n : ℕ) (bs : List BodyCode) (i : ℕ) → length bs ≤ i
    → all ≡ left_of m here own (n + i) (drop i bs) → None ≡ all
bodies_done m here own all n bs i h e = sym (e ∙ ap (left_of m here own (n + i)) (drop_of_length-le bs h))

pub ruleset bodies = (body_found, body_passed, bodies_done)

-- The contracts.

-- where a list of bodies has no fault, the first is that of what follows it
record NoneIn (a : Option FaultAt) (rest : Option (ℕ × FaultAt)) : Type 0 where
  first : a ≡ None
  others : rest ≡ None

none_in : (n : ℕ) (a : Option FaultAt) (rest : Option (ℕ × FaultAt)) → found_in n a rest ≡ None → NoneIn a rest
none_in n None rest e = record { first = refl; others = e }
none_in n (Some fault) rest e = absurd cc

past : (n : ℕ) (fs gs : List CodeFrame) → first_fault_of n fs ≡ None → first_fault_of n (fs ++ gs) ≡ first_fault_of (n + length fs) gs
past n [] gs e = let k : n ≡ n + 0 = omega arith in ap (λ z. first_fault_of z gs) k
past n (f ∷ fs) gs e =
    let no = none_in n (checked_fault f) (first_fault_of (n + 1) fs) e in
    let k : n + 1 + length fs ≡ n + suc (length fs) = omega arith in
    ap (λ z. found_in n z (first_fault_of (n + 1) (fs ++ gs))) no.first ∙ past (n + 1) fs gs no.others ∙ ap (λ z. first_fault_of z gs) k

found_first : (n : ℕ) (a : Option FaultAt) (rest more : Option (ℕ × FaultAt)) (r : ℕ × FaultAt) → (rest ≡ Some r → more ≡ Some r) → found_in n a rest ≡ Some r → found_in n a more ≡ Some r
found_first n None rest more r f e = f e
found_first n (Some fault) rest more r f e = e

within : (n : ℕ) (fs gs : List CodeFrame) (r : ℕ × FaultAt) → first_fault_of n fs ≡ Some r → first_fault_of n (fs ++ gs) ≡ Some r
within n [] gs r e = absurd cc
within n (f ∷ fs) gs r e = found_first n (checked_fault f) (first_fault_of (n + 1) fs) (first_fault_of (n + 1) (fs ++ gs)) r (within (n + 1) fs gs r) e

length_map : {A B : Type 0} (f : A → B) (xs : List A) → length (map f xs) ≡ length xs
length_map f [] = refl
length_map f (x ∷ xs) = ap suc (length_map f xs)

-- the bodies of the contracts from a place on
abbrev pub left_in : Image → ℕ → ℕ → List ContractCode → Option (ℕ × FaultAt)
left_in m n i cs = first_fault_of n (frames_from m i (drop i cs))

abbrev numbered : ℕ → ContractId
numbered i = record { 0 = i }

from_contract : (m : Image) (n : ℕ) (cs : List ContractCode) (i : ℕ) (c : ContractCode) → i < length cs → c ≡ get_or cs i c
    → left_in m n i cs ≡ first_fault_of n (frames_in m (numbered i) c ++ frames_from m (i + 1) (drop (i + 1) cs))
from_contract m n cs i c h is = ap (λ z. first_fault_of n (frames_from m i z)) (drop-cons cs i c h)
    ∙ ap (λ z. first_fault_of n (frames_in m (numbered i) z ++ frames_from m (i + 1) (drop (suc i) cs))) (sym is)
    ∙ ap (λ k. first_fault_of n (frames_in m (numbered i) c ++ frames_from m (i + 1) (drop k cs))) (sym (add-one i))

pub contract_found : (m : Image) (all : Option (ℕ × FaultAt)) (n number : ℕ) (cs : List ContractCode) (i : ℕ) (c : ContractCode) (r : ℕ × FaultAt) → i < length cs → c ≡ get_or cs i c
    → all ≡ left_in m n i cs → number ≡ i → Some r ≡ first_fault_of n (frames_in m (numbered number) c) → Some r ≡ all
contract_found m all n number cs i c r h is e k s =
    sym (e ∙ from_contract m n cs i c h is
    ∙ within n (frames_in m (numbered i) c) (frames_from m (i + 1) (drop (i + 1) cs)) r (ap (λ z. first_fault_of n (frames_in m (numbered z) c)) (sym k) ∙ sym s))

pub contract_passed : (m : Image) (all : Option (ℕ × FaultAt)) (n number next : ℕ) (cs : List ContractCode) (i : ℕ) (c : ContractCode) → i < length cs → c ≡ get_or cs i c
    → all ≡ left_in m n i cs → number ≡ i → None ≡ first_fault_of n (frames_in m (numbered number) c) → next ≡ n + length c.bodies → all ≡ left_in m next (i + 1) cs
contract_passed m all n number next cs i c h is e k s t =
    e ∙ from_contract m n cs i c h is
    ∙ past n (frames_in m (numbered i) c) (frames_from m (i + 1) (drop (i + 1) cs)) (ap (λ z. first_fault_of n (frames_in m (numbered z) c)) (sym k) ∙ sym s)
    ∙ ap (λ z. first_fault_of z (frames_from m (i + 1) (drop (i + 1) cs))) (ap (λ z. n + z) (length_map _ c.bodies) ∙ sym t)

pub contracts_done : (m : Image) (all : Option (ℕ × FaultAt)) (n : ℕ) (cs : List ContractCode) (i : ℕ) → length cs ≤ i → all ≡ left_in m n i cs → None ≡ all
contracts_done m all n cs i h e = sym (e ∙ ap (λ z. first_fault_of n (frames_from m i z)) (drop_of_length-le cs h))

pub ruleset contracts = (contract_found, contract_passed, contracts_done)

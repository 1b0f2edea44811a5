-- How areas begin, and which of them is current.
use Rattle.std.proofs.Common.{◌≡◌, inr, Bool, true, false, ℕ, ℤ, ◌+◌, ◌≤◌, ◌<◌, min, List, [], ◌∷◌, length, get_or, take, drop, length-take, refl, sym, ◌∙◌, ap, subst, arith}
use Rattle.std.proofs.Common.{not, w64, FitsSigned, to_z, of_z}
use Rattle.std.specs.Int.Signed.{lt_z, lt_z_yes, lt_z_no}
use Rattle.std.proofs.lemmas.Float.{T_from_true}
use Rattle.std.proofs.lemmas.List.{take_min, take-take}
use Rattle.std.proofs.Math.Facts.{to_z-of_z}
use Rattle.ob_journal_spec.specs.Areas.{IsOpen, IsNoStore}
use Rattle.ob_journal_spec.specs.Disks.{first, second, area_at}
use Rattle.ob_journal_spec.specs.Heads.{BeginsHeader}
use Rattle.ob_journal_spec.proofs.Heads.{header_here, no_header}
use Rattle.ob_journal_spec.proofs.Unique.{blank_or_open}
use Rattle.ob_journal.specs.Moments.{LooksClosed}
use Rattle.ob_journal.specs.Heads.{IsHead, IsFrontOf, IsMarked, IsCurrent, Begins}
use Rattle.ob_journal.specs.declared.heads.Head.{Head}
use Rattle.ob_journal.specs.declared.heads.Head.TheVariants.{Marked}

-- ---- one area

-- the first bytes of an area
pub front_of : (bytes rest : List ℕ) (count size : ℕ) → count ≡ length (take size rest) → bytes ≡ take (min count 17) rest → IsFrontOf bytes count (take size rest)
front_of bytes rest count size count_is is =
    let area = take size rest in
    let within : min count 17 ≤ size = omega (arith, count_is, length-take size rest) in
    let turned : min count 17 ≡ min 17 (length area) = omega (arith, count_is) in
    record { front = is ∙ sym (take-take (min count 17) size rest within) ∙ ap (λ (n : ℕ). take n area) turned ∙ take_min 17 area; count_is = count_is }

-- a read of as many bytes as the area has gives the area
pub whole_of : (bytes rest : List ℕ) (count size : ℕ) → count ≡ length (take size rest) → bytes ≡ take count rest → bytes ≡ take size rest
whole_of bytes rest count size count_is is =
    let same : count ≡ min size (length rest) = omega (arith, count_is, length-take size rest) in is ∙ ap (λ (n : ℕ). take n rest) same ∙ take_min size rest

module _ (bytes : List ℕ) (count : ℕ) (area : List ℕ) (is : IsFrontOf bytes count area) where
  first_same : get_or bytes 0 0 ≡ get_or area 0 0
  first_same = ap (λ (l : List ℕ). get_or l 0 0) is.front ∙ first_of area where
    first_of : (l : List ℕ) → get_or (take 17 l) 0 0 ≡ get_or l 0 0
    first_of [] = refl
    first_of (b ∷ l) = refl

  module _ (is_open : ¬ (get_or bytes 0 0 ≡ 0)) where
    open_there : 1 < count → IsOpen area
    open_there many = opens area (omega (arith, many, is.count_is)) (λ closed. is_open (first_same ∙ closed)) where
      opens : (l : List ℕ) → 1 < length l → ¬ (get_or l 0 0 ≡ 0) → IsOpen l
      opens [] more some = absurd (omega (arith, more))
      opens (b ∷ l) more some = record { gate = b; rest = l; is_open = omega (arith, some); some = omega (arith, more); is = refl }

    pub front_unmarked : 1 < count → ¬ (IsHead bytes) → IsNoStore area
    front_unmarked many none = record {
      open_area = open_there many;
      no_header = no_header area (λ s n begins. none (s, n, subst (BeginsHeader s n) (sym is.front) begins));
    }

    pub front_marked : (serial : ℤ) (image : ℕ) → BeginsHeader serial image bytes → image + 17 < count → IsMarked serial area
    front_marked serial image begins within = record {
      is_open = open_there (omega (arith, within));
      image = take image (drop 17 area);
      has = header_here area serial image (subst (BeginsHeader serial image) is.front begins) (omega (arith, within, is.count_is));
    }

-- ---- both areas

-- an open area begins with no closed gate
pub open_looks : (area : List ℕ) → IsOpen area → LooksClosed false area
open_looks area is_open = λ rest is. blank_or_open area (inr (rest, is)) is_open

-- two serials as they are compared
less_read : (a b : ℤ) (t : Bool) → FitsSigned w64 a → FitsSigned w64 b → lt_z (to_z w64 (of_z w64 a)) (to_z w64 (of_z w64 b)) ≡ t → lt_z a b ≡ t
less_read a b t f g is = sym (ap (λ (x : ℤ). lt_z x (to_z w64 (of_z w64 b))) (to_z-of_z f) ∙ ap (λ (x : ℤ). lt_z a x) (to_z-of_z g)) ∙ is

module _ (size : ℕ) (c : List ℕ) where
  -- of two open ones
  pub second_greater : (serial other : ℤ) → IsMarked serial (area_at size first c) → IsMarked other (area_at size second c) → lt_z (to_z w64 (of_z w64 serial)) (to_z w64 (of_z w64 other)) ≡ true → IsCurrent size second false c
  second_greater serial other one two less = record {
    serial = other;
    marked = two;
    older = inr (serial, one.image, lt_z_yes (T_from_true (lt_z serial other) (less_read serial other true one.has.fits.1.0 two.has.fits.1.0 less)), one.has);
    other = open_looks (area_at size first c) one.is_open;
  }

  pub first_not_less : (serial other : ℤ) → IsMarked serial (area_at size first c) → IsMarked other (area_at size second c) → lt_z (to_z w64 (of_z w64 serial)) (to_z w64 (of_z w64 other)) ≡ false → IsCurrent size first false c
  first_not_less serial other one two less = record {
    serial = serial;
    marked = one;
    older = inr (other, two.image, lt_z_no (T_from_true (not (lt_z serial other)) (ap not (less_read serial other false one.has.fits.1.0 two.has.fits.1.0 less))), two.has);
    other = open_looks (area_at size second c) two.is_open;
  }

-- how an area begins, where that is known to be with a header
pub begins_marked : (head : Head) (serial : ℤ) (area : List ℕ) → head ≡ Marked serial → Begins head area → IsMarked serial area
begins_marked head serial area is begins = subst (λ (h : Head). Begins h area) is begins

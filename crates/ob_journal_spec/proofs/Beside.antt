-- What a write in one of the two areas of a disk makes of that area, and of the other one.
use Rattle.std.proofs.Common.{◌≡◌, ◌⊎◌, inl, inr, ℕ, ◌+◌, ◌-◌, ◌<◌, ◌≤◌, max, List, [], ◌++◌, length, take, drop, refl, sym, ◌∙◌, ap, subst, arith, length-take, length-drop}
use Rattle.std.proofs.Math.ListN.{replicate}
use Rattle.std.proofs.lemmas.Bool.{cases_lt}
use Rattle.std.proofs.lemmas.List.{append-nil, take_all, take-take, drop-take, drop_all, drop-drop, drop_at, drop-append-le, take-append-le, drop-replicate, length-replicate}
use Rattle.ob_disk_spec.specs.Disk.{Torn, overwritten}
use Rattle.ob_disk_spec.proofs.TornLemmas.{torn_overwritten, behind_kept}
use Rattle.ob_journal_spec.specs.Disks.{Place, first, second, other_place, start_of, area_at}
use Rattle.ob_journal_spec.proofs.Cut.{cut_past, torn_area, overwritten_area}

-- the bytes are there still, and others may have come behind them
abbrev pub Grows : List ℕ → List ℕ → Type 0
Grows old new = (more : List ℕ) × (new ≡ old ++ more)

-- ---- what is behind an offset, of a write from there on

of_nothing : (at n : ℕ) (new : List ℕ) → length new ≤ at + n → Torn at n [] new
of_nothing at n new within = record {
  middle = new;
  is = sym (ap (λ (l : List ℕ). l ++ (new ++ drop (at + n) [])) (take_all {A = ℕ} at [] (omega arith)) ∙ ap (λ (l : List ℕ). new ++ l) (drop_all {X = ℕ} (at + n) [] (omega arith)) ∙ append-nil new);
  no_shorter = omega arith;
  no_longer = omega (arith, within);
}

torn_drop : (s at n : ℕ) (d c : List ℕ) → Torn (s + at) n d c → Torn at n (drop s d) (drop s c)
torn_drop s at n d c torn = either (cases_lt (length d) s) where
  short : length (drop s d) ≤ length (drop s c)
  short = omega (arith, length-drop s d, length-drop s c, torn.no_shorter)

  long : length (drop s c) ≤ max (length (drop s d)) (at + n)
  long = omega (arith, length-drop s d, length-drop s c, torn.no_longer)

  either : (length d < s) ⊎ (s ≤ length d) → Torn at n (drop s d) (drop s c)
  either (inl before) =
      let none : drop s d ≡ [] = drop_all s d (omega (arith, before)) in
      subst (λ (l : List ℕ). Torn at n l (drop s c)) (sym none) (of_nothing at n (drop s c) (omega (arith, before, length-drop s c, torn.no_longer)))
  either (inr inside) =
      let rest : drop (s + at + n) d ≡ drop (at + n) (drop s d) = let sums : s + at + n ≡ s + (at + n) = omega arith in ap (λ (k : ℕ). drop k d) sums ∙ sym (drop-drop (at + n) s d) in
      record {
        middle = torn.middle;
        is = ap (drop s) torn.is ∙ drop-append-le s (take (s + at) d) (torn.middle ++ drop (s + at + n) d) (omega (arith, length-take (s + at) d, inside))
            ∙ ap (λ (l : List ℕ). l ++ (torn.middle ++ drop (s + at + n) d)) (drop-take s at d) ∙ ap (λ (l : List ℕ). take at (drop s d) ++ (torn.middle ++ l)) rest;
        no_shorter = short;
        no_longer = long;
      }

overwritten_drop : (s at : ℕ) (bytes d : List ℕ) → drop s (overwritten (s + at) bytes d) ≡ overwritten at bytes (drop s d)
overwritten_drop s at bytes d = either (cases_lt (length d) s) where
  n : ℕ
  n = length bytes

  fill : List ℕ
  fill = replicate (s + at - length d) 0

  rest : List ℕ
  rest = bytes ++ drop (s + at + n) d

  either : (length d < s) ⊎ (s ≤ length d) → drop s (overwritten (s + at) bytes d) ≡ overwritten at bytes (drop s d)
  either (inl before) =
      let k : ℕ = s - length d in
      let from : s ≡ length d + k = omega (arith, before) in
      let past : drop s (d ++ (fill ++ rest)) ≡ drop k (fill ++ rest) = ap (λ (m : ℕ). drop m (d ++ (fill ++ rest))) from ∙ sym (drop-drop k (length d) (d ++ (fill ++ rest))) ∙ ap (drop k) (drop_at d (fill ++ rest) (length d) refl) in
      let zeros : drop k fill ≡ replicate at 0 = let left : s + at - length d - k ≡ at = omega (arith, before) in drop-replicate k (s + at - length d) 0 ∙ ap (λ (m : ℕ). replicate m 0) left in
      let none : drop s d ≡ [] = drop_all s d (omega (arith, before)) in
      let no_front : take at [] ≡ [] = take_all {A = ℕ} at [] (omega arith) in
      let gap : at - 0 ≡ at = omega arith in
      let empty : overwritten at bytes [] ≡ replicate at 0 ++ (bytes ++ []) =
      ap (λ (l : List ℕ). l ++ (replicate (at - 0) 0 ++ (bytes ++ drop (at + n) []))) no_front ∙ ap (λ (m : ℕ). replicate m 0 ++ (bytes ++ drop (at + n) [])) gap
      ∙ ap (λ (l : List ℕ). replicate at 0 ++ (bytes ++ l)) (drop_all {X = ℕ} (at + n) [] (omega arith)) in
      ap (λ (l : List ℕ). drop s (l ++ (fill ++ rest))) (take_all (s + at) d (omega (arith, before))) ∙ past
      ∙ drop-append-le k fill rest (omega (arith, before, length-replicate {A = ℕ} (s + at - length d) 0)) ∙ ap (λ (l : List ℕ). l ++ rest) zeros
      ∙ ap (λ (l : List ℕ). replicate at 0 ++ (bytes ++ l)) (drop_all (s + at + n) d (omega (arith, before))) ∙ sym (ap (overwritten at bytes) none ∙ empty)
  either (inr inside) =
      let gap : s + at - length d ≡ at - length (drop s d) = omega (arith, length-drop s d, inside) in
      let behind : drop (s + at + n) d ≡ drop (at + n) (drop s d) = let sums : s + at + n ≡ s + (at + n) = omega arith in ap (λ (k : ℕ). drop k d) sums ∙ sym (drop-drop (at + n) s d) in
      drop-append-le s (take (s + at) d) (fill ++ rest) (omega (arith, length-take (s + at) d, inside)) ∙ ap (λ (l : List ℕ). l ++ (fill ++ rest)) (drop-take s at d)
      ∙ ap (λ (m : ℕ). take at (drop s d) ++ (replicate m 0 ++ rest)) gap ∙ ap (λ (l : List ℕ). take at (drop s d) ++ (replicate (at - length (drop s d)) 0 ++ (bytes ++ l))) behind

-- ---- what is behind an offset, of a write before it

behind_same : (size at n : ℕ) (d c : List ℕ) → at + n ≤ size → Torn at n d c → drop size c ≡ drop size d
behind_same size at n d c within torn = either (cases_lt (at + n) (length d)) where
  from : (l : List ℕ) → drop size l ≡ drop (size - (at + n)) (drop (at + n) l)
  from l = let sums : at + n + (size - (at + n)) ≡ size = omega (arith, within) in ap (λ (k : ℕ). drop k l) (sym sums) ∙ sym (drop-drop (size - (at + n)) (at + n) l)

  either : (at + n < length d) ⊎ (length d ≤ at + n) → drop size c ≡ drop size d
  either (inl inside) = from c ∙ ap (drop (size - (at + n))) (behind_kept at n d c inside torn).1 ∙ sym (from d)
  either (inr past) = drop_all size c (omega (arith, past, within, torn.no_longer)) ∙ sym (drop_all size d (omega (arith, past, within)))

pub from_start : (at n : ℕ) (d c : List ℕ) → Torn (0 + at) n d c → Torn at n d c
from_start at n d c torn = let same : 0 + at ≡ at = omega arith in subst (λ (k : ℕ). Torn k n d c) same torn

-- ---- what is before an offset, of a write from there on

front_same : (size at n : ℕ) (d c : List ℕ) → size ≤ length d → Torn (size + at) n d c → take size c ≡ take size d
front_same size at n d c full torn =
    ap (take size) torn.is ∙ take-append-le size (take (size + at) d) (torn.middle ++ drop (size + at + n) d) (omega (arith, length-take (size + at) d, full)) ∙ take-take size (size + at) d (omega arith)

front_grows : (size at n : ℕ) (d c : List ℕ) → Torn (size + at) n d c → Grows (take size d) (take size c)
front_grows size at n d c torn = either (cases_lt (length d) size) where
  rest : List ℕ
  rest = torn.middle ++ drop (size + at + n) d

  either : (length d < size) ⊎ (size ≤ length d) → Grows (take size d) (take size c)
  either (inl short) = (
    take (size - length d) rest,
    ap (take size) torn.is ∙ ap (λ (l : List ℕ). take size (l ++ rest)) (take_all (size + at) d (omega (arith, short))) ∙ cut_past d rest size (size - length d) (omega (arith, short))
        ∙ ap (λ (l : List ℕ). l ++ take (size - length d) rest) (sym (take_all size d (omega (arith, short)))),
  )
  either (inr full) = ([], front_same size at n d c full torn ∙ sym (append-nil (take size d)))

-- ---- a write in an area

-- what was written is torn, too
pub torn_written : (p : ℕ) (bytes d c : List ℕ) → c ≡ overwritten p bytes d → Torn p (length bytes) d c
torn_written p bytes d c is = subst (λ (l : List ℕ). Torn p (length bytes) d l) (sym is) (torn_overwritten p bytes d)

-- it is one on the area's bytes
pub torn_at : (size : ℕ) (place : Place) (at n : ℕ) (d c : List ℕ) → at + n ≤ size → Torn (start_of size place + at) n d c → Torn at n (area_at size place d) (area_at size place c)
torn_at size first at n d c within torn = torn_area size at n d c within (from_start at n d c torn)
torn_at size second at n d c within torn = torn_area size at n (drop size d) (drop size c) within (torn_drop size at n d c torn)

pub overwritten_at : (size : ℕ) (place : Place) (at : ℕ) (bytes d c : List ℕ) → at + length bytes ≤ size → at ≤ length (area_at size place d) → c ≡ overwritten (start_of size place + at) bytes d → area_at size place c ≡ overwritten at bytes (area_at size place d)
overwritten_at size first at bytes d c within starts is =
    let same : 0 + at ≡ at = omega arith in overwritten_area size at bytes d c within (omega (arith, starts, length-take size d)) (is ∙ ap (λ (k : ℕ). overwritten k bytes d) same)
overwritten_at size second at bytes d c within starts is =
    overwritten_area size at bytes (drop size d) (drop size c) within (omega (arith, starts, length-take size (drop size d))) (ap (drop size) is ∙ overwritten_drop size at bytes d)

-- ---- the other area

-- behind a write in the first one, the second one is as it was
pub second_same : (size at n : ℕ) (d c : List ℕ) → at + n ≤ size → Torn at n d c → area_at size second c ≡ area_at size second d
second_same size at n d c within torn = ap (take size) (behind_same size at n d c within torn)

-- What was there stays. Where the disk ended in it, more bytes may have come.
pub other_grows : (size : ℕ) (place : Place) (at n : ℕ) (d c : List ℕ) → at + n ≤ size → Torn (start_of size place + at) n d c → Grows (area_at size (other_place place) d) (area_at size (other_place place) c)
other_grows size first at n d c within torn = ([], second_same size at n d c within (from_start at n d c torn) ∙ sym (append-nil (take size (drop size d))))
other_grows size second at n d c within torn = front_grows size at n d c torn

-- Where the area that is written has a byte, the disk didn't end in the other one.
pub other_same : (size : ℕ) (place : Place) (at n : ℕ) (d c : List ℕ) → at + n ≤ size → 0 < length (area_at size place d) → Torn (start_of size place + at) n d c → area_at size (other_place place) c ≡ area_at size (other_place place) d
other_same size first at n d c within some torn = second_same size at n d c within (from_start at n d c torn)
other_same size second at n d c within some torn = front_same size at n d c (omega (arith, some, length-take size (drop size d), length-drop size d)) torn

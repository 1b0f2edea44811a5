-- What writes within an area make of it.
use Rattle.std.proofs.Common.{◌≡◌, ◌⊎◌, inl, inr, ℕ, suc, ◌+◌, ◌-◌, ◌<◌, ◌≤◌, max, List, [], ◌∷◌, ◌++◌, length, take, drop, sym, ◌∙◌, ap, arith, length-append, length-take, length-drop}
use Rattle.std.proofs.Math.ListN.{replicate}
use Rattle.std.proofs.lemmas.Bool.{cases_lt}
use Rattle.std.proofs.lemmas.List.{append-nil, take-take, drop-take, drop_all}
use Rattle.ob_disk_spec.specs.Disk.{Torn, overwritten}

-- a cut behind a part
take_past : (xs ys : List ℕ) (k : ℕ) → take (length xs + k) (xs ++ ys) ≡ xs ++ take k ys
take_past [] ys k = let same : length {A = ℕ} [] + k ≡ k = omega arith in ap (λ (n : ℕ). take n ys) same
take_past (x ∷ xs) ys k =
    let same : length (x ∷ xs) + k ≡ suc (length xs + k) = omega arith in ap (λ (n : ℕ). take n (x ∷ (xs ++ ys))) same ∙ ap (λ (l : List ℕ). x ∷ l) (take_past xs ys k)

-- the same, by how many bytes are kept
pub cut_past : (xs ys : List ℕ) (n k : ℕ) → n ≡ length xs + k → take n (xs ++ ys) ≡ xs ++ take k ys
cut_past xs ys n k is = ap (λ (m : ℕ). take m (xs ++ ys)) is ∙ take_past xs ys k

-- what is left behind a range of a cut
behind_cut : (size end : ℕ) (d : List ℕ) → end ≤ size → drop end (take size d) ≡ take (size - end) (drop end d)
behind_cut size end d within =
    let same : size ≡ end + (size - end) = omega (arith, within) in ap (λ (n : ℕ). drop end (take n d)) same ∙ drop-take end (size - end) d

pub torn_area : (size at n : ℕ) (d c : List ℕ) → at + n ≤ size → Torn at n d c → Torn at n (take size d) (take size c)
torn_area size at n d c within torn = torn_either (cases_lt (at + n) (length d)) where
  p : List ℕ
  p = take at d

  m : List ℕ
  m = torn.middle

  rest : List ℕ
  rest = drop (at + n) d

  front : take at (take size d) ≡ p
  front = take-take at size d (omega (arith, within))

  short : length (take size d) ≤ length (take size c)
  short = omega (arith, length-take size d, length-take size c, torn.no_shorter)

  long : length (take size c) ≤ max (length (take size d)) (at + n)
  long = omega (arith, length-take size d, length-take size c, torn.no_longer, within)

  torn_either : (at + n < length d) ⊎ (length d ≤ at + n) → Torn at n (take size d) (take size c)
  torn_either (inl inside) =
      let starts : length p ≡ at = omega (arith, length-take at d, inside) in
      let filled : length m ≡ n = omega (
        arith,
        starts,
        inside,
        ap length torn.is,
        torn.no_shorter,
        torn.no_longer,
        length-append p (m ++ rest),
        length-append m rest,
        length-drop (at + n) d,
      ) in
      record {
        middle = m;
        is = ap (take size) torn.is ∙ cut_past p (m ++ rest) size (size - at) (omega (arith, starts, within)) ∙ ap (λ (l : List ℕ). p ++ l) (cut_past m rest (size - at) (size - (at + n)) (omega (arith, filled, within)))
            ∙ ap (λ (l : List ℕ). p ++ (m ++ l)) (sym (behind_cut size (at + n) d within)) ∙ ap (λ (l : List ℕ). l ++ (m ++ drop (at + n) (take size d))) (sym front);
        no_shorter = short;
        no_longer = long;
      }
  torn_either (inr past) =
      let left = take (size - length p) (m ++ rest) in
      let none : drop (at + n) (take size d) ≡ [] = drop_all (at + n) (take size d) (omega (arith, length-take size d, past)) in
      record {
        middle = left;
        is = ap (take size) torn.is ∙ cut_past p (m ++ rest) size (size - length p) (omega (arith, length-take at d, within)) ∙ ap (λ (l : List ℕ). p ++ l) (sym (append-nil left))
            ∙ ap (λ (l : List ℕ). p ++ (left ++ l)) (sym none) ∙ ap (λ (l : List ℕ). l ++ (left ++ drop (at + n) (take size d))) (sym front);
        no_shorter = short;
        no_longer = long;
      }

-- a write that begins within the bytes
plain : (at : ℕ) (bytes d : List ℕ) → at ≤ length d → overwritten at bytes d ≡ take at d ++ (bytes ++ drop (at + length bytes) d)
plain at bytes d starts =
    let none : at - length d ≡ 0 = omega (arith, starts) in ap (λ (n : ℕ). take at d ++ (replicate n 0 ++ (bytes ++ drop (at + length bytes) d))) none

pub overwritten_area : (size at : ℕ) (bytes d c : List ℕ) → at + length bytes ≤ size → at ≤ length d → c ≡ overwritten at bytes d → take size c ≡ overwritten at bytes (take size d)
overwritten_area size at bytes d c within starts is =
    let end = at + length bytes in
    let rest = drop end d in
    ap (take size) (is ∙ plain at bytes d starts)
    ∙ cut_past (take at d) (bytes ++ rest) size (size - at) (omega (arith, length-take at d, starts, within)) ∙ ap (λ (l : List ℕ). take at d ++ l) (cut_past bytes rest (size - at) (size - end) (omega (arith, within)))
    ∙ ap (λ (l : List ℕ). take at d ++ (bytes ++ l)) (sym (behind_cut size end d within)) ∙ ap (λ (l : List ℕ). l ++ (bytes ++ drop end (take size d))) (sym (take-take at size d (omega (arith, within))))
    ∙ sym (plain at bytes (take size d) (omega (arith, length-take size d, starts, within)))

-- What a torn write may leave.
use Rattle.std.proofs.Common.{◌≡◌, ◌⊎◌, inl, inr, ◌<◌, ◌≤◌, ℕ, ◌+◌, ◌-◌, max, List, ◌++◌, length, take, drop, refl, sym, ◌∙◌, ap, arith, length-append, length-take, length-drop, take-append-drop, append_assoc, Some}
use Rattle.std.proofs.Math.ListN.{replicate}
use Rattle.std.proofs.lemmas.List.{length-replicate, drop-drop, drop_all, take-take, take_at, drop_at, append-nil}
use Rattle.std.proofs.lemmas.Bool.{cases_lt}
use Rattle.ob_disk_spec.specs.Disk.{Torn, overwritten}

-- what was there
pub torn_same : (at n : ℕ) (d : List ℕ) → Torn at n d d
torn_same at n d = record {
  middle = take n (drop at d);
  is = sym (ap (λ (l : List ℕ). take at d ++ (take n (drop at d) ++ l)) (sym (drop-drop n at d)) ∙ ap (λ (l : List ℕ). take at d ++ l) (take-append-drop n (drop at d)) ∙ take-append-drop at d);
  no_shorter = omega arith;
  no_longer = omega arith;
}

pub length-overwritten : (at : ℕ) (bytes d : List ℕ) → length (overwritten at bytes d) ≡ max (length d) (at + length bytes)
length-overwritten at bytes d =
    let fill : List ℕ = replicate (at - length d) 0 in
    omega (arith, length-append (take at d) (fill ++ (bytes ++ drop (at + length bytes) d)), length-append fill (bytes ++ drop (at + length bytes) d), length-append bytes (drop (at + length bytes) d), length-take at d, length-drop (at + length bytes) d, length-replicate {A = ℕ} (at - length d) 0)

-- what was written
pub torn_overwritten : (at : ℕ) (bytes d : List ℕ) → Torn at (length bytes) d (overwritten at bytes d)
torn_overwritten at bytes d = record {
  middle = replicate (at - length d) 0 ++ bytes;
  is = ap (λ (l : List ℕ). take at d ++ l) (sym (append_assoc (replicate (at - length d) 0) bytes (drop (at + length bytes) d)));
  no_shorter = omega (arith, length-overwritten at bytes d);
  no_longer = omega (arith, length-overwritten at bytes d);
}

pub unsome : (a b : List ℕ) → Some a ≡ Some b → a ≡ b
unsome a b is = cc

-- the bytes before a range are kept, and more of them may follow
front_kept : (at n : ℕ) (a b : List ℕ) (torn : Torn at n a b) → take at b ≡ take at a ++ drop (length (take at a)) (take at b)
front_kept at n a b torn =
    let p = take at a in
    let within : length p ≤ at = omega (arith, length-take at a) in
    sym (take-append-drop (length p) (take at b))
    ∙ ap (λ (l : List ℕ). l ++ drop (length p) (take at b)) (take-take (length p) at b within ∙ ap (take (length p)) torn.is ∙ take_at p (torn.middle ++ drop (at + n) a) (length p) refl)

-- within the old bytes, those behind the range stay
pub behind_kept : (at n : ℕ) (a b : List ℕ) → at + n < length a → Torn at n a b → (take at b ≡ take at a) × (drop (at + n) b ≡ drop (at + n) a)
behind_kept at n a b inside torn =
    let p = take at a in
    let front : length p ≡ at = omega (arith, length-take at a, inside) in
    let middle : length (p ++ torn.middle) ≡ at + n = omega (
      arith,
      front,
      inside,
      ap length torn.is,
      torn.no_shorter,
      torn.no_longer,
      length-append p (torn.middle ++ drop (at + n) a),
      length-append torn.middle (drop (at + n) a),
      length-append p torn.middle,
      length-drop (at + n) a,
    ) in (
      ap (take at) torn.is ∙ take_at p (torn.middle ++ drop (at + n) a) at front,
      ap (drop (at + n)) (torn.is ∙ sym (append_assoc p torn.middle (drop (at + n) a))) ∙ drop_at (p ++ torn.middle) (drop (at + n) a) (at + n) middle,
    )

-- a torn form of a torn form is one
pub torn_again : (at n : ℕ) (a b c : List ℕ) → Torn at n a b → Torn at n b c → Torn at n a c
torn_again at n a b c s t = torn_either (cases_lt (at + n) (length a)) where
  torn_either : (at + n < length a) ⊎ (length a ≤ at + n) → Torn at n a c
  torn_either (inl inside) =
      let kept = behind_kept at n a b inside s in
      record {
        middle = t.middle;
        is = t.is ∙ ap (λ (l : List ℕ). l ++ (t.middle ++ drop (at + n) b)) kept.0 ∙ ap (λ (l : List ℕ). take at a ++ (t.middle ++ l)) kept.1;
        no_shorter = omega (arith, s.no_shorter, t.no_shorter);
        no_longer = omega (arith, s.no_longer, t.no_longer);
      }
  torn_either (inr past) =
      let q = drop (length (take at a)) (take at b) in
      let rest = t.middle ++ drop (at + n) b in
      record {
        middle = q ++ rest;
        is = t.is ∙ ap (λ (l : List ℕ). l ++ rest) (front_kept at n a b s) ∙ append_assoc (take at a) q rest
            ∙ ap (λ (l : List ℕ). take at a ++ l) (sym (append-nil (q ++ rest)) ∙ ap (λ (l : List ℕ). (q ++ rest) ++ l) (sym (drop_all (at + n) a past)));
        no_shorter = omega (arith, s.no_shorter, t.no_shorter);
        no_longer = omega (arith, s.no_longer, t.no_longer);
      }

-- A write is undone by what it wrote over.
use Rattle.std.proofs.Common.{◌≡◌, ◌⊎◌, inl, inr, ◌<◌, ◌≤◌, ℕ, ◌+◌, ◌-◌, min, List, [], ◌++◌, length, take, drop, refl, sym, ◌∙◌, ap, arith, length-append, length-take, length-drop, take-append-drop, append_assoc}
use Rattle.std.proofs.Math.ListN.{replicate}
use Rattle.std.proofs.lemmas.Bool.{cases_lt}
use Rattle.std.proofs.lemmas.List.{length-replicate, drop-drop, drop_all, take_all, take-take, take_at, drop_at}
use Rattle.ob_disk_spec.specs.Disk.{Torn, overwritten}
use Rattle.ob_disk_spec.proofs.TornLemmas.{length-overwritten}
use Rattle.ob_disk.specs.Notes.{inside, spoiled, before}
use Rattle.ob_disk.specs.declared.memory.Over.{Over}

pub torn_spoiled : (at n : ℕ) (d : List ℕ) → Torn at n d (spoiled at n d)
torn_spoiled at n d =
    let fill : List ℕ = replicate (min n (length d - at)) 255 in
    let lengths : length (spoiled at n d) ≡ length d = omega (
      arith,
      length-append (take at d) (fill ++ drop (at + n) d),
      length-append fill (drop (at + n) d),
      length-take at d,
      length-drop (at + n) d,
      length-replicate {A = ℕ} (min n (length d - at)) 255,
    ) in
    record { middle = fill; is = refl; no_shorter = omega (arith, lengths); no_longer = omega (arith, lengths) }

inside_nil : (at : ℕ) (d : List ℕ) → inside at [] d ≡ d
inside_nil at d =
    ap (λ (l : List ℕ). take at d ++ (l ++ drop (at + 0) d)) (take_all (length d - at) [] (omega arith))
    ∙ ap (λ (k : ℕ). take at d ++ drop k d) (let same : at + 0 ≡ at = omega arith in same) ∙ take-append-drop at d

-- a write past the end
undone_past : (at : ℕ) (bytes d : List ℕ) → length d ≤ at → inside at (take (length bytes) (drop at d)) (take (length d) (overwritten at bytes d)) ≡ d
undone_past at bytes d past =
    let old : take (length bytes) (drop at d) ≡ [] = ap (take (length bytes)) (drop_all at d past) ∙ take_all (length bytes) [] (omega arith) in
    let rest = replicate (at - length d) 0 ++ (bytes ++ drop (at + length bytes) d) in
    let front : overwritten at bytes d ≡ d ++ rest = ap (λ (l : List ℕ). l ++ rest) (take_all at d past) in
    let cut : take (length d) (overwritten at bytes d) ≡ d = ap (take (length d)) front ∙ take_at d rest (length d) refl in
    ap (λ (l : List ℕ). inside at l (take (length d) (overwritten at bytes d))) old ∙ ap (inside at []) cut ∙ inside_nil at d

-- what is left behind the range, once the bytes are cut
behind_range : (at : ℕ) (bytes d x : List ℕ) → at < length d → x ≡ take (length d) (overwritten at bytes d) → (at + length bytes ≤ length d) ⊎ (length d < at + length bytes) → drop (at + length (take (length bytes) (drop at d))) x ≡ drop (length bytes) (drop at d)
behind_range at bytes d x starts is (inl ends) =
    let n = length bytes in
    let old : length (take n (drop at d)) ≡ n = omega (arith, length-take n (drop at d), length-drop at d, starts, ends) in
    let whole : x ≡ overwritten at bytes d = is ∙ take_all (length d) (overwritten at bytes d) (omega (arith, length-overwritten at bytes d, ends)) in
    let none : at - length d ≡ 0 = omega (arith, starts) in
    let plain : overwritten at bytes d ≡ (take at d ++ bytes) ++ drop (at + n) d = ap (λ (k : ℕ). take at d ++ (replicate k 0 ++ (bytes ++ drop (at + n) d))) none ∙ sym (append_assoc (take at d) bytes (drop (at + n) d)) in
    ap (λ (k : ℕ). drop (at + k) x) old ∙ ap (drop (at + n)) (whole ∙ plain)
    ∙ drop_at (take at d ++ bytes) (drop (at + n) d) (at + n) (omega (arith, length-append (take at d) bytes, length-take at d, starts)) ∙ sym (drop-drop n at d)
behind_range at bytes d x starts is (inr passes) =
    let n = length bytes in
    let short : length x ≤ length d = omega (arith, ap length is, length-take (length d) (overwritten at bytes d)) in
    drop_all (at + length (take n (drop at d))) x (omega (arith, length-take n (drop at d), length-drop at d, starts, passes, short))
    ∙ sym (drop_all n (drop at d) (omega (arith, length-drop at d, passes)))

undone_within : (at : ℕ) (bytes d : List ℕ) → at < length d → inside at (take (length bytes) (drop at d)) (take (length d) (overwritten at bytes d)) ≡ d
undone_within at bytes d starts =
    let n = length bytes in
    let old = take n (drop at d) in
    let x = take (length d) (overwritten at bytes d) in
    let rest = replicate (at - length d) 0 ++ (bytes ++ drop (at + n) d) in
    let front : take at x ≡ take at d = take-take at (length d) (overwritten at bytes d) (omega (arith, starts)) ∙ take_at (take at d) rest at (omega (arith, length-take at d, starts)) in
    let size : length x ≡ length d = omega (arith, length-take (length d) (overwritten at bytes d), length-overwritten at bytes d) in
    let middle : take (length x - at) old ≡ old = take_all (length x - at) old (omega (arith, size, length-take n (drop at d), length-drop at d)) in
    let behind = behind_range at bytes d x starts refl (⊎-swap (cases_lt (length d) (at + n))) in
    ap (λ (l : List ℕ). l ++ (take (length x - at) old ++ drop (at + length old) x)) front
    ∙ ap (λ (l : List ℕ). take at d ++ (l ++ drop (at + length old) x)) middle
    ∙ ap (λ (l : List ℕ). take at d ++ (old ++ l)) behind
    ∙ ap (λ (l : List ℕ). take at d ++ l) (take-append-drop n (drop at d)) ∙ take-append-drop at d
  where
    ⊎-swap : {A B : Type 0} → A ⊎ B → B ⊎ A
    ⊎-swap (inl a) = inr a
    ⊎-swap (inr b) = inl b

undone_either : (at : ℕ) (bytes d : List ℕ) → (at < length d) ⊎ (length d ≤ at) → inside at (take (length bytes) (drop at d)) (take (length d) (overwritten at bytes d)) ≡ d
undone_either at bytes d (inl starts) = undone_within at bytes d starts
undone_either at bytes d (inr past) = undone_past at bytes d past

-- what a write wrote over gives back the bytes before it
pub written_before : (over : Over) (at : ℕ) (bytes d : List ℕ) → over.at ≡ at → over.bytes.items ≡ take (length bytes) (drop at d) → over.len ≡ length d → before over (overwritten at bytes d) ≡ d
written_before over at bytes d start old len =
    ap (λ (k : ℕ). inside k over.bytes.items (take over.len (overwritten at bytes d))) start
    ∙ ap (λ (l : List ℕ). inside at l (take over.len (overwritten at bytes d))) old
    ∙ ap (λ (k : ℕ). inside at (take (length bytes) (drop at d)) (take k (overwritten at bytes d))) len
    ∙ undone_either at bytes d (cases_lt at (length d))

-- The format of numbers within a range is lawful.
use Rattle.std.proofs.Common.{ℕ, zero, suc, ◌≡◌, ◌+◌, ◌-◌, ◌*◌, ◌/◌, ◌%◌, ◌^◌, ◌<◌, ◌≤◌, ◌==◌, ◌&&◌, cond, nat_le, true, List, [], ◌∷◌, length, refl, sym, ap, arith}
use Rattle.std.proofs.lemmas.Bool.{and_parts, leb-true, le-leb}
use Rattle.std.proofs.lemmas.Bool.Decides.{nat_tests}
use Rattle.std.proofs.lemmas.Nat.{from_be_bytes-to_be_bytes_4, be_bytes_4}
use Rattle.std.specs.Int.{w32, to_be_bytes, from_be_bytes}
use Rattle.ob_format_spec.specs.declared.range.Range.{Range}
use Rattle.ob_format_spec.specs.Combinators.{each, each_fit, each_spelled}
use Rattle.ob_format_spec.specs.Ranges.{range_byte, next_range, number_in}
use Rattle.ob_format_spec.specs.Lawful.{AreBytes, Lawful}
use Rattle.ob_format_spec.proofs.CombinatorLaws.{byte_lawful, each_lawful, same_lawful}
use Rattle.ob_format_spec.proofs.NumberLaws.{small_byte}

both_in : (a b c : ℕ) → a ≤ b → b ≤ c → (nat_le a b && nat_le b c) ≡ true
both_in a b c p q = rw (le-leb a b p, le-leb b c q) refl

both_out : (a b c : ℕ) → (nat_le a b && nat_le b c) ≡ true → (a ≤ b) × (b ≤ c)
both_out a b c e = let p = and_parts (nat_le a b) (nat_le b c) e in (leb-true a b p.0, leb-true b c p.1)

-- a byte that represents 1 each
to_0 : (low high b v : ℕ) → v < 1 → low ≤ b * 1 + v → b * 1 + v ≤ high → (low / 1 ≤ b) × (b ≤ high / 1) × (cond (b == low / 1) (low % 1) 0 ≤ v) × (v ≤ cond (b == high / 1) (high % 1) (1 - 1))
to_0 low high b v small p q = (omega (arith, p, small), omega (arith, q), grind (arith, nat_tests), grind (arith, nat_tests))

from_0 : (low high b v : ℕ) → v < 1 → (low / 1 ≤ b) × (b ≤ high / 1) → cond (b == low / 1) (low % 1) 0 ≤ v → v ≤ cond (b == high / 1) (high % 1) (1 - 1) → (low ≤ b * 1 + v) × (b * 1 + v ≤ high)
from_0 low high b v small p q r = (grind (arith, nat_tests), grind (arith, nat_tests))

fine_0 : (low high b : ℕ) → low ≤ high → high < 256 → (low / 1 ≤ b) × (b ≤ high / 1) → (cond (b == low / 1) (low % 1) 0 ≤ cond (b == high / 1) (high % 1) (1 - 1)) × (cond (b == high / 1) (high % 1) (1 - 1) < 1) × (b < 256)
fine_0 low high b p q r = (grind (arith, nat_tests), grind (arith, nat_tests), omega (arith, q, r))

-- a byte that represents 256 each
to_1 : (low high b v : ℕ) → v < 256 → low ≤ b * 256 + v → b * 256 + v ≤ high → (low / 256 ≤ b) × (b ≤ high / 256) × (cond (b == low / 256) (low % 256) 0 ≤ v) × (v ≤ cond (b == high / 256) (high % 256) (256 - 1))
to_1 low high b v small p q = (omega (arith, p, small), omega (arith, q), grind (arith, nat_tests), grind (arith, nat_tests))

from_1 : (low high b v : ℕ) → v < 256 → (low / 256 ≤ b) × (b ≤ high / 256) → cond (b == low / 256) (low % 256) 0 ≤ v → v ≤ cond (b == high / 256) (high % 256) (256 - 1) → (low ≤ b * 256 + v) × (b * 256 + v ≤ high)
from_1 low high b v small p q r = (grind (arith, nat_tests), grind (arith, nat_tests))

fine_1 : (low high b : ℕ) → low ≤ high → high < 65536 → (low / 256 ≤ b) × (b ≤ high / 256) → (cond (b == low / 256) (low % 256) 0 ≤ cond (b == high / 256) (high % 256) (256 - 1)) × (cond (b == high / 256) (high % 256) (256 - 1) < 256) × (b < 256)
fine_1 low high b p q r = (grind (arith, nat_tests), grind (arith, nat_tests), omega (arith, q, r))

-- a byte that represents 65536 each
to_2 : (low high b v : ℕ) → v < 65536 → low ≤ b * 65536 + v → b * 65536 + v ≤ high → (low / 65536 ≤ b) × (b ≤ high / 65536) × (cond (b == low / 65536) (low % 65536) 0 ≤ v) × (v ≤ cond (b == high / 65536) (high % 65536) (65536 - 1))
to_2 low high b v small p q = (omega (arith, p, small), omega (arith, q), grind (arith, nat_tests), grind (arith, nat_tests))

from_2 : (low high b v : ℕ) → v < 65536 → (low / 65536 ≤ b) × (b ≤ high / 65536) → cond (b == low / 65536) (low % 65536) 0 ≤ v → v ≤ cond (b == high / 65536) (high % 65536) (65536 - 1) → (low ≤ b * 65536 + v) × (b * 65536 + v ≤ high)
from_2 low high b v small p q r = (grind (arith, nat_tests), grind (arith, nat_tests))

fine_2 : (low high b : ℕ) → low ≤ high → high < 16777216 → (low / 65536 ≤ b) × (b ≤ high / 65536) → (cond (b == low / 65536) (low % 65536) 0 ≤ cond (b == high / 65536) (high % 65536) (65536 - 1)) × (cond (b == high / 65536) (high % 65536) (65536 - 1) < 65536) × (b < 256)
fine_2 low high b p q r = (grind (arith, nat_tests), grind (arith, nat_tests), omega (arith, q, r))

-- a byte that represents 16777216 each
to_3 : (low high b v : ℕ) → v < 16777216 → low ≤ b * 16777216 + v → b * 16777216 + v ≤ high → (low / 16777216 ≤ b) × (b ≤ high / 16777216) × (cond (b == low / 16777216) (low % 16777216) 0 ≤ v) × (v ≤ cond (b == high / 16777216) (high % 16777216) (16777216 - 1))
to_3 low high b v small p q = (omega (arith, p, small), omega (arith, q), grind (arith, nat_tests), grind (arith, nat_tests))

from_3 : (low high b v : ℕ) → v < 16777216 → (low / 16777216 ≤ b) × (b ≤ high / 16777216) → cond (b == low / 16777216) (low % 16777216) 0 ≤ v → v ≤ cond (b == high / 16777216) (high % 16777216) (16777216 - 1) → (low ≤ b * 16777216 + v) × (b * 16777216 + v ≤ high)
from_3 low high b v small p q r = (grind (arith, nat_tests), grind (arith, nat_tests))

fine_3 : (low high b : ℕ) → low ≤ high → high < 4294967296 → (low / 16777216 ≤ b) × (b ≤ high / 16777216) → (cond (b == low / 16777216) (low % 16777216) 0 ≤ cond (b == high / 16777216) (high % 16777216) (16777216 - 1)) × (cond (b == high / 16777216) (high % 16777216) (16777216 - 1) < 16777216) × (b < 256)
fine_3 low high b p q r = (grind (arith, nat_tests), grind (arith, nat_tests), omega (arith, q, r))

record Fine (n : ℕ) (r : Range) : Type 0 where
  pub order : r.low ≤ r.high
  pub small : r.high < 256 ^ n
  pub few : n ≤ 4

least_passes : (low high u : ℕ) → low / u ≤ high / u → (b : ℕ) × ((nat_le (low / u) b && nat_le b (high / u)) ≡ true)
least_passes low high u p = (low / u, both_in (low / u) (low / u) (high / u) (omega arith) p)

bytes_lawful : (n : ℕ) (r : Range) → Fine (suc n) r → Lawful (range_byte n r)
bytes_lawful zero r fine =
    let order = fine.order in
    let b = least_passes r.low r.high 1 (omega (arith, order)) in
    byte_lawful (λ b. nat_le (r.low / 1) b && nat_le b (r.high / 1)) b.0 b.1
bytes_lawful (suc zero) r fine =
    let order = fine.order in
    let b = least_passes r.low r.high 256 (omega (arith, order)) in
    byte_lawful (λ b. nat_le (r.low / 256) b && nat_le b (r.high / 256)) b.0 b.1
bytes_lawful (suc (suc zero)) r fine =
    let order = fine.order in
    let b = least_passes r.low r.high 65536 (omega (arith, order)) in
    byte_lawful (λ b. nat_le (r.low / 65536) b && nat_le b (r.high / 65536)) b.0 b.1
bytes_lawful (suc (suc (suc zero))) r fine =
    let order = fine.order in
    let b = least_passes r.low r.high 16777216 (omega (arith, order)) in
    byte_lawful (λ b. nat_le (r.low / 16777216) b && nat_le b (r.high / 16777216)) b.0 b.1
bytes_lawful (suc (suc (suc (suc n)))) r fine = let few = fine.few in absurd (omega (arith, few))

goes_on : (n : ℕ) (r : Range) (b : ℕ) → Fine (suc n) r → (range_byte n r).fits b → Fine n (next_range n r b)
goes_on zero r b fine fits =
    let f = fine_0 r.low r.high b fine.order fine.small (both_out (r.low / 1) b (r.high / 1) fits) in
    record { order = f.0; small = f.1; few = omega arith }
goes_on (suc zero) r b fine fits =
    let f = fine_1 r.low r.high b fine.order fine.small (both_out (r.low / 256) b (r.high / 256) fits) in
    record { order = f.0; small = f.1; few = omega arith }
goes_on (suc (suc zero)) r b fine fits =
    let f = fine_2 r.low r.high b fine.order fine.small (both_out (r.low / 65536) b (r.high / 65536) fits) in
    record { order = f.0; small = f.1; few = omega arith }
goes_on (suc (suc (suc zero))) r b fine fits =
    let f = fine_3 r.low r.high b fine.order fine.small (both_out (r.low / 16777216) b (r.high / 16777216) fits) in
    record { order = f.0; small = f.1; few = omega arith }
goes_on (suc (suc (suc (suc n)))) r b fine fits = let few = fine.few in absurd (omega (arith, few))

-- ---- four bytes in the range

bytes_in : (r : Range) (a b c d : ℕ) → b < 256 → c < 256 → d < 256 → r.low ≤ a * 16777216 + (b * 65536 + (c * 256 + d)) → a * 16777216 + (b * 65536 + (c * 256 + d)) ≤ r.high →
    each_fit range_byte next_range 4 r (a ∷ b ∷ c ∷ d ∷ [])
bytes_in r a b c d p q s low high =
    let r2 = next_range 3 r a in
    let r1 = next_range 2 r2 b in
    let r0 = next_range 1 r1 c in
    let x = to_3 r.low r.high a (b * 65536 + (c * 256 + d)) (omega (arith, p, q, s)) low high in
    let y = to_2 r2.low r2.high b (c * 256 + d) (omega (arith, q, s)) x.2 x.3 in
    let z = to_1 r1.low r1.high c d s y.2 y.3 in
    let w = to_0 r0.low r0.high d 0 (omega arith) (omega (arith, z.2)) (omega (arith, z.3)) in
    (both_in (r.low / 16777216) a (r.high / 16777216) x.0 x.1, (both_in (r2.low / 65536) b (r2.high / 65536) y.0 y.1, (both_in (r1.low / 256) c (r1.high / 256) z.0 z.1, (both_in (r0.low / 1) d (r0.high / 1) w.0 w.1, refl))))

record InRange (r : Range) (t : List ℕ) : Type 0 where
  pub length : length t ≡ 4
  pub bytes : AreBytes t
  pub range : (r.low ≤ from_be_bytes w32 t) × (from_be_bytes w32 t ≤ r.high)

bytes_out : (r : Range) → r.low ≤ r.high → r.high < 4294967296 → (t : List ℕ) → each_fit range_byte next_range 4 r t → InRange r t
bytes_out r order small [] fits = absurd fits
bytes_out r order small (a ∷ []) fits = absurd fits.1
bytes_out r order small (a ∷ b ∷ []) fits = absurd fits.1.1
bytes_out r order small (a ∷ b ∷ c ∷ []) fits = absurd fits.1.1.1
bytes_out r order small (a ∷ b ∷ c ∷ d ∷ e ∷ t) fits = let no = fits.1.1.1.1 in absurd cc
bytes_out r order small (a ∷ b ∷ c ∷ d ∷ []) fits =
    let r2 = next_range 3 r a in
    let r1 = next_range 2 r2 b in
    let r0 = next_range 1 r1 c in
    let x = both_out (r.low / 16777216) a (r.high / 16777216) fits.0 in
    let y = both_out (r2.low / 65536) b (r2.high / 65536) fits.1.0 in
    let z = both_out (r1.low / 256) c (r1.high / 256) fits.1.1.0 in
    let w = both_out (r0.low / 1) d (r0.high / 1) fits.1.1.1.0 in
    let f3 = fine_3 r.low r.high a order small x in
    let f2 = fine_2 r2.low r2.high b f3.0 f3.1 y in
    let f1 = fine_1 r1.low r1.high c f2.0 f2.1 z in
    let f0 = fine_0 r0.low r0.high d f1.0 f1.1 w in
    let v1 = from_1 r1.low r1.high c d f0.2 z (omega (arith, w)) (omega (arith, w)) in
    let v2 = from_2 r2.low r2.high b (c * 256 + d) (omega (arith, f0.2, f1.2)) y v1.0 v1.1 in
    let v3 = from_3 r.low r.high a (b * 65536 + (c * 256 + d)) (omega (arith, f0.2, f1.2, f2.2)) x v2.0 v2.1 in
    record { length = refl; bytes = (f3.2, (f2.2, (f1.2, (f0.2, tt)))); range = (omega (arith, v3), omega (arith, v3)) }

spelled_same : (n : ℕ) (r : Range) (t : List ℕ) → each_fit range_byte next_range n r t → each_spelled range_byte next_range n r t ≡ t
spelled_same zero r t fits = sym fits
spelled_same (suc n) r [] fits = absurd fits
spelled_same (suc n) r (b ∷ t) fits = ap (λ l. b ∷ l) (spelled_same n (next_range n r b) t fits.1)

abbrev range : ℕ → ℕ → Range
range low high = record { low = low; high = high }

in_bytes : (low high n : ℕ) → high < 4294967296 → (low ≤ n) × (n ≤ high) → each_fit range_byte next_range 4 (range low high) (to_be_bytes w32 n)
in_bytes low high n small fits =
    let same : n / 16777216 % 256 * 16777216 + (n / 65536 % 256 * 65536 + (n / 256 % 256 * 256 + n % 256)) ≡ n = omega (arith, fits, small) in
    bytes_in (range low high) (n / 16777216 % 256) (n / 65536 % 256) (n / 256 % 256) (n % 256) (omega arith) (omega arith) (omega arith) (omega (arith, same, fits)) (omega (arith, same, fits))

pub range_lawful : (low high : ℕ) → low ≤ high → high < 4294967296 → Lawful (number_in low high)
range_lawful low high order small =
    same_lawful (number_in low high) (each range_byte next_range 4 (range low high)) (from_be_bytes w32) (to_be_bytes w32) record {
      reads = λ bytes. refl;
      bytes = λ n fits. sym (spelled_same 4 (range low high) (to_be_bytes w32 n) (in_bytes low high n small fits));
      to = λ n fits. in_bytes low high n small fits;
      from = λ t fits. (bytes_out (range low high) order small t fits).range;
      again = λ n fits. from_be_bytes-to_be_bytes_4 n (omega (arith, fits, small));
      back = λ t fits. let i = bytes_out (range low high) order small t fits in be_bytes_4 t (from_be_bytes w32 t) i.length (small_byte t i.bytes) refl;
    } (each_lawful range_byte next_range Fine bytes_lawful goes_on 4 (range low high) record { order = order; small = small; few = omega arith })

-- What numbers and texts are spelled as, and what bytes begin with.
use Rattle.std.proofs.Common.{◌≡◌, ℕ, ℤ, ◌<◌, ◌≤◌, ◌^◌, List, [], ◌∷◌, ◌++◌, length, take, drop, get_or, sym, ◌∙◌, ap, arith, length-take, take-append-drop, append_assoc}
use Rattle.std.specs.Int.{w32, w64, to_be_bytes, from_be_bytes, cast_unsigned, cast_signed}
use Rattle.std.specs.Int.RustNames.{FitsSigned}
use Rattle.std.proofs.Math.Facts.{Fits-of_z, to_z-of_z}
use Rattle.std.proofs.Math.Seq.{take-append_seam, drop-append_seam}
use Rattle.std.proofs.lemmas.Simd.{below_from_Fits}
use Rattle.std.proofs.lemmas.Nat.{from_be_bytes-to_be_bytes_4, from_be_bytes-to_be_bytes_8}
use Rattle.ob_base.specs.Bytes.{u8_bytes, u32_bytes, i64_bytes, text_bytes}
use Rattle.ob_base.specs.Fields.{BeginsWith}

-- a length, and after it as many bytes
pub text_begins : (bytes rest : List ℕ) (n : ℕ) → bytes ≡ u32_bytes n ++ rest → n < 2 ^ 32 → n ≤ length rest → BeginsWith bytes (take n rest)
text_begins bytes rest n front small within =
    let len : length (take n rest) ≡ n = omega (arith, length-take n rest) in record {
      rest = drop n rest;
      small = omega (arith, len);
      is =
          front ∙ ap (λ (l : List ℕ). u32_bytes n ++ l) (sym (take-append-drop n rest)) ∙ sym (append_assoc (u32_bytes n) (take n rest) (drop n rest))
          ∙ ap (λ (m : ℕ). (u32_bytes m ++ take n rest) ++ drop n rest) (sym len);
    }

pub one_u8 : (a b : ℕ) (r s : List ℕ) → u8_bytes a ++ r ≡ u8_bytes b ++ s → (a ≡ b) × (r ≡ s)
one_u8 a b r s e = (ap (λ (l : List ℕ). get_or l 0 0) e, ap (λ (l : List ℕ). drop 1 l) e)

pub one_u32 : (a b : ℕ) (r s : List ℕ) → a < 2 ^ 32 → b < 2 ^ 32 → u32_bytes a ++ r ≡ u32_bytes b ++ s → (a ≡ b) × (r ≡ s)
one_u32 a b r s p q e = (
  sym (from_be_bytes-to_be_bytes_4 a p) ∙ ap (λ (l : List ℕ). from_be_bytes w32 (take 4 l)) e ∙ from_be_bytes-to_be_bytes_4 b q,
  ap (λ (l : List ℕ). drop 4 l) e,
)

one_u64 : (a b : ℕ) (r s : List ℕ) → a < 2 ^ 64 → b < 2 ^ 64 → to_be_bytes w64 a ++ r ≡ to_be_bytes w64 b ++ s → (a ≡ b) × (r ≡ s)
one_u64 a b r s p q e = (
  sym (from_be_bytes-to_be_bytes_8 a p) ∙ ap (λ (l : List ℕ). from_be_bytes w64 (take 8 l)) e ∙ from_be_bytes-to_be_bytes_8 b q,
  ap (λ (l : List ℕ). drop 8 l) e,
)

small : (z : ℤ) → FitsSigned w64 z → cast_unsigned w64 z < 2 ^ 64
small z fits = (below_from_Fits w64 (cast_unsigned w64 z ∷ []) (Fits-of_z fits, tt)).0

pub one_i64 : (a b : ℤ) (r s : List ℕ) → FitsSigned w64 a → FitsSigned w64 b → i64_bytes a ++ r ≡ i64_bytes b ++ s → (a ≡ b) × (r ≡ s)
one_i64 a b r s p q e =
    let same = one_u64 (cast_unsigned w64 a) (cast_unsigned w64 b) r s (small a p) (small b q) e in
    (sym (to_z-of_z p) ∙ ap (cast_signed w64) same.0 ∙ to_z-of_z q, same.1)

one_part : (a b r s : List ℕ) → length a ≡ length b → a ++ r ≡ b ++ s → (a ≡ b) × (r ≡ s)
one_part a b r s len e = (
  sym (take-append_seam a r) ∙ ap (λ (l : List ℕ). take (length a) l) e ∙ ap (λ (n : ℕ). take n (b ++ s)) len ∙ take-append_seam b s,
  sym (drop-append_seam a r) ∙ ap (λ (l : List ℕ). drop (length a) l) e ∙ ap (λ (n : ℕ). drop n (b ++ s)) len ∙ drop-append_seam b s,
)

pub one_text : (a b r s : List ℕ) → length a < 2 ^ 32 → length b < 2 ^ 32 → text_bytes a ++ r ≡ text_bytes b ++ s → (a ≡ b) × (r ≡ s)
one_text a b r s p q e =
    let same = one_u32 (length a) (length b) (a ++ r) (b ++ s) p q (sym (append_assoc (u32_bytes (length a)) a r) ∙ e ∙ append_assoc (u32_bytes (length b)) b s) in
    one_part a b r s same.0 same.1

-- The formats of numbers are lawful.
use Rattle.std.proofs.Common.{ℕ, ℤ, zero, suc, ◌≡◌, ◌<◌, ◌^◌, nat_lt, true, false, List, [], ◌∷◌, ◌++◌, length, take, drop, get_or, ◌-◌, ◌≤◌, length-append, take-append-drop, refl, sym, ap, subst, ◌∙◌, append-nil, inl, inr, arith}
use Rattle.std.proofs.lemmas.Bool.{cases_Bool, ltb-true, ltb-false, le-ltb}
use Rattle.std.proofs.lemmas.List.{length-take-le}
use Rattle.std.proofs.lemmas.Nat.{from_be_bytes-to_be_bytes_4, from_be_bytes-to_be_bytes_8, be_bytes_4, be_bytes_8}
use Rattle.std.proofs.lemmas.Int.{of_z-to_z}
use Rattle.std.proofs.Math.Facts.{Fits-of_z, to_z-of_z, sfits_to_z}
use Rattle.std.proofs.lemmas.Simd.{below_from_Fits}
use Rattle.std.specs.Int.RustNames.{FitsSigned}
use Rattle.std.proofs.Math.Seq.{take-append_seam, drop-append_seam}
use Rattle.std.proofs.Math.ListN.{get_or-eq_default}
use Rattle.std.specs.Int.{w32, w64, to_be_bytes, from_be_bytes, cast_unsigned, cast_signed, bytes_high_first, byte_at}
use Rattle.ob_format_spec.specs.Formats.{done, stop, Format}
use Rattle.ob_format_spec.specs.Combinators.{is_below, byte_below, any_byte, read_block, number, integer, and_then, times, counted_by, counted, counted_by_byte}
use Rattle.ob_format_spec.specs.Lawful.{AreBytes, Stopped, Lawful}
use Rattle.ob_format_spec.proofs.CombinatorLaws.{first_none, done_parts, stop_parts, byte_lawful, and_then_lawful, SameSpelling, same_lawful, of_parts_lawful, times_lawful}

-- ---- bytes below a bound

pub byte_below_lawful : (bound : ℕ) → nat_lt 0 bound ≡ true → Lawful (byte_below bound)
byte_below_lawful bound some = byte_lawful (is_below bound) 0 some

pub any_byte_lawful : Lawful any_byte
any_byte_lawful = byte_below_lawful 256 refl

-- ---- numbers

-- bytes as they are
block : ℕ → Format (List ℕ)
block n = record { fits = λ t. (length t ≡ n) × AreBytes t; bytes = λ t. t; read = read_block n }

zeros : ℕ → List ℕ
zeros zero = []
zeros (suc n) = 0 ∷ zeros n

zeros_are : (n : ℕ) → (length (zeros n) ≡ n) × AreBytes (zeros n)
unfolding zeros
zeros_are zero = (refl, tt)
zeros_are (suc n) = (ap (λ k. suc k) (zeros_are n).0, (omega arith, (zeros_are n).1))

append_bytes : (a b : List ℕ) → AreBytes a → AreBytes b → AreBytes (a ++ b)
append_bytes [] b p q = q
append_bytes (x ∷ xs) b p q = (p.0, append_bytes xs b p.1 q)

front_bytes : (front rest : List ℕ) → AreBytes (front ++ rest) → AreBytes front
front_bytes [] rest all = tt
front_bytes (b ∷ bs) rest all = (all.0, front_bytes bs rest all.1)

module _ (n : ℕ) where
  block_short : (bytes : List ℕ) → nat_lt (length bytes) n ≡ true → read_block n bytes ≡ stop 0
  block_short bytes e = rw e refl

  block_whole : (bytes : List ℕ) → nat_lt (length bytes) n ≡ false → read_block n bytes ≡ done (take n bytes) (drop n bytes)
  block_whole bytes e = rw e refl

  block_full : (t : List ℕ) → length t ≡ n → (rest : List ℕ) → read_block n (t ++ rest) ≡ done t rest
  block_full t e rest =
      let whole : nat_lt (length (t ++ rest)) n ≡ false = le-ltb (length (t ++ rest)) n (omega (arith, e, length-append t rest)) in
      block_whole (t ++ rest) whole ∙ ap (λ k. done (take k (t ++ rest)) (drop k (t ++ rest))) (sym e) ∙ (λ i. done (take-append_seam t rest i) (drop-append_seam t rest i))

  block_sound : (bytes : List ℕ) → AreBytes bytes → (t rest : List ℕ) → read_block n bytes ≡ done t rest → ((length t ≡ n) × AreBytes t) × (bytes ≡ t ++ rest)
  block_sound bytes all t rest e = elim (cases_Bool (nat_lt (length bytes) n)) [
    | inl short ↦ let e' = sym (block_short bytes short) ∙ e in absurd cc
    | inr whole ↦
        let p = done_parts (take n bytes) t (drop n bytes) rest (sym (block_whole bytes whole) ∙ e) in
        let long : n ≤ length bytes = ltb-false (length bytes) n whole in
        let parts : bytes ≡ take n bytes ++ drop n bytes = sym (take-append-drop n bytes) in (
          (ap length (sym p.0) ∙ length-take-le n bytes long, subst AreBytes p.0 (front_bytes (take n bytes) (drop n bytes) (subst AreBytes parts all))),
          parts ∙ (λ i. p.0 i ++ p.1 i),
        )
  ]

  block_stopped : (bytes : List ℕ) → AreBytes bytes → (left : ℕ) → read_block n bytes ≡ stop left → Stopped (block n) bytes left
  unfolding block
  block_stopped bytes all left e = elim (cases_Bool (nat_lt (length bytes) n)) [
    | inl short ↦
        let less : length bytes < n = ltb-true (length bytes) n short in
        let missing = zeros (n - length bytes) in
        let m = zeros_are (n - length bytes) in
        record {
          front = bytes;
          rest = [];
          parts = sym (append-nil bytes);
          left_is = stop_parts (read_block n bytes) 0 left (block_short bytes short) e;
          value = bytes ++ missing;
          fits = (length-append bytes missing ∙ omega (arith, less, m.0), append_bytes bytes missing all m.1);
          others = missing;
          spelled = refl;
          local = λ new same.
              let nil : new ≡ [] = first_none new same in
              ap (λ l. read_block n (bytes ++ l)) nil ∙ ap (read_block n) (append-nil bytes) ∙ block_short bytes short ∙ ap (λ l. stop (length l)) (sym nil);
        }
    | inr whole ↦ let e' = sym (block_whole bytes whole) ∙ e in absurd cc
  ]

  block_lawful : Lawful (block n)
  unfolding block
  block_lawful = record {
    sound = block_sound;
    full = λ t fits rest. block_full t fits.0 rest;
    stopped = block_stopped;
    some = zeros n;
    some_fits = zeros_are n;
  }

pub small_byte : (bytes : List ℕ) → AreBytes bytes → (i : ℕ) → get_or bytes i 0 < 256
small_byte [] all i = omega (arith, get_or-eq_default {A = ℕ} [] 0 {n = i})
small_byte (b ∷ bs) all zero = all.0
small_byte (b ∷ bs) all (suc i) = small_byte bs all.1 i

byte_small : (k n : ℕ) → byte_at k n < 256
byte_small zero n = omega arith
byte_small (suc k) n = omega arith

each_byte : (k n : ℕ) → AreBytes (bytes_high_first k n)
each_byte zero n = tt
each_byte (suc k) n = (byte_small k n, each_byte k n)

number_same : SameSpelling number (block 4) (from_be_bytes w32) (to_be_bytes w32)
unfolding block
number_same = record {
  reads = λ bytes. refl;
  bytes = λ n fits. refl;
  to = λ n fits. (refl, each_byte 4 n);
  from = λ t fits. let small = small_byte t fits.1 in omega (arith, small 0, small 1, small 2, small 3);
  again = λ n fits. from_be_bytes-to_be_bytes_4 n fits;
  back = λ t fits. be_bytes_4 t (from_be_bytes w32 t) fits.0 (small_byte t fits.1) refl;
}

pub number_lawful : Lawful number
number_lawful = same_lawful number (block 4) (from_be_bytes w32) (to_be_bytes w32) number_same (block_lawful 4)

unsigned : (t : List ℕ) → AreBytes t → from_be_bytes w64 t < 2 ^ 64
unsigned t all = let small = small_byte t all in omega (arith, small 0, small 1, small 2, small 3, small 4, small 5, small 6, small 7)

small_unsigned : (z : ℤ) → FitsSigned w64 z → cast_unsigned w64 z < 2 ^ 64
small_unsigned z fits = (below_from_Fits w64 (cast_unsigned w64 z ∷ []) (Fits-of_z fits, tt)).0

integer_same : SameSpelling integer (block 8) (λ t. cast_signed w64 (from_be_bytes w64 t)) (λ z. to_be_bytes w64 (cast_unsigned w64 z))
unfolding block
integer_same = record {
  reads = λ bytes. refl;
  bytes = λ z fits. refl;
  to = λ z fits. (refl, each_byte 8 (cast_unsigned w64 z));
  from = λ t fits. sfits_to_z {w = w64} record { fits = unsigned t fits.1 };
  again = λ z fits. ap (cast_signed w64) (from_be_bytes-to_be_bytes_8 (cast_unsigned w64 z) (small_unsigned z fits)) ∙ to_z-of_z fits;
  back = λ t fits.
      ap (to_be_bytes w64) (of_z-to_z w64 (from_be_bytes w64 t) (unsigned t fits.1)) ∙ be_bytes_8 t (from_be_bytes w64 t) fits.0 (small_byte t fits.1) refl;
}

pub integer_lawful : Lawful integer
integer_lawful = same_lawful integer (block 8) (λ t. cast_signed w64 (from_be_bytes w64 t)) (λ z. to_be_bytes w64 (cast_unsigned w64 z)) integer_same (block_lawful 8)

-- ---- a list by its count

pub counted_by_lawful : {A : Type 0} (count : Format ℕ) (f : Format A) → Lawful count → Lawful f → Lawful (counted_by count f)
counted_by_lawful count f c a =
    of_parts_lawful (λ pair. pair.1) (λ xs. (length xs, xs)) (and_then count (times f)) (λ xs. refl) (λ pair fits. (λ i. (fits.1.0 i, pair.1)))
    (and_then_lawful count (times f) c (λ n fits. times_lawful f a n))

pub counted_lawful : {A : Type 0} (f : Format A) → Lawful f → Lawful (counted f)
counted_lawful f a = counted_by_lawful number f number_lawful a

pub counted_by_byte_lawful : {A : Type 0} (f : Format A) → Lawful f → Lawful (counted_by_byte f)
counted_by_byte_lawful f a = counted_by_lawful any_byte f any_byte_lawful a

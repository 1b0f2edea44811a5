-- An area is spelled behind its closed gate, and then opened: what each write makes of it.
use Rattle.std.proofs.Common.{◌≡◌, ◌⊎◌, inl, inr, ℕ, ℤ, zero, suc, ◌+◌, ◌-◌, ◌≤◌, ◌^◌, ◌<◌, List, [], ◌∷◌, ◌++◌, length, drop, refl, sym, ◌∙◌, ap, subst, arith, append_assoc}
use Rattle.std.specs.Prelude.{pos, negsuc, ◌+ℤ◌, ◌≤ℤ◌, ◌<ℤ◌}
use Rattle.std.specs.Int.{w64}
use Rattle.std.specs.Int.RustNames.{FitsSigned}
use Rattle.std.proofs.lemmas.Int.{ints}
use Rattle.std.proofs.lemmas.List.{append-nil}
use Rattle.ob_disk_spec.specs.Disk.{Torn, overwritten}
use Rattle.ob_journal_spec.specs.Spellings.{sized, header}
use Rattle.ob_journal_spec.specs.Areas.{Journaled, AreaRepresents, IsBlank, begun}
use Rattle.ob_journal_spec.specs.Disks.{moved}
use Rattle.ob_journal_spec.specs.Building.{IsClosed, IsSpelled, IsHeaded}
use Rattle.ob_journal_spec.specs.Lasting.{last_serial}
use Rattle.ob_journal_spec.proofs.Bytes.{torn_behind, torn_byte, put_inside}

-- a torn first byte
pub short_torn : (d c : List ℕ) → length d ≤ 1 → Torn 0 1 d c → IsBlank c
short_torn d c short torn = inl (omega (arith, short, torn.no_longer))

pub short_closed : (d c : List ℕ) → c ≡ overwritten 0 (0 ∷ []) d → IsClosed c
short_closed d c is = (drop 1 d, is ∙ put_inside [] d (0 ∷ []) 0 refl)

-- behind a closed gate
pub closed_torn : (n : ℕ) (d c : List ℕ) → IsClosed d → Torn 1 n d c → IsClosed c
closed_torn n d c was torn = torn_behind [] was.0 c 0 0 n refl (subst (λ (l : List ℕ). Torn 1 n l c) was.1 torn)

module _ (k : Journaled) (records : List ℕ) where
  text : List ℕ
  text = header.bytes (k.serial, k.image)

  -- the parts grouped as one text before the gate behind it
  grouped : (rest : List ℕ) → text ++ (records ++ 0 ∷ rest) ≡ (text ++ records) ++ 0 ∷ rest
  grouped rest = sym (append_assoc text records (0 ∷ rest))

  pub heads : (d c : List ℕ) → IsClosed d → c ≡ overwritten 1 (header.bytes (k.serial, k.image) ++ (records ++ 0 ∷ [])) d → IsHeaded k records c
  unfolding text
  heads d c was is =
      let built = text ++ (records ++ 0 ∷ []) in
      let rest = drop (1 + length built) (0 ∷ was.0) in
      (rest, is ∙ ap (overwritten 1 built) was.1 ∙ put_inside (0 ∷ []) was.0 built 1 refl ∙ ap (λ (l : List ℕ). 0 ∷ l) (append_assoc text (records ++ 0 ∷ []) rest ∙ ap (λ (l : List ℕ). text ++ l) (append_assoc records (0 ∷ []) rest)))

  module _ (is : IsSpelled k records) where
    opened : (gate : ℕ) (rest c : List ℕ) → 0 < gate → c ≡ gate ∷ (text ++ (records ++ 0 ∷ rest)) → AreaRepresents k c
    unfolding text
    opened gate rest c is_open same = record {
      front = gate ∷ (text ++ records);
      behind = rest;
      is = same ∙ ap (λ (l : List ℕ). gate ∷ l) (grouped rest);
      open_front = record { gate = gate; records = records; is_open = is_open; is = refl; fits = is.fits; from_one = is.from_one; payloads = is.payloads };
    }

    by_gate : (gate : ℕ) (rest c : List ℕ) → c ≡ gate ∷ (text ++ (records ++ 0 ∷ rest)) → IsClosed c ⊎ AreaRepresents k c
    unfolding text
    by_gate zero rest c same = inl (text ++ (records ++ 0 ∷ rest), same)
    by_gate (suc g) rest c same = inr (opened (suc g) rest c (omega arith) same)

    pub headed_torn : (d c : List ℕ) → IsHeaded k records d → Torn 0 1 d c → IsClosed c ⊎ AreaRepresents k c
    unfolding text
    headed_torn d c was torn =
        let now = torn_byte [] (text ++ (records ++ 0 ∷ was.0)) c 0 0 refl (subst (λ (l : List ℕ). Torn 0 1 l c) was.1 torn) in by_gate now.0 was.0 c now.1

    pub headed_opens : (d c : List ℕ) → IsHeaded k records d → c ≡ overwritten 0 (1 ∷ []) d → AreaRepresents k c
    unfolding text
    headed_opens d c was written =
        opened 1 was.0 c (omega arith) (written ∙ ap (overwritten 0 (1 ∷ [])) was.1 ∙ put_inside [] (0 ∷ (text ++ (records ++ 0 ∷ was.0))) (1 ∷ []) 0 refl)

-- ---- what is spelled

one_fits : FitsSigned w64 (pos 1)
one_fits = omega arith

from_one : pos 1 ≤ℤ pos 1
from_one = omega (arith, ints)

-- an area that is begun
pub begun_spelled : (image : List ℕ) → length image < 2 ^ 32 → IsSpelled (begun image) []
begun_spelled image small = record { fits = (tt, (one_fits, (small, refl))); from_one = from_one; payloads = refl }

next_fits : (s : ℤ) → s <ℤ last_serial → pos 1 ≤ℤ s → FitsSigned w64 (s +ℤ pos 1)
next_fits (pos n) less from = let small : n < 2 ^ 63 - 1 = omega (arith, ints, less) in omega (arith, small)
next_fits (negsuc n) less from = absurd (omega (arith, ints, from))

-- one that is moved to
pub moved_spelled : (j : Journaled) (payload : List ℕ) → j.serial <ℤ last_serial → pos 1 ≤ℤ j.serial → length j.image < 2 ^ 32 → sized.fits payload → IsSpelled (moved j payload) (1 ∷ sized.bytes payload)
moved_spelled j payload less from small fits = record {
  fits = (tt, (next_fits j.serial less from, (small, refl)));
  from_one = omega (arith, ints, from);
  payloads = (1, [], omega arith, fits, ap (λ (l : List ℕ). 1 ∷ l) (sym (append-nil (sized.bytes payload))), refl);
}

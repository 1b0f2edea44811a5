-- The first bytes of an area, up to those of the image: they tell whether it has a header.
use Rattle.std.proofs.Common.{◌≡◌, ℕ, ℤ, ◌+◌, ◌-◌, ◌<◌, ◌≤◌, List, [], ◌∷◌, ◌++◌, length, take, drop, refl, sym, ◌∙◌, ap, arith, append_assoc, length-append, length-drop, take-append-drop}
use Rattle.std.proofs.lemmas.List.{take_at}
use Rattle.ob_base.specs.Bytes.{u32_bytes, i64_bytes}
use Rattle.ob_base.proofs.FieldsLemmas.{one_i64, one_u32}
use Rattle.ob_journal_spec.specs.Spellings.{sized, header}
use Rattle.ob_journal_spec.specs.Areas.{HasHeader}
pub use Rattle.ob_journal_spec.specs.Heads.{BeginsHeader}
use Rattle.ob_journal_spec.proofs.Spelled.{length-header}
use Rattle.ob_journal_spec.proofs.Reading.{whole_sized}

-- behind them is the image, and behind that a gate
pub header_here : (area : List ℕ) (serial : ℤ) (count : ℕ) → BeginsHeader serial count (take 17 area) → 17 + count < length area → HasHeader serial (take count (drop 17 area)) area
header_here area serial count begins within =
    let rest = drop 17 area in
    let image = take count rest in
    let left : length rest ≡ length area - 17 = length-drop 17 area in
    let whole : area ≡ begins.gate ∷ 79 ∷ 66 ∷ 83 ∷ 65 ∷ (i64_bytes serial ++ (u32_bytes count ++ rest)) =
    sym (take-append-drop 17 area) ∙ ap (λ (l : List ℕ). l ++ rest) begins.is ∙ ap (λ (l : List ℕ). begins.gate ∷ 79 ∷ 66 ∷ 83 ∷ 65 ∷ l) (append_assoc (i64_bytes serial) (u32_bytes count) rest) in
    let text = whole_sized (u32_bytes count ++ rest) rest count begins.small refl (omega (arith, left, within)) in
    let more = next_gate_of (drop count rest) (omega (arith, length-drop count rest, left, within)) in
    record {
      gate = begins.gate;
      next = more.0;
      behind = more.1;
      is = whole ∙ ap (λ (l : List ℕ). begins.gate ∷ 79 ∷ 66 ∷ 83 ∷ 65 ∷ (i64_bytes serial ++ l)) (text.1 ∙ ap (λ (l : List ℕ). sized.bytes image ++ l) more.2)
          ∙ ap (λ (l : List ℕ). begins.gate ∷ 79 ∷ 66 ∷ 83 ∷ 65 ∷ l) (sym (append_assoc (i64_bytes serial) (sized.bytes image) (more.0 ∷ more.1)));
      fits = (tt, (begins.fits, text.0));
      from_one = begins.from_one;
    }
  where
    next_gate_of : (bytes : List ℕ) → 0 < length bytes → (next : ℕ) × (behind : List ℕ) × (bytes ≡ next ∷ behind)
    next_gate_of [] some = absurd (omega (arith, some))
    next_gate_of (b ∷ bytes) some = (b, bytes, refl)

-- an area with a header begins so
pub begins_header : (area : List ℕ) (serial : ℤ) (image : List ℕ) → HasHeader serial image area → BeginsHeader serial (length image) (take 17 area) × (17 + length image < length area)
begins_header area serial image has =
    let front = has.gate ∷ 79 ∷ 66 ∷ 83 ∷ 65 ∷ (i64_bytes serial ++ u32_bytes (length image)) in
    let rest = image ++ has.next ∷ has.behind in
    let whole : area ≡ front ++ rest =
    has.is ∙ ap (λ (l : List ℕ). has.gate ∷ 79 ∷ 66 ∷ 83 ∷ 65 ∷ l) (append_assoc (i64_bytes serial) (sized.bytes image) (has.next ∷ has.behind))
    ∙ ap (λ (l : List ℕ). has.gate ∷ 79 ∷ 66 ∷ 83 ∷ 65 ∷ (i64_bytes serial ++ l)) (append_assoc (u32_bytes (length image)) image (has.next ∷ has.behind))
    ∙ ap (λ (l : List ℕ). has.gate ∷ 79 ∷ 66 ∷ 83 ∷ 65 ∷ l) (sym (append_assoc (i64_bytes serial) (u32_bytes (length image)) rest)) in
    let long : length front ≡ 17 = omega (arith, length-append (i64_bytes serial) (u32_bytes (length image))) in (
      record { gate = has.gate; is = ap (take 17) whole ∙ take_at front rest 17 long; fits = has.fits.1.0; from_one = has.from_one; small = has.fits.1.1.0 },
      omega (arith, ap length has.is, length-append (header.bytes (serial, image)) (has.next ∷ has.behind), length-header serial image),
    )

-- they tell one serial and one number
pub one_begin : (head : List ℕ) (s t : ℤ) (m n : ℕ) → BeginsHeader s m head → BeginsHeader t n head → (s ≡ t) × (m ≡ n)
one_begin head s t m n a b =
    let serials = one_i64 s t (u32_bytes m) (u32_bytes n) a.fits b.fits (ap (λ (l : List ℕ). drop 5 l) (sym a.is ∙ b.is)) in
    let counts = one_u32 m n [] [] a.small b.small (ap (λ (l : List ℕ). l ++ []) serials.1) in (serials.0, counts.0)

-- the area ends before its next gate
pub no_header_short : (area : List ℕ) (serial : ℤ) (count : ℕ) → BeginsHeader serial count (take 17 area) → length area ≤ 17 + count → (s : ℤ) (i : List ℕ) → ¬ (HasHeader s i area)
no_header_short area serial count begins short s i = λ has.
    let other = begins_header area s i has in
    let same = one_begin (take 17 area) serial s count (length i) begins other.0 in omega (arith, short, other.1, same.1)

-- it begins otherwise
pub no_header : (area : List ℕ) → ((s : ℤ) (n : ℕ) → ¬ (BeginsHeader s n (take 17 area))) → (s : ℤ) (i : List ℕ) → ¬ (HasHeader s i area)
no_header area none s i = λ has. none s (length i) (begins_header area s i has).0

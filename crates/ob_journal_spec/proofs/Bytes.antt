-- Records one after another, and what writes make of the bytes around a gate.
use Rattle.std.proofs.Common.{◌≡◌, ℕ, ◌+◌, ◌-◌, ◌<◌, List, [], ◌∷◌, ◌++◌, length, take, drop, refl, sym, ◌∙◌, ap, arith, append_assoc, length-append}
use Rattle.std.proofs.Math.ListN.{replicate}
use Rattle.std.proofs.lemmas.List.{append-nil, take_at, drop_at}
use Rattle.ob_disk_spec.specs.Disk.{Torn, overwritten}
use Rattle.ob_journal_spec.specs.Spellings.{sized, header}
use Rattle.ob_journal_spec.specs.Areas.{Journaled, Records, Front, size_of, next_gate, with_payload}
use Rattle.ob_journal_spec.proofs.Spelled.{length-sized, length-header}

-- ---- records

pub length-records : (payloads : List (List ℕ)) (bytes : List ℕ) → Records payloads bytes → length bytes ≡ size_of payloads
length-records [] bytes is = ap length is
length-records (payload ∷ payloads) bytes is =
    let rest = length-records payloads is.1 is.5 in omega (arith, ap length is.4, length-append (sized.bytes payload) is.1, length-sized payload, rest)

pub records-append : (payloads : List (List ℕ)) (bytes payload : List ℕ) (gate : ℕ) → 0 < gate → sized.fits payload → Records payloads bytes → Records (payloads ++ payload ∷ []) (bytes ++ gate ∷ sized.bytes payload)
records-append [] bytes payload gate is_open fits is = (gate, [], is_open, fits, ap (λ (l : List ℕ). l ++ gate ∷ sized.bytes payload) is ∙ sym (append-nil (gate ∷ sized.bytes payload)), refl)
records-append (p ∷ payloads) bytes payload gate is_open fits is = (
  is.0,
  is.1 ++ gate ∷ sized.bytes payload,
  is.2,
  is.3,
  ap (λ (l : List ℕ). l ++ gate ∷ sized.bytes payload) is.4 ∙ append_assoc (is.0 ∷ sized.bytes p) is.1 (gate ∷ sized.bytes payload),
  records-append payloads is.1 payload gate is_open fits is.5,
)

pub length-front : (j : Journaled) (bytes : List ℕ) → Front j bytes → length bytes ≡ next_gate j
length-front j bytes s =
    omega (arith, ap length s.is, length-append (header.bytes (j.serial, j.image)) s.records, length-header j.serial j.image, length-records j.payloads s.records s.payloads)

pub front-append : (j : Journaled) (bytes payload : List ℕ) (gate : ℕ) → 0 < gate → sized.fits payload → Front j bytes → Front (with_payload j payload) (bytes ++ gate ∷ sized.bytes payload)
front-append j bytes payload gate is_open fits s = record {
  gate = s.gate;
  records = s.records ++ gate ∷ sized.bytes payload;
  is_open = s.is_open;
  is = ap (λ (l : List ℕ). l ++ gate ∷ sized.bytes payload) s.is ∙ append_assoc (s.gate ∷ header.bytes (j.serial, j.image)) s.records (gate ∷ sized.bytes payload);
  fits = s.fits;
  from_one = s.from_one;
  payloads = records-append j.payloads s.records payload gate is_open fits s.payloads;
}

pub size-append : (payloads : List (List ℕ)) (payload : List ℕ) → size_of (payloads ++ payload ∷ []) ≡ size_of payloads + (5 + length payload)
size-append [] payload = omega arith
size-append (p ∷ payloads) payload = omega (arith, size-append payloads payload)

pub next_more : (j : Journaled) (payload : List ℕ) → next_gate (with_payload j payload) ≡ next_gate j + (5 + length payload)
next_more j payload = omega (arith, size-append j.payloads payload)

-- ---- bytes before an offset, the byte there, and those behind it

take_front : (front behind : List ℕ) (gate p : ℕ) → length front ≡ p → take (p + 1) (front ++ gate ∷ behind) ≡ front ++ gate ∷ []
take_front front behind gate p at =
    ap (take (p + 1)) (sym (append_assoc front (gate ∷ []) behind)) ∙ take_at (front ++ gate ∷ []) behind (p + 1) (omega (arith, at, length-append front (gate ∷ [])))

pub drop_front : (front behind : List ℕ) (gate p : ℕ) → length front ≡ p → drop (p + 1) (front ++ gate ∷ behind) ≡ behind
drop_front front behind gate p at =
    ap (drop (p + 1)) (sym (append_assoc front (gate ∷ []) behind)) ∙ drop_at (front ++ gate ∷ []) behind (p + 1) (omega (arith, at, length-append front (gate ∷ [])))

one_byte : (bytes : List ℕ) → length bytes ≡ 1 → (b : ℕ) × (bytes ≡ b ∷ [])
one_byte [] is = absurd (omega (arith, is))
one_byte (b ∷ []) is = (b, refl)
one_byte (b ∷ d ∷ bytes) is = absurd (omega (arith, is))

-- a torn write behind a byte keeps it and all before it
pub torn_behind : (front behind c : List ℕ) (gate p n : ℕ) → length front ≡ p → Torn (p + 1) n (front ++ gate ∷ behind) c → (rest : List ℕ) × (c ≡ front ++ gate ∷ rest)
torn_behind front behind c gate p n at torn =
    let rest = torn.middle ++ drop (p + 1 + n) (front ++ gate ∷ behind) in
    (rest, torn.is ∙ ap (λ (l : List ℕ). l ++ rest) (take_front front behind gate p at) ∙ append_assoc front (gate ∷ []) rest)

-- a torn write of one byte changes that byte
pub torn_byte : (front behind c : List ℕ) (gate p : ℕ) → length front ≡ p → Torn p 1 (front ++ gate ∷ behind) c → (b : ℕ) × (c ≡ front ++ b ∷ behind)
torn_byte front behind c gate p at torn =
    let same : c ≡ front ++ (torn.middle ++ behind) =
    torn.is ∙ ap (λ (l : List ℕ). l ++ (torn.middle ++ drop (p + 1) (front ++ gate ∷ behind))) (take_at front (gate ∷ behind) p at) ∙ ap (λ (l : List ℕ). front ++ (torn.middle ++ l)) (drop_front front behind gate p at) in
    let one = one_byte torn.middle (omega (arith, at, ap length same, length-append front (torn.middle ++ behind), length-append torn.middle behind, length-append front (gate ∷ behind), torn.no_shorter, torn.no_longer)) in
    (one.0, same ∙ ap (λ (l : List ℕ). front ++ (l ++ behind)) one.1)

-- a write that begins within the bytes
pub put_inside : (front rest bytes : List ℕ) (p : ℕ) → length front ≡ p → overwritten p bytes (front ++ rest) ≡ front ++ (bytes ++ drop (p + length bytes) (front ++ rest))
put_inside front rest bytes p at =
    let none : p - length (front ++ rest) ≡ 0 = omega (arith, at, length-append front rest) in
    ap (λ (l : List ℕ). l ++ (replicate (p - length (front ++ rest)) 0 ++ (bytes ++ drop (p + length bytes) (front ++ rest)))) (take_at front rest p at)
    ∙ ap (λ (n : ℕ). front ++ (replicate n 0 ++ (bytes ++ drop (p + length bytes) (front ++ rest)))) none

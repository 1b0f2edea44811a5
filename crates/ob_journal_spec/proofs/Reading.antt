-- An area is read from its front, record by record.
use Rattle.std.proofs.Common.{◌≡◌, ℕ, ℤ, ◌+◌, ◌<◌, ◌≤◌, ◌^◌, List, [], ◌∷◌, ◌++◌, length, get_or, take, drop, refl, sym, ◌∙◌, ap, subst, arith, append_assoc, length-append, length-take, take-append-drop}
use Rattle.std.proofs.lemmas.List.{take_at, drop_more, append-nil}
use Rattle.ob_base.specs.Bytes.{u32_bytes}
use Rattle.ob_base.proofs.FieldsLemmas.{one_u32}
use Rattle.ob_journal_spec.specs.Spellings.{sized, header}
use Rattle.ob_journal_spec.specs.Areas.{Journaled, Front, AreaRepresents, HasHeader, HasRecord, IsDamaged, next_gate, with_payload}
use Rattle.ob_journal_spec.proofs.Spelled.{length-sized, length-header}
use Rattle.ob_journal_spec.proofs.Bytes.{length-front, front-append}

-- the bytes before an offset, the byte there, and those behind it
split : (bytes : List ℕ) (gate : ℕ) → gate < length bytes → bytes ≡ take gate bytes ++ get_or bytes gate 0 ∷ drop (gate + 1) bytes
split bytes gate within = sym (take-append-drop gate bytes) ∙ ap (λ (l : List ℕ). take gate bytes ++ l) (drop_more bytes gate 0 within)

pub headed : (bytes : List ℕ) (serial : ℤ) (image : List ℕ) → HasHeader serial image bytes → ¬ (get_or bytes 0 0 ≡ 0) → Front (record { serial = serial; image = image; payloads = [] }) (take (17 + length image) bytes) × (17 + length image < length bytes)
headed bytes serial image has is_open =
    let text = header.bytes (serial, image) in
    let long = length-header serial image in
    let gate : get_or bytes 0 0 ≡ has.gate = ap (λ (l : List ℕ). get_or l 0 0) has.is in
    let some : 0 < has.gate = positive has.gate (λ zero_is. is_open (gate ∙ zero_is)) in
    let front : take (17 + length image) bytes ≡ has.gate ∷ (text ++ []) = ap (take (17 + length image)) has.is ∙ take_at (has.gate ∷ text) (has.next ∷ has.behind) (17 + length image) (omega (arith, long)) ∙ ap (λ (l : List ℕ). has.gate ∷ l) (sym (append-nil text)) in (
      record { gate = has.gate; records = []; is_open = some; is = front; fits = has.fits; from_one = has.from_one; payloads = refl },
      omega (arith, ap length has.is, length-append text (has.next ∷ has.behind), long),
    )
  where
    positive : (n : ℕ) → ¬ (n ≡ 0) → 0 < n
    positive n none = omega (arith, none)

-- behind an open gate stands a record
pub one_more : (j : Journaled) (bytes payload : List ℕ) (gate : ℕ) → Front j (take gate bytes) → gate < length bytes → ¬ (get_or bytes gate 0 ≡ 0) → (r : HasRecord (drop (gate + 1) bytes)) → r.payload ≡ payload → Front (with_payload j payload) (take (gate + (5 + length payload)) bytes) × (gate + (5 + length payload) < length bytes)
one_more j bytes payload gate front within is_open r same =
    let b = get_or bytes gate 0 in
    let fits : sized.fits payload = subst (λ (l : List ℕ). sized.fits l) same r.fits in
    let is : drop (gate + 1) bytes ≡ sized.bytes payload ++ r.next ∷ r.more = r.is ∙ ap (λ (l : List ℕ). sized.bytes l ++ r.next ∷ r.more) same in
    let whole : bytes ≡ (take gate bytes ++ b ∷ sized.bytes payload) ++ r.next ∷ r.more = split bytes gate within ∙ ap (λ (l : List ℕ). take gate bytes ++ b ∷ l) is ∙ sym (append_assoc (take gate bytes) (b ∷ sized.bytes payload) (r.next ∷ r.more)) in
    let starts : length (take gate bytes) ≡ gate = omega (arith, length-take gate bytes, within) in
    let long : length (take gate bytes ++ b ∷ sized.bytes payload) ≡ gate + (5 + length payload) = omega (arith, starts, length-append (take gate bytes) (b ∷ sized.bytes payload), length-sized payload) in
    let cut : take (gate + (5 + length payload)) bytes ≡ take gate bytes ++ b ∷ sized.bytes payload = ap (take (gate + (5 + length payload))) whole ∙ take_at (take gate bytes ++ b ∷ sized.bytes payload) (r.next ∷ r.more) (gate + (5 + length payload)) long in
    let more = front-append j (take gate bytes) payload b (omega (arith, is_open)) fits front in (
      subst (λ (l : List ℕ). Front (with_payload j payload) l) (sym cut) more,
      omega (arith, ap length whole, long, length-append (take gate bytes ++ b ∷ sized.bytes payload) (r.next ∷ r.more)),
    )

-- the gate is closed
pub closes : (j : Journaled) (bytes : List ℕ) (gate : ℕ) → Front j (take gate bytes) → gate < length bytes → get_or bytes gate 0 ≡ 0 → AreaRepresents j bytes
closes j bytes gate front within closed = record {
  front = take gate bytes;
  behind = drop (gate + 1) bytes;
  is = split bytes gate within ∙ ap (λ (b : ℕ). take gate bytes ++ b ∷ drop (gate + 1) bytes) closed;
  open_front = front;
}

-- it is open, and no record is behind it
pub damages : (j : Journaled) (bytes : List ℕ) (gate : ℕ) → Front j (take gate bytes) → gate < length bytes → ¬ (get_or bytes gate 0 ≡ 0) → ¬ (HasRecord (drop (gate + 1) bytes)) → IsDamaged gate bytes
damages j bytes gate front within is_open none = record {
  before = j;
  front = take gate bytes;
  gate = get_or bytes gate 0;
  behind = drop (gate + 1) bytes;
  is = split bytes gate within;
  open_front = front;
  is_open = omega (arith, is_open);
  at = omega (arith, length-take gate bytes, within);
  no_record = none;
}

-- where the gate is
pub gate_is : (j : Journaled) (bytes : List ℕ) (gate : ℕ) → Front j (take gate bytes) → gate < length bytes → gate ≡ next_gate j
gate_is j bytes gate front within = omega (arith, length-take gate bytes, within, length-front j (take gate bytes) front)

-- ---- parts from the front

-- bytes with a number before them
abbrev pub BeginsSized : List ℕ → Type 0
BeginsSized bytes = (b : List ℕ) × (rest : List ℕ) × sized.fits b × (bytes ≡ sized.bytes b ++ rest)

pub cut_sized : (bytes rest : List ℕ) (n : ℕ) → n < 2 ^ 32 → bytes ≡ u32_bytes n ++ rest → length rest < n → ¬ (BeginsSized bytes)
cut_sized bytes rest n small is short = λ has.
    let both = one_u32 n (length has.0) rest (has.0 ++ has.1) small has.2.0 (sym is ∙ has.3 ∙ append_assoc (u32_bytes (length has.0)) has.0 has.1) in
    omega (arith, both.0, ap length both.1, length-append has.0 has.1, short)

pub whole_sized : (bytes rest : List ℕ) (n : ℕ) → n < 2 ^ 32 → bytes ≡ u32_bytes n ++ rest → n ≤ length rest → sized.fits (take n rest) × (bytes ≡ sized.bytes (take n rest) ++ drop n rest)
whole_sized bytes rest n small is within =
    let long : length (take n rest) ≡ n = omega (arith, length-take n rest, within) in (
      (omega (arith, long, small), refl),
      is ∙ ap (λ (l : List ℕ). u32_bytes n ++ l) (sym (take-append-drop n rest)) ∙ sym (append_assoc (u32_bytes n) (take n rest) (drop n rest)) ∙ ap (λ (k : ℕ). (u32_bytes k ++ take n rest) ++ drop n rest) (sym long),
    )

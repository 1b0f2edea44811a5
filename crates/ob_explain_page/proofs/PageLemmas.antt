-- How a page grows.
use Rattle.std.proofs.Common.{◌≡◌, ◌∙◌, ◌≢◌, ◌<◌, ◌+◌, ◌++◌, ◌∷◌, [], ℕ, List, map, refl, arith, append_assoc, append-nil}
use Rattle.std.proofs.lemmas.List.{length-append, map-append, nil_from_length}
use Rattle.std.proofs.lemmas.List.Elements.{All-nil, All-push}
use Rattle.std.proofs.lemmas.List.Folds.{concat-append}
use Rattle.std.proofs.lemmas.Str.{encodes-append}
use Rattle.std.proofs.Math.Logic.{∥∥₁_map}
use Rattle.std.specs.List.{concat}
use Rattle.std.specs.Str.{encode_utf8_all}
use Rattle.std.specs.Char.{encode_utf8}
use Rattle.ob_explain_page.specs.Pages.{IsLine, ended, HasLines, IsPage, Begins, IsBegun}

-- the bytes of characters and one more
more : (cs : List ℕ) (c : ℕ) → encode_utf8_all (cs ++ c ∷ []) ≡ encode_utf8_all cs ++ encode_utf8 c
more cs c = rw (encodes-append cs (c ∷ [])) (rw (append-nil (encode_utf8 c)) refl)

-- one more line
one_more : (lines : List (List ℕ)) (front : List ℕ) → ended (lines ++ front ∷ []) ≡ (ended lines ++ front) ++ 10 ∷ []
one_more lines front =
    rw (
      map-append (λ (line : List ℕ). line ++ 10 ∷ []) lines (front ∷ []),
      concat-append (map (λ (line : List ℕ). line ++ 10 ∷ []) lines) ((front ++ 10 ∷ []) ∷ []),
      append-nil (front ++ 10 ∷ []),
      append_assoc (ended lines) front (10 ∷ []),
    ) refl

-- nothing stands on a page
pub blank : IsBegun [] 0 0
blank = ∣ record {
  lines = [];
  front = [];
  text = refl;
  each = All-nil IsLine;
  begun = record { short = omega arith; single = All-nil (λ (c : ℕ). c ≢ 10) };
  counted = refl;
  filled = refl;
  few = omega arith;
} ∣₁

-- a character is put
pub with_sign : (bytes : List ℕ) (count column sign : ℕ) → IsBegun bytes count column → sign ≢ 10 → count < 20 → column < 200
    → IsBegun (bytes ++ encode_utf8 sign) count (column + 1)
with_sign bytes count column sign page other room short = ∥∥₁_map page (λ p. record {
  lines = p.lines;
  front = p.front ++ sign ∷ [];
  text = rw (p.text, ← append_assoc (ended p.lines) p.front (sign ∷ []), more (ended p.lines ++ p.front) sign) refl;
  each = p.each;
  begun = record {
    short = rw (length-append p.front (sign ∷ []), p.filled) (omega arith);
    single = All-push (λ (c : ℕ). c ≢ 10) p.front sign p.begun.single other;
  };
  counted = p.counted;
  filled = rw (length-append p.front (sign ∷ []), p.filled) refl;
  few = p.few;
})

-- the line is ended
pub with_end : (bytes : List ℕ) (count column : ℕ) → IsBegun bytes count column → count < 20 → IsBegun (bytes ++ encode_utf8 10) (count + 1) 0
with_end bytes count column page room = ∥∥₁_map page (λ p. record {
  lines = p.lines ++ p.front ∷ [];
  front = [];
  text = rw (p.text, append-nil (ended (p.lines ++ p.front ∷ [])), one_more p.lines p.front, more (ended p.lines ++ p.front) 10) refl;
  each = All-push IsLine p.lines p.front p.each p.begun;
  begun = record { short = omega arith; single = All-nil (λ (c : ℕ). c ≢ 10) };
  counted = rw (length-append p.lines (p.front ∷ []), p.counted) refl;
  filled = refl;
  few = omega arith;
})

-- a page whose last line is ended
pub whole : (bytes : List ℕ) (count column : ℕ) → IsBegun bytes count column → column ≡ 0 → IsPage bytes
whole bytes count column page none = ∥∥₁_map page (λ p. record {
  lines = p.lines;
  text = rw (p.text, nil_from_length p.front (p.filled ∙ none), append-nil (ended p.lines)) refl;
  each = p.each;
  few = rw p.counted p.few;
})

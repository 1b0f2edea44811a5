-- The lines of a text, line by line from its front.
use Rattle.std.proofs.Common.{◌≡◌, ℕ, ◌<◌, ◌==◌, Bool, true, false, ◌||◌, List, [], ◌∷◌, ◌++◌, length, refl, sym, ◌∙◌, ap, arith, append_assoc}
use Rattle.std.proofs.lemmas.List.{append-nil}
use Rattle.ob_io.specs.Lines.{has_newline, IsLine}
use Rattle.ob_io.specs.LinesOfText.{lines_of, whole_lines, IsSplit}

or_false : (a b : Bool) → (a || b) ≡ false → (a ≡ false) × (b ≡ false)
or_false false b h = (refl, h)
or_false true b h = absurd (cc)

pub lines_line : (line rest : List ℕ) → has_newline line ≡ false → lines_of (line ++ 10 ∷ rest) ≡ line ∷ lines_of rest
lines_line [] rest none = refl
lines_line (b ∷ line) rest none =
    let h = or_false (b == 10) (has_newline line) none in
    rw (h.0, lines_line line rest h.1) refl

pub lines_last : (line : List ℕ) → has_newline line ≡ false → 0 < length line → lines_of line ≡ line ∷ []
lines_last [] none some = absurd (omega arith)
lines_last (b ∷ []) none some = let h = or_false (b == 10) false none in rw h.0 refl
lines_last (b ∷ c ∷ line) none some =
    let h = or_false (b == 10) (has_newline (c ∷ line)) none in
    rw (h.0, lines_last (c ∷ line) h.1 (omega arith)) refl

pub whole_line : (line rest : List ℕ) → has_newline line ≡ false → whole_lines (line ++ 10 ∷ rest) ≡ line ∷ whole_lines rest
whole_line [] rest none = refl
whole_line (b ∷ line) rest none =
    let h = or_false (b == 10) (has_newline line) none in
    rw (h.0, whole_line line rest h.1) refl

pub whole_part : (part : List ℕ) → has_newline part ≡ false → whole_lines part ≡ []
whole_part [] none = refl
whole_part (b ∷ part) none =
    let h = or_false (b == 10) (has_newline part) none in
    rw (h.0, whole_part part h.1) refl

pub split_none : IsSplit false [] []
split_none = λ more. (refl, refl)

-- one line more
pub split_more : (ended : Bool) (bytes line new : List ℕ) (lines : List (List ℕ)) → IsSplit false bytes lines → has_newline line ≡ false → IsLine ended line new → IsSplit ended (bytes ++ new) (lines ++ line ∷ [])
split_more false bytes line new lines split none is = λ more.
    let whole : (bytes ++ new) ++ more ≡ bytes ++ (line ++ 10 ∷ more) = rw is (simp append_assoc) in (
      ap lines_of whole ∙ (split (line ++ 10 ∷ more)).0 ∙ ap (λ (ls : List (List ℕ)). lines ++ ls) (lines_line line more none) ∙ sym (append_assoc lines (line ∷ []) (lines_of more)),
      ap whole_lines whole ∙ (split (line ++ 10 ∷ more)).1 ∙ ap (λ (ls : List (List ℕ)). lines ++ ls) (whole_line line more none) ∙ sym (append_assoc lines (line ∷ []) (whole_lines more)),
    )
split_more true bytes line new lines split none is =
    ap (λ (l : List ℕ). lines_of (bytes ++ l)) is.0 ∙ (split line).0 ∙ ap (λ (ls : List (List ℕ)). lines ++ ls) (lines_last line none is.1)

-- what is split is the lines, if nothing follows
pub split_end : (ended : Bool) (bytes : List ℕ) (lines : List (List ℕ)) → IsSplit ended bytes lines → lines_of bytes ≡ lines
split_end true bytes lines split = split
split_end false bytes lines split = ap lines_of (sym (append-nil bytes)) ∙ (split []).0 ∙ append-nil lines

-- a part of a line is no whole line
pub split_part : (bytes part : List ℕ) (lines : List (List ℕ)) → IsSplit false bytes lines → has_newline part ≡ false → whole_lines (bytes ++ part) ≡ lines
split_part bytes part lines split none = (split part).1 ∙ ap (λ (ls : List (List ℕ)). lines ++ ls) (whole_part part none) ∙ append-nil lines

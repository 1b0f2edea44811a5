-- Escapes, byte by byte and character by character.
use Rattle.std.proofs.Common.{◌≡◌, ◌≢◌, ℕ, ◌+◌, ◌<◌, suc, List, [], ◌∷◌, ◌++◌, length, get_or, refl, sym, ap, ◌∙◌, append_assoc, append-nil, arith}
use Rattle.std.specs.List.{flat_map}
use Rattle.std.specs.Char.{encode_utf8}
use Rattle.std.specs.Str.{IsUtf8}
use Rattle.std.proofs.lemmas.Str.{inside_one}
use Rattle.std.proofs.lemmas.Bool.Decides.{nat_tests}
use Rattle.ob_tree_print.specs.Layout.{escape_of}

plain : (b : ℕ) → b ≢ 34 → b ≢ 92 → b ≢ 10 → b ≢ 9 → escape_of b ≡ b ∷ []
plain b quote backslash newline tab = grind (arith, nat_tests)

all_plain : (bs : List ℕ) → ((k : ℕ) → k < length bs → escape_of (get_or bs k 0) ≡ get_or bs k 0 ∷ []) → flat_map escape_of bs ≡ bs
all_plain [] each = refl
all_plain (b ∷ bs) each =
    let here : escape_of b ≡ b ∷ [] = each 0 (omega arith) in
    let after : flat_map escape_of bs ≡ bs = all_plain bs (λ k within. each (suc k) (omega arith)) in
    ap (λ front. front ++ flat_map escape_of bs) here ∙ ap (λ more. b ∷ more) after

differs : (c k n : ℕ) → n < 128 → c ≢ n → k < length (encode_utf8 c) → get_or (encode_utf8 c) k 0 ≢ n
differs c k n small other within is = other (inside_one c [] (encode_utf8 c) k (sym (append-nil (encode_utf8 c))) within (omega arith) ∙ is)

-- a character that needs no escape is spelled by bytes that need none
pub escaped_plain : (c : ℕ) → c ≢ 34 → c ≢ 92 → c ≢ 10 → c ≢ 9 → flat_map escape_of (encode_utf8 c) ≡ encode_utf8 c
escaped_plain c quote backslash newline tab =
    all_plain (encode_utf8 c) (λ k within. plain _ (differs c k 34 (omega arith) quote within) (differs c k 92 (omega arith) backslash within) (differs c k 10 (omega arith) newline within) (differs c k 9 (omega arith) tab within))

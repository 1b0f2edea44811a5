-- What a name, a label and a text are (the Obsidian language documentation, "Identifiers"; the limits are this
-- project's own).
use Rattle.std.specs.Prelude.{ℕ, Bool, false, ◌==◌, ◌&&◌, ◌||◌, nat_le, List, [], ◌∷◌, length}
use Rattle.std.specs.List.{list_all}
use Rattle.std.specs.Str.{is_utf8}
use Rattle.ob_base.specs.Limits.{longest_name, longest_string}

-- an ASCII letter, or `_`
abbrev pub is_letter : ℕ → Bool
is_letter b = (nat_le 97 b && nat_le b 122) || (nat_le 65 b && nat_le b 90) || b == 95

-- an ASCII digit
abbrev pub is_digit : ℕ → Bool
is_digit b = nat_le 48 b && nat_le b 57

-- what a name goes on with
abbrev pub is_letter_or_digit : ℕ → Bool
is_letter_or_digit b = is_letter b || is_digit b

-- whether the first byte is a letter
abbrev pub begins_with_letter : List ℕ → Bool
begins_with_letter [] = false
begins_with_letter (b ∷ bytes) = is_letter b

-- a letter and then letters and digits
abbrev pub is_word : List ℕ → Bool
is_word bytes = begins_with_letter bytes && list_all is_letter_or_digit bytes

-- a word of at most `longest_name` bytes
abbrev pub is_name : List ℕ → Bool
is_name bytes = nat_le (length bytes) longest_name && is_word bytes

-- 1 to `longest_name` bytes of UTF-8
abbrev pub is_label : List ℕ → Bool
is_label bytes = nat_le 1 (length bytes) && nat_le (length bytes) longest_name && is_utf8 bytes

-- at most `longest_string` bytes of UTF-8
abbrev pub is_text : List ℕ → Bool
is_text bytes = nat_le (length bytes) longest_string && is_utf8 bytes

-- The pieces that the canonical layout of tokens is made of: each token, and the blank after it.
use Rattle.std.proofs.Common.{ℕ, ◌≡◌, nat_le, List, [], ◌∷◌, ◌++◌, length, map, IsTrue, refl, ap, ◌∙◌, append_assoc}
use Rattle.std.specs.List.{flat_map}
use Rattle.std.specs.Str.{IsUtf8}
use Rattle.std.proofs.lemmas.Str.{IsUtf8-append, IsUtf8-nil}
use Rattle.std.proofs.lemmas.Bool.{and_parts}
use Rattle.ob_base.specs.Limits.{longest_name}
use Rattle.ob_base.specs.Names.{is_word}
use Rattle.ob_lexer.specs.declared.token.TokenKind.{TokenKind}
use Rattle.ob_lexer.specs.declared.token.TokenKind.TheVariants as kind
use Rattle.ob_lexer.specs.declared.token.Sign.{Sign}
use Rattle.ob_lexer.specs.declared.token.Sign.TheVariants as sign
use Rattle.ob_lexer.specs.Spelling.{spelling_of_word, spelling_of_sign, is_digits, IsSpelling}
use Rattle.ob_lexer.specs.Lexis.{IsLongest, IsBlank, space, token, Piece, text_of, ArePieces, tokens_of}
use Rattle.ob_lexer.proofs.Reserved.{word_is_word}
use Rattle.ob_lexer.proofs.FirstBytes.{class-letter, class-digit, word_first, digits_first}
use Rattle.ob_lexer.proofs.Longest.{blank_longest, word_longest, digits_longest, pair_longest, single_longest}
use Rattle.ob_lexer.proofs.Pieces.{slash_step_at}
use Rattle.ob_lexer.proofs.StringSteps.{string_longest}
use Rattle.ob_tree_print.specs.Layout.{escape_of, spelling_of, gap_of_sign, gap_after, laid_out, layout}
use Rattle.ob_tree_print_laws.proofs.LayoutSpelling.{escapes_stand, low_utf8}

-- ---- the blank after a token

-- a space or a newline
data IsGap (gap : ℕ) : Type 0 where
  a_space : gap ≡ 32 → IsGap gap
  a_newline : gap ≡ 10 → IsGap gap

gap_of_sign-is : (s : Sign) → IsGap (gap_of_sign s)
gap_of_sign-is sign.Semicolon = a_newline refl
gap_of_sign-is sign.OpenBrace = a_newline refl
gap_of_sign-is sign.CloseBrace = a_newline refl
gap_of_sign-is _ = a_space refl

gap-is : (k : TokenKind) → IsGap (gap_after k)
gap-is (kind.Sign s) = gap_of_sign-is s
gap-is _ = a_space refl

gap_blank : (gap : ℕ) → IsGap gap → IsBlank (gap ∷ [])
gap_blank gap (a_space is) = record { byte = gap; one = refl; blank = rw is refl }
gap_blank gap (a_newline is) = record { byte = gap; one = refl; blank = rw is refl }

gap_utf8 : (gap : ℕ) → IsGap gap → IsUtf8 (gap ∷ [])
gap_utf8 gap (a_space is) = low_utf8 (gap ∷ []) (rw is refl)
gap_utf8 gap (a_newline is) = low_utf8 (gap ∷ []) (rw is refl)

gap_longest : (gap : ℕ) (rest : List ℕ) → IsGap gap → IsLongest (gap ∷ []) rest
gap_longest gap rest (a_space is) = blank_longest gap rest (rw is refl)
gap_longest gap rest (a_newline is) = blank_longest gap rest (rw is refl)

-- ---- with it each token is the longest at its place

word_ends : (bytes rest : List ℕ) → IsTrue (is_word bytes) → IsLongest bytes (32 ∷ rest)
word_ends [] rest is = absurd cc
word_ends (b ∷ bytes) rest is = word_longest b bytes (32 ∷ rest) (class-letter b (word_first b bytes is)) refl

digits_end : (bytes rest : List ℕ) → IsTrue (is_digits bytes) → IsLongest bytes (32 ∷ rest)
digits_end [] rest is = absurd cc
digits_end (b ∷ bytes) rest is = digits_longest b bytes (32 ∷ rest) (class-digit b (digits_first b bytes is)) refl

slash_ends : (rest : List ℕ) → IsLongest (47 ∷ []) (32 ∷ rest)
slash_ends rest = (slash_step_at (32 ∷ rest)).longest

sign_ends : (s : Sign) (rest : List ℕ) → IsLongest (spelling_of_sign s) (gap_of_sign s ∷ rest)
sign_ends sign.Slash rest = slash_ends rest
sign_ends sign.DoubleColon rest = pair_longest 58 58 (32 ∷ rest) refl
sign_ends sign.Arrow rest = pair_longest 45 62 (32 ∷ rest) refl
sign_ends sign.DoubleGreater rest = pair_longest 62 62 (32 ∷ rest) refl
sign_ends sign.DoubleEquals rest = pair_longest 61 61 (32 ∷ rest) refl
sign_ends sign.NotEquals rest = pair_longest 33 61 (32 ∷ rest) refl
sign_ends sign.LessEquals rest = pair_longest 60 61 (32 ∷ rest) refl
sign_ends sign.GreaterEquals rest = pair_longest 62 61 (32 ∷ rest) refl
sign_ends sign.DoubleAmpersand rest = pair_longest 38 38 (32 ∷ rest) refl
sign_ends sign.DoubleBar rest = pair_longest 124 124 (32 ∷ rest) refl
sign_ends sign.OpenBrace rest = single_longest 123 (10 ∷ rest) refl refl
sign_ends sign.CloseBrace rest = single_longest 125 (10 ∷ rest) refl refl
sign_ends sign.Semicolon rest = single_longest 59 (10 ∷ rest) refl refl
sign_ends sign.OpenParen rest = single_longest 40 (32 ∷ rest) refl refl
sign_ends sign.CloseParen rest = single_longest 41 (32 ∷ rest) refl refl
sign_ends sign.OpenBracket rest = single_longest 91 (32 ∷ rest) refl refl
sign_ends sign.CloseBracket rest = single_longest 93 (32 ∷ rest) refl refl
sign_ends sign.Comma rest = single_longest 44 (32 ∷ rest) refl refl
sign_ends sign.Dot rest = single_longest 46 (32 ∷ rest) refl refl
sign_ends sign.At rest = single_longest 64 (32 ∷ rest) refl refl
sign_ends sign.Bar rest = single_longest 124 (32 ∷ rest) refl refl
sign_ends sign.Equals rest = single_longest 61 (32 ∷ rest) refl refl
sign_ends sign.Less rest = single_longest 60 (32 ∷ rest) refl refl
sign_ends sign.Greater rest = single_longest 62 (32 ∷ rest) refl refl
sign_ends sign.Plus rest = single_longest 43 (32 ∷ rest) refl refl
sign_ends sign.Minus rest = single_longest 45 (32 ∷ rest) refl refl
sign_ends sign.Star rest = single_longest 42 (32 ∷ rest) refl refl
sign_ends sign.Percent rest = single_longest 37 (32 ∷ rest) refl refl
sign_ends sign.Not rest = single_longest 33 (32 ∷ rest) refl refl

token_ends : (k : TokenKind) (rest : List ℕ) → IsSpelling k (spelling_of k) → IsLongest (spelling_of k) (gap_after k ∷ rest)
token_ends (kind.Name name) rest is = word_ends name rest (and_parts (nat_le (length name) longest_name) (is_word name) is.1).1
token_ends (kind.Number number) rest is = digits_end (spelling_of (kind.Number number)) rest is.0
token_ends (kind.Text text) rest is = string_longest (flat_map escape_of text) text (32 ∷ rest) (escapes_stand text)
token_ends (kind.Word w) rest is = word_ends (spelling_of_word w) rest (word_is_word w)
token_ends (kind.Sign s) rest is = sign_ends s rest

-- ---- the pieces

abbrev pub token_piece : TokenKind → Piece
token_piece k = record { element = token k; bytes = spelling_of k }

abbrev pub gap_piece : TokenKind → Piece
gap_piece k = record { element = space; bytes = gap_after k ∷ [] }

abbrev pub pieces_of : List TokenKind → List Piece
pieces_of [] = []
pieces_of (k ∷ ks) = token_piece k ∷ gap_piece k ∷ pieces_of ks

pub layout_pieces : (ks : List TokenKind) → layout ks ≡ text_of (pieces_of ks)
layout_pieces [] = refl
layout_pieces (k ∷ ks) =
    ap (λ (l : List ℕ). laid_out k ++ l) (layout_pieces ks) ∙ append_assoc (spelling_of k) (gap_after k ∷ []) (text_of (pieces_of ks))

-- each token has a canonical spelling
abbrev pub AreSpelled : List TokenKind → Type 0
AreSpelled [] = Unit {0}
AreSpelled (k ∷ ks) = IsSpelling k (spelling_of k) × AreSpelled ks

pub pieces_are : (ks : List TokenKind) → AreSpelled ks → ArePieces (pieces_of ks) []
pieces_are [] are = tt
pieces_are (k ∷ ks) are =
    let gap = gap-is k in
    (are.0, token_ends k (text_of (pieces_of ks) ++ []) are.0, (gap_blank (gap_after k) gap, gap_longest (gap_after k) (text_of (pieces_of ks) ++ []) gap, pieces_are ks are.1))

-- the tokens among them are these again
pub pieces_tokens : (before : List ℕ) (ks : List TokenKind) → map (λ t. t.kind) (tokens_of before (pieces_of ks)) ≡ ks
pieces_tokens before [] = refl
pieces_tokens before (k ∷ ks) = ap (λ (l : List TokenKind). k ∷ l) (pieces_tokens ((before ++ spelling_of k) ++ gap_after k ∷ []) ks)

-- each spelling is UTF-8
abbrev pub AreUtf8 : List TokenKind → Type 0
AreUtf8 [] = Unit {0}
AreUtf8 (k ∷ ks) = IsUtf8 (spelling_of k) × AreUtf8 ks

pub layout_utf8 : (ks : List TokenKind) → AreUtf8 ks → IsUtf8 (layout ks)
layout_utf8 [] are = IsUtf8-nil
layout_utf8 (k ∷ ks) are =
    IsUtf8-append (laid_out k) (layout ks) (IsUtf8-append (spelling_of k) (gap_after k ∷ []) are.0 (gap_utf8 (gap_after k) (gap-is k))) (layout_utf8 ks are.1)

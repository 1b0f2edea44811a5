-- The canonical layout of tokens that some bytes spell is lexed to these tokens.
use Rattle.std.proofs.Common.{ℕ, ◌≡◌, ◌≤◌, nat_le, true, List, [], ◌∷◌, ◌++◌, length, map, refl, sym, ap, subst, ◌∙◌, append_assoc}
use Rattle.std.specs.Str.{IsUtf8, is_utf8}
use Rattle.std.proofs.lemmas.Bool.{and_parts}
use Rattle.std.proofs.lemmas.List.{map-append}
use Rattle.std.proofs.lemmas.Str.{IsUtf8-from_is_utf8}
use Rattle.ob_base.specs.Limits.{longest_string, longest_program}
use Rattle.ob_base.specs.Names.{is_text}
use Rattle.ob_lexer.specs.declared.token.Token.{Token}
use Rattle.ob_lexer.specs.declared.token.TokenKind.{TokenKind}
use Rattle.ob_lexer.specs.declared.token.TokenKind.TheVariants as kind
use Rattle.ob_lexer.specs.declared.token.Word.{Word}
use Rattle.ob_lexer.specs.declared.token.Sign.{Sign}
use Rattle.ob_lexer.specs.declared.lexer.Lexed.{Lexed}
use Rattle.ob_lexer.specs.Spelling.{spelling_of_word, spelling_of_sign, IsString, IsSpelling}
use Rattle.ob_lexer.specs.Spans.{span_of}
use Rattle.ob_lexer.specs.Lexis.{Element, space, comment, token, IsElement, Piece, text_of, ArePieces, token_in, tokens_of, HasTokens}
use Rattle.ob_lexer.proofs.StringTexts.{after_quote, content_is_text}
use Rattle.ob_tree_print.specs.Layout.{layout}
use Rattle.ob_tree_print_laws.proofs.LayoutSpelling.{HasUtf8, spelled_again, spelling_utf8}
use Rattle.ob_tree_print_laws.proofs.LayoutPieces.{pieces_of, layout_pieces, AreSpelled, pieces_are, pieces_tokens, AreUtf8, layout_utf8}

-- a kind of token that some bytes spell
pub record Spellable (k : TokenKind) : Type 0 where
  pub bytes : List ℕ
  pub spelled : IsSpelling k bytes
  pub utf8 : HasUtf8 k

-- each kind is one
abbrev pub AllSpellable : List TokenKind → Type 0
AllSpellable [] = Unit {0}
AllSpellable (k ∷ ks) = Spellable k × AllSpellable ks

-- the kinds of tokens
abbrev pub kinds : List Token → List TokenKind
kinds tokens = map (λ t. t.kind) tokens

pub words_spellable : (w : Word) → Spellable (kind.Word w)
words_spellable w = record { bytes = spelling_of_word w; spelled = refl; utf8 = tt }

pub signs_spellable : (s : Sign) → Spellable (kind.Sign s)
signs_spellable s = record { bytes = spelling_of_sign s; spelled = refl; utf8 = tt }

pub both_spellable : (ks more : List TokenKind) → AllSpellable ks → AllSpellable more → AllSpellable (ks ++ more)
both_spellable [] more all others = others
both_spellable (k ∷ ks) more all others = (all.0, both_spellable ks more all.1 others)

pub first_spellable : (ks more : List TokenKind) → AllSpellable (ks ++ more) → AllSpellable ks
first_spellable [] more all = tt
first_spellable (k ∷ ks) more all = (all.0, first_spellable ks more all.1)

pub others_spellable : (ks more : List TokenKind) → AllSpellable (ks ++ more) → AllSpellable more
others_spellable [] more all = all
others_spellable (k ∷ ks) more all = others_spellable ks more all.1

-- ---- each token of a text is one

-- the content of a string in a text is UTF-8
string_utf8 : (before bytes rest content : List ℕ) → IsUtf8 (before ++ (bytes ++ rest)) → IsString bytes content → length content ≤ longest_string → IsUtf8 content
string_utf8 before bytes rest content utf8 is short =
    let whole : bytes ++ rest ≡ 34 ∷ (is.inside ++ 34 ∷ rest) = ap (λ (l : List ℕ). l ++ rest) is.quoted ∙ ap (λ (l : List ℕ). 34 ∷ l) (append_assoc is.inside (34 ∷ []) rest) in
    let after : IsUtf8 (is.inside ++ 34 ∷ rest) = after_quote before (is.inside ++ 34 ∷ rest) (subst (λ (l : List ℕ). IsUtf8 (before ++ l)) whole utf8) in
    let text : is_text content ≡ true = content_is_text is.inside content rest after is.stands short in
    IsUtf8-from_is_utf8 content (and_parts (nat_le (length content) longest_string) (is_utf8 content) text).1

piece_utf8 : (k : TokenKind) (before bytes rest : List ℕ) → IsUtf8 (before ++ (bytes ++ rest)) → IsSpelling k bytes → HasUtf8 k
piece_utf8 (kind.Text text) before bytes rest utf8 is = string_utf8 before bytes rest text utf8 is.0 is.1
piece_utf8 (kind.Name name) before bytes rest utf8 is = tt
piece_utf8 (kind.Number number) before bytes rest utf8 is = tt
piece_utf8 (kind.Word w) before bytes rest utf8 is = tt
piece_utf8 (kind.Sign s) before bytes rest utf8 is = tt

element_spellable : (e : Element) (before bytes rest : List ℕ) → IsUtf8 (before ++ (bytes ++ rest)) → IsElement e bytes → AllSpellable (kinds (token_in before e bytes))
element_spellable space before bytes rest utf8 is = tt
element_spellable comment before bytes rest utf8 is = tt
element_spellable (token k) before bytes rest utf8 is = (record { bytes = bytes; spelled = is; utf8 = piece_utf8 k before bytes rest utf8 is }, tt)

pieces_spellable : (before : List ℕ) (pieces : List Piece) → IsUtf8 (before ++ text_of pieces) → ArePieces pieces [] → AllSpellable (kinds (tokens_of before pieces))
pieces_spellable before [] utf8 are = tt
pieces_spellable before (p ∷ pieces) utf8 are =
    let here = token_in before p.element p.bytes in
    let after = tokens_of (before ++ p.bytes) pieces in
    let first : AllSpellable (kinds here) = element_spellable p.element before p.bytes (text_of pieces) utf8 are.0 in
    let others : AllSpellable (kinds after) = pieces_spellable (before ++ p.bytes) pieces (subst IsUtf8 (sym (append_assoc before p.bytes (text_of pieces))) utf8) are.2 in
    subst AllSpellable (sym (map-append (λ t. t.kind) here after)) (both_spellable (kinds here) (kinds after) first others)

pub tokens_spellable : (text : List ℕ) (lexed : Lexed) → HasTokens text lexed → AllSpellable (map (λ t. t.kind) lexed.tokens)
tokens_spellable text lexed has =
    let all : AllSpellable (kinds (tokens_of [] has.pieces)) = pieces_spellable [] has.pieces (subst IsUtf8 has.whole has.utf8) has.spelled in
    subst (λ (ts : List Token). AllSpellable (kinds ts)) (sym has.tokens) all

-- ---- the layout of such kinds

all_spelled : (ks : List TokenKind) → AllSpellable ks → AreSpelled ks
all_spelled [] all = tt
all_spelled (k ∷ ks) all = (spelled_again k all.0.bytes all.0.spelled, all_spelled ks all.1)

all_utf8 : (ks : List TokenKind) → AllSpellable ks → AreUtf8 ks
all_utf8 [] all = tt
all_utf8 (k ∷ ks) all = (spelling_utf8 k all.0.bytes all.0.spelled all.0.utf8, all_utf8 ks all.1)

-- what the layout of these kinds is lexed to
abbrev pub lexed_of : List TokenKind → Lexed
lexed_of ks = record { tokens = tokens_of [] (pieces_of ks); end = span_of (layout ks) [] }

pub layout_has : (ks : List TokenKind) → AllSpellable ks → length (layout ks) ≤ longest_program → HasTokens (layout ks) (lexed_of ks)
layout_has ks all short = record {
  short = short;
  utf8 = layout_utf8 ks (all_utf8 ks all);
  pieces = pieces_of ks;
  whole = layout_pieces ks;
  spelled = pieces_are ks (all_spelled ks all);
  tokens = refl;
  end = refl;
}

pub layout_lexed : (ks : List TokenKind) → AllSpellable ks → length (layout ks) ≤ longest_program → (lexed : Lexed) × HasTokens (layout ks) lexed × (map (λ t. t.kind) lexed.tokens ≡ ks)
layout_lexed ks all short = (lexed_of ks, layout_has ks all short, pieces_tokens [] ks)

-- Rows regrouped, and rows of one token: what is read of signs, words and names, and what spells them.
use Rattle.std.proofs.Common.{ℕ, ◌≡◌, List, [], ◌∷◌, ◌++◌, Some, refl, sym, ap, ◌∙◌, append_assoc}
use Rattle.ob_base.specs.declared.fault.Span.{Span}
use Rattle.ob_lexer.specs.declared.token.Token.{Token}
use Rattle.ob_lexer.specs.declared.token.TokenKind.{TokenKind}
use Rattle.ob_lexer.specs.declared.token.TokenKind.TheVariants as kind
use Rattle.ob_lexer.specs.declared.token.Word.{Word}
use Rattle.ob_lexer.specs.declared.token.Sign.{Sign}
use Rattle.ob_tree.specs.declared.name.NamePart.{NamePart}
use Rattle.ob_parser_spec.specs.Rows.{Row, Loaded, ◌⨟◌, loaded, name}
use Rattle.ob_parser_spec.specs.Symbols.{a_name, a_word, a_sign, symbol_of, number}
use Rattle.ob_parser_spec.specs.Readers.{span_if, name_of, name_if}
use Rattle.ob_parser_spec.proofs.One.{token_of, somewhere, free, took, Takes}
use Rattle.ob_parser_spec.proofs.Opened.{loaded_at, took_at}
use Rattle.ob_parser_spec.proofs.Symbols.{symbol_is, is_symbol, span_of, placed_if}

-- ---- rows regrouped

module _ {p q r : Row} {read : List Loaded} where
  pub grouped : ((p ⨟ q) ⨟ r) read → (p ⨟ (q ⨟ r)) read
  grouped is =
      let whole = is.2 ∙ ap (λ f. f ++ is.1) is.3.2 ∙ append_assoc is.3.0 is.3.1 is.1 in
      (is.3.0, is.3.1 ++ is.1, whole, is.3.3, (is.3.1, is.1, refl, is.3.4, is.4))

  pub ungrouped : (p ⨟ (q ⨟ r)) read → ((p ⨟ q) ⨟ r) read
  ungrouped is =
      let whole = is.2 ∙ ap (λ b. is.0 ++ b) is.4.2 ∙ sym (append_assoc is.0 is.4.0 is.4.1) in
      (is.0 ++ is.4.0, is.4.1, whole, (is.0, is.4.0, refl, is.3, is.4.3), is.4.4)

-- ---- signs and words

pub is_sign : (k : TokenKind) (s : Sign) → symbol_of k ≡ a_sign s → k ≡ kind.Sign s
is_sign (kind.Sign u) s e = let same : u ≡ s = cc in ap kind.Sign same
is_sign k s e = absurd cc

pub is_word : (k : TokenKind) (w : Word) → symbol_of k ≡ a_word w → k ≡ kind.Word w
is_word (kind.Word u) w e = let same : u ≡ w = cc in ap kind.Word same
is_word k w e = absurd cc

pub token_is : (t : Token) (k : TokenKind) (span : Span) → t.kind ≡ k → t.span ≡ span → t ≡ token_of k span
token_is t k span e f = ap (λ u. token_of u t.span) e ∙ ap (token_of k) f

pub sign_to : (s : Sign) (load : ℕ) (span : Span) (read : List Loaded) → took_at (span_if (a_sign s)) load span read → loaded (kind.Sign s) span load read
sign_to s load span read is =
    let place = span_of (a_sign s) is.0 span is.1 in
    is.2 ∙ ap (λ t. loaded_at load t ∷ []) (token_is is.0 (kind.Sign s) span (is_sign is.0.kind s place.0) place.1)

pub sign_from : (s : Sign) (load : ℕ) (span : Span) (read : List Loaded) → loaded (kind.Sign s) span load read → took_at (span_if (a_sign s)) load span read
sign_from s load span read is = let t = token_of (kind.Sign s) span in (t, placed_if (a_sign s) t refl, is)

pub word_to : (w : Word) (load : ℕ) (span : Span) (read : List Loaded) → took_at (span_if (a_word w)) load span read → loaded (kind.Word w) span load read
word_to w load span read is =
    let place = span_of (a_word w) is.0 span is.1 in
    is.2 ∙ ap (λ t. loaded_at load t ∷ []) (token_is is.0 (kind.Word w) span (is_word is.0.kind w place.0) place.1)

pub word_from : (w : Word) (load : ℕ) (span : Span) (read : List Loaded) → loaded (kind.Word w) span load read → took_at (span_if (a_word w)) load span read
word_from w load span read is = let t = token_of (kind.Word w) span in (t, placed_if (a_word w) t refl, is)

-- ---- names

name_is : (k : TokenKind) (span : Span) (part : NamePart) → name_of k span ≡ Some part → token_of k span ≡ token_of (kind.Name part.name) part.span
name_is (kind.Name n) span part e =
    let same : record { name = n; span = span } ≡ part = cc in
    ap (λ (p : NamePart). token_of (kind.Name p.name) p.span) same
name_is k span part e = absurd cc

pub name_to : (part : NamePart) (read : List Loaded) → took name_if part read → name part read
name_to part read is = is.2 ∙ ap (λ t. free t ∷ []) (name_is is.0.kind is.0.span part is.1)

pub name_from : (part : NamePart) (read : List Loaded) → name part read → took name_if part read
name_from part read is = (token_of (kind.Name part.name) part.span, refl, is)

some_name : (k : TokenKind) (span : Span) → symbol_of k ≡ a_name → (part : NamePart) × (name_of k span ≡ Some part)
some_name (kind.Name n) span e = (record { name = n; span = span }, refl)
some_name k span e = absurd cc

pub takes_name : Takes name_if (number a_name ∷ [])
takes_name = record {
  of = λ t is. some_name t.kind t.span (symbol_is a_name t is);
  is = λ t part e. is_symbol a_name t (ap (λ (u : Token). symbol_of u.kind) (name_is t.kind t.span part e));
  token = token_of (kind.Name []) somewhere;
  value = record { name = []; span = somewhere };
  one = refl;
}

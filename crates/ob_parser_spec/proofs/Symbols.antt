-- A token's symbol, and the laws of a row of one token of a symbol.
use Rattle.std.proofs.Common.{◌≡◌, ◌==◌, ◌||◌, false, cond, [], ◌∷◌, Some, None, IsTrue, inl, inr, refl, sym, ap, ◌∙◌}
use Rattle.std.specs.Prelude.{slice_get}
use Rattle.std.proofs.lemmas.Bool.{cases_Bool, eqb-true, eq-eqb, or_cases, false≢true}
use Rattle.ob_base.specs.declared.fault.Span.{Span}
use Rattle.ob_lexer.specs.declared.token.Token.{Token}
use Rattle.ob_lexer.specs.declared.token.TokenKind.{TokenKind}
use Rattle.ob_lexer.specs.declared.token.Word.{Word}
use Rattle.ob_lexer.specs.declared.token.Word.TheVariants as word'
use Rattle.ob_lexer.specs.declared.token.Sign.{Sign}
use Rattle.ob_lexer.specs.declared.token.Sign.TheVariants as sign'
use Rattle.ob_parser_spec.specs.Symbols.{Symbol, a_name, a_number, a_text, a_word, a_sign, symbol_of, number_of_word, number_of_sign, number, symbols}
use Rattle.ob_parser_spec.specs.Readers.{is_of, number_of_kind, span_if}
use Rattle.ob_parser_spec.proofs.One.{token_of, somewhere, Takes}

-- (a clause for one word, or one sign, has the next one checked for each of the others)
numbered_word : (w : Word) → slice_get symbols (number_of_word w) ≡ Some (a_word w)
numbered_word word'.Contract = refl
numbered_word w = refl

numbered_sign : (s : Sign) → slice_get symbols (number_of_sign s) ≡ Some (a_sign s)
numbered_sign sign'.OpenBrace = refl
numbered_sign s = refl

numbered : (s : Symbol) → slice_get symbols (number s) ≡ Some s
numbered a_name = refl
numbered a_number = refl
numbered a_text = refl
numbered (a_word w) = numbered_word w
numbered (a_sign s) = numbered_sign s

-- no two symbols have one number
pub same_symbol : (a b : Symbol) → number a ≡ number b → a ≡ b
same_symbol a b e = let some : Some a ≡ Some b = sym (numbered a) ∙ ap (slice_get symbols) e ∙ numbered b in cc

pub symbol_is : (s : Symbol) (t : Token) → IsTrue (is_of (number s ∷ []) t) → symbol_of t.kind ≡ s
symbol_is s t is = elim (or_cases (number_of_kind t.kind == number s) false is) [
  | inl same ↦ same_symbol (symbol_of t.kind) s (eqb-true (number_of_kind t.kind) (number s) same)
  | inr not ↦ absurd (false≢true not)
]

pub is_symbol : (s : Symbol) (t : Token) → symbol_of t.kind ≡ s → IsTrue (is_of (number s ∷ []) t)
is_symbol s t e = ap (λ b. b || false) (eq-eqb (number_of_kind t.kind) (number s) (ap number e))

-- ---- a token of a symbol, of which its place is read

pub span_of : (s : Symbol) (t : Token) (span : Span) → span_if s t ≡ Some span → (symbol_of t.kind ≡ s) × (t.span ≡ span)
span_of s t span e = elim (cases_Bool (is_of (number s ∷ []) t)) [
  | inl is ↦ let some : Some t.span ≡ Some span = rw is at e in (symbol_is s t is, cc)
  | inr isnt ↦ let none : None ≡ Some span = rw isnt at e in absurd cc
]

pub placed_if : (s : Symbol) (t : Token) → symbol_of t.kind ≡ s → span_if s t ≡ Some t.span
placed_if s t e = ap (λ b. cond b (Some t.span) None) (is_symbol s t e)

pub takes_symbol : (k : TokenKind) → Takes (span_if (symbol_of k)) (number (symbol_of k) ∷ [])
takes_symbol k = record {
  of = λ t is. (t.span, placed_if (symbol_of k) t (symbol_is (symbol_of k) t is));
  is = λ t span e. is_symbol (symbol_of k) t (span_of (symbol_of k) t span e).0;
  token = token_of k somewhere;
  value = somewhere;
  one = placed_if (symbol_of k) (token_of k somewhere) refl;
}

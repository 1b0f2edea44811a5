-- The pieces of a text, one after the other.
use Rattle.std.proofs.Common.{ℕ, ◌≡◌, ◌+◌, ◌≤◌, List, [], ◌∷◌, ◌++◌, length, take, drop, fold, refl, sym, ap, subst, ◌∙◌, arith, append_assoc, append-nil, length-append, length-drop, take-append-drop}
use Rattle.std.specs.Str.{IsUtf8, IsValidUpTo}
use Rattle.std.proofs.lemmas.List.{length-take-le}
use Rattle.std.proofs.lemmas.Grind.{flat_map-append}
use Rattle.ob_base.specs.Limits.{longest_program}
use Rattle.ob_base.specs.Faults as faults
use Rattle.ob_base.specs.declared.fault.ProgramFault.{ProgramFault}
use Rattle.ob_lexer.specs.declared.token.Token.{Token}
use Rattle.ob_lexer.specs.declared.position.Position.{Position}
use Rattle.ob_lexer.specs.declared.lexer.Lexed.{Lexed}
use Rattle.ob_base.specs.declared.text_error.TextError.{TextError}
use Rattle.ob_base.specs.declared.text_error.TextError.TheVariants.{Fault, Memory}
use Rattle.ob_base.specs.TextErrors.{OnFault}
use Rattle.ob_lexer.specs.Lexis.{Element, space, comment, token, IsElement, IsLongest, Piece, text_of, ArePieces, token_in, tokens_of, HasTokens}
use Rattle.ob_lexer.specs.Flaws.{IsFlawed, HasFault, no_utf8, flawed}
use Rattle.ob_lexer.specs.Lexing.{past, position_after}
use Rattle.ob_lexer.specs.Reading.{IsUtf8AfterQuote, span_at, fault_after, token_at, TakesUp, BeginsWith}
use Rattle.ob_lexer.proofs.PlaceLemmas.{fold-past, line_within, column_within}
use Rattle.ob_lexer.proofs.StringTexts.{after_quote}

-- ---- a piece more

text_of-more : (pieces : List Piece) (p : Piece) → text_of (pieces ++ p ∷ []) ≡ text_of pieces ++ p.bytes
text_of-more pieces p = flat_map-append (λ q. q.bytes) pieces (p ∷ []) ∙ ap (λ (l : List ℕ). text_of pieces ++ l) (append-nil p.bytes)

pieces_more : (pieces : List Piece) (p : Piece) (rest : List ℕ) → ArePieces pieces (p.bytes ++ rest) → IsElement p.element p.bytes → IsLongest p.bytes rest → ArePieces (pieces ++ p ∷ []) rest
pieces_more [] p rest are is longest = (is, longest, tt)
pieces_more (q ∷ pieces) p rest are is longest =
    let same : text_of pieces ++ (p.bytes ++ rest) ≡ text_of (pieces ++ p ∷ []) ++ rest = sym (append_assoc (text_of pieces) p.bytes rest) ∙ ap (λ (l : List ℕ). l ++ rest) (sym (text_of-more pieces p)) in
    (are.0, subst (IsLongest q.bytes) same are.1, pieces_more pieces p rest are.2 is longest)

tokens_of-more : (before : List ℕ) (pieces : List Piece) (p : Piece) → tokens_of before (pieces ++ p ∷ []) ≡ tokens_of before pieces ++ token_in (before ++ text_of pieces) p.element p.bytes
tokens_of-more before [] p =
    append-nil (token_in before p.element p.bytes) ∙ ap (λ (l : List ℕ). token_in l p.element p.bytes) (sym (append-nil before))
tokens_of-more before (q ∷ pieces) p =
    ap (λ (l : List Token). token_in before q.element q.bytes ++ l) (tokens_of-more (before ++ q.bytes) pieces p)
    ∙ sym (append_assoc (token_in before q.element q.bytes) (tokens_of (before ++ q.bytes) pieces) (token_in ((before ++ q.bytes) ++ text_of pieces) p.element p.bytes))
    ∙ ap (λ (l : List ℕ). (token_in before q.element q.bytes ++ tokens_of (before ++ q.bytes) pieces) ++ token_in l p.element p.bytes) (append_assoc before q.bytes (text_of pieces))

token_at-position : (before : List ℕ) (e : Element) (bytes : List ℕ) (count : ℕ) → length bytes ≡ count → token_at (position_after before) e count ≡ token_in before e bytes
token_at-position before space bytes count same = refl
token_at-position before comment bytes count same = refl
token_at-position before (token kind) bytes count same =
    ap (λ (n : ℕ). record { kind = kind; span = span_at (position_after before) n } ∷ []) (sym same)

-- ---- what was read so far

-- The text is pieces and then the rest, these are the tokens among them, and this is the position after them.
pub record IsProgress (text : List ℕ) (position : Position) (rest : List ℕ) (tokens : List Token) : Type 0 where
  pub pieces : List Piece
  pub whole : text ≡ text_of pieces ++ rest
  pub are : ArePieces pieces rest
  pub tokens_are : tokens ≡ tokens_of [] pieces
  pub place_is : position ≡ position_after (text_of pieces)

pub starts : (text : List ℕ) → IsProgress text (position_after []) text []
starts text = record { pieces = []; whole = refl; are = tt; tokens_are = refl; place_is = refl }

-- The room at a position.
pub record HasRoom (text : List ℕ) (position : Position) (rest : List ℕ) : Type 0 where
  pub offset : position.offset + length rest ≡ length text
  pub line : position.line ≤ position.offset + 1
  pub column : position.column ≤ position.offset + 1

room_at : (before rest : List ℕ) → HasRoom (before ++ rest) (position_after before) rest
room_at before rest = record {
  offset = sym (length-append before rest);
  line = line_within before;
  column = column_within before;
}

pub has_room : (text : List ℕ) (position : Position) (rest : List ℕ) (tokens : List Token) → IsProgress text position rest tokens → HasRoom text position rest
has_room text position rest tokens p = rw (p.whole, p.place_is) (room_at (text_of p.pieces) rest)

pub utf8_rest : (before rest : List ℕ) → IsUtf8 (before ++ rest) → IsUtf8AfterQuote rest
utf8_rest before [] utf8 = tt
utf8_rest before (b ∷ rest) utf8 = λ is. after_quote before rest (subst (λ (x : ℕ). IsUtf8 (before ++ x ∷ rest)) is utf8)

pub utf8_so_far : (text : List ℕ) (position : Position) (rest : List ℕ) (tokens : List Token) → IsUtf8 text → IsProgress text position rest tokens → IsUtf8AfterQuote rest
utf8_so_far text position rest tokens utf8 p = utf8_rest (text_of p.pieces) rest (subst IsUtf8 p.whole utf8)

pub steps : (text : List ℕ) (position : Position) (rest : List ℕ) (tokens new : List Token) (count : ℕ) → IsProgress text position rest tokens → TakesUp position rest tokens new count
    → IsProgress text (fold past position (take count rest)) (drop count rest) new
steps text position rest tokens new count p t =
    let bytes = take count rest in
    let piece : Piece = record { element = t.element; bytes = bytes } in
    let split : rest ≡ bytes ++ drop count rest = sym (take-append-drop count rest) in
    let many : length bytes ≡ count = length-take-le count rest t.piece.within in
    record {
      pieces = p.pieces ++ piece ∷ [];
      whole = p.whole ∙ ap (λ (l : List ℕ). text_of p.pieces ++ l) split ∙ sym (append_assoc (text_of p.pieces) bytes (drop count rest)) ∙ ap (λ (l : List ℕ). l ++ drop count rest) (sym (text_of-more p.pieces piece));
      are = pieces_more p.pieces piece (drop count rest) (subst (ArePieces p.pieces) split p.are) t.piece.is t.piece.longest;
      tokens_are =
          t.added ∙ ap (λ (l : List Token). l ++ token_at position t.element count) p.tokens_are ∙ ap (λ (q : Position). tokens_of [] p.pieces ++ token_at q t.element count) p.place_is
          ∙ ap (λ (l : List Token). tokens_of [] p.pieces ++ l) (token_at-position (text_of p.pieces) t.element bytes count many) ∙ sym (tokens_of-more [] p.pieces piece);
      place_is = ap (λ (q : Position). fold past q bytes) p.place_is ∙ fold-past (text_of p.pieces) bytes ∙ ap position_after (sym (text_of-more p.pieces piece));
    }

pub shrinks : (position : Position) (rest : List ℕ) (old new : List Token) (count : ℕ) → TakesUp position rest old new count → length rest ≡ count + length (drop count rest)
shrinks position rest old new count t =
    omega (arith, ap length (take-append-drop count rest), length-append (take count rest) (drop count rest), length-take-le count rest t.piece.within)

pub ends : (text : List ℕ) (position : Position) (rest : List ℕ) (lexed : Lexed) → length text ≤ longest_program → IsUtf8 text → IsProgress text position rest lexed.tokens → rest ≡ [] → lexed.end ≡ span_at position 0 → HasTokens text lexed
ends text position rest lexed short utf8 p none end =
    let whole : text ≡ text_of p.pieces = p.whole ∙ ap (λ (l : List ℕ). text_of p.pieces ++ l) none ∙ append-nil (text_of p.pieces) in
    record {
      short = short;
      utf8 = utf8;
      pieces = p.pieces;
      whole = whole;
      spelled = subst (ArePieces p.pieces) none p.are;
      tokens = p.tokens_are;
      end = end ∙ ap (λ (q : Position). span_at q 0) (p.place_is ∙ ap position_after (sym whole));
    }

pub flawed_at : (text : List ℕ) (position : Position) (rest : List ℕ) (tokens : List Token) (fault : ProgramFault) → length text ≤ longest_program → IsUtf8 text → IsProgress text position rest tokens → BeginsWith position rest fault → IsFlawed text fault
flawed_at text position rest tokens fault short utf8 p b =
    let at : fold past position b.flaw.before ≡ position_after (text_of p.pieces ++ b.flaw.before) = ap (λ (q : Position). fold past q b.flaw.before) p.place_is ∙ fold-past (text_of p.pieces) b.flaw.before in
    record {
      short = short;
      utf8 = utf8;
      pieces = p.pieces;
      rest = rest;
      whole = p.whole;
      spelled = p.are;
      flaw = b.flaw;
      begins = b.begins;
      is = b.is ∙ ap (λ (q : Position). record { number = b.flaw.number; span = span_at q (length b.flaw.bytes) }) at;
    }

pub broken_at : (text : List ℕ) (valid : ℕ) (fault : ProgramFault) → length text ≤ longest_program → IsValidUpTo text valid → fault ≡ fault_after faults.not_utf8 (position_after []) (take valid text) 1 → HasFault text fault
broken_at text valid fault short up_to is =
    let some : 1 ≤ length (drop valid text) = omega (arith, up_to.short, length-drop valid text) in
    let one : length (take 1 (drop valid text)) ≡ 1 = length-take-le 1 (drop valid text) some in
    no_utf8 (record {
      short = short;
      valid = valid;
      up_to = up_to;
      is = is ∙ ap (λ (q : Position). record { number = faults.not_utf8; span = span_at q 1 }) (fold-past [] (take valid text)) ∙ ap (λ (n : ℕ). record { number = faults.not_utf8; span = span_at (position_after (take valid text)) n }) (sym one);
    })

-- an error handed on
pub handed_on : (text : List ℕ) (position : Position) (rest : List ℕ) (tokens : List Token) (e : TextError) → length text ≤ longest_program → IsUtf8 text → IsProgress text position rest tokens → OnFault e (BeginsWith position rest) → OnFault e (HasFault text)
handed_on text position rest tokens (Fault fault) short utf8 p b = flawed (flawed_at text position rest tokens fault short utf8 p b)
handed_on text position rest tokens Memory short utf8 p b = tt

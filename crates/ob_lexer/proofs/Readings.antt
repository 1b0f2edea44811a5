-- A text has one list of tokens at most, or one fault at most.
use Rattle.std.proofs.Common.{ℕ, ◌≡◌, ◌<◌, ◌≤◌, nat_le, List, [], ◌∷◌, ◌++◌, length, take, drop, refl, sym, ap, subst, ◌∙◌, arith, append_assoc, append-nil}
use Rattle.std.specs.Str.{IsUtf8, IsValidUpTo}
use Rattle.std.proofs.lemmas.Str.{utf8_valid_len-IsUtf8, utf8_valid_len-IsValidUpTo}
use Rattle.std.proofs.Math.Seq.{take-append_seam, drop-append_seam}
use Rattle.std.proofs.lemmas.Bool.{and_parts}
use Rattle.ob_base.specs.Limits.{longest_name, longest_program}
use Rattle.ob_base.specs.Names.{is_word}
use Rattle.ob_base.specs.Faults as faults
use Rattle.ob_base.specs.declared.fault.ProgramFault.{ProgramFault}
use Rattle.ob_lexer.specs.declared.token.Token.{Token}
use Rattle.ob_lexer.specs.declared.token.TokenKind.TheVariants as kind
use Rattle.ob_lexer.specs.declared.lexer.Lexed.{Lexed}
use Rattle.ob_lexer.specs.declared.step.Step.TheVariants as step
use Rattle.ob_lexer.specs.Spans.{span_of, fault_at}
use Rattle.ob_lexer.specs.Lexis.{IsLexeme, word, digits, quoted, sign, blank, line_comment, block_comment, of_line, of_block, Element, space, comment, token, IsElement, IsLongest, Piece, text_of, ArePieces, token_in, tokens_of, HasTokens}
use Rattle.ob_lexer.specs.Flaws.{Flaw, Begins, IsFlawed, HasFault, too_long, no_utf8, flawed}
use Rattle.ob_lexer.specs.Lexing.{position_after}
use Rattle.ob_lexer.specs.Reading.{span_at}
use Rattle.ob_lexer.proofs.Reserved.{word_is_word}
use Rattle.ob_lexer.proofs.FirstBytes.{lexeme_some}
use Rattle.ob_lexer.proofs.Progress.{utf8_rest}
use Rattle.ob_lexer.proofs.Found.{step_at, step_of, piece_found, FindsFlaw, flaw_found}

-- ---- what stands at the text's front is one thing

same_step : (before : List ℕ) (d e : Element) (a b : List ℕ) → step_of d (length a) ≡ step_of e (length b) → a ≡ b → token_in before d a ≡ token_in before e b
same_step before space space a b s same = refl
same_step before space comment a b s same = refl
same_step before space (token k) a b s same = absurd cc
same_step before comment space a b s same = refl
same_step before comment comment a b s same = refl
same_step before comment (token k) a b s same = absurd cc
same_step before (token j) space a b s same = absurd cc
same_step before (token j) comment a b s same = absurd cc
same_step before (token j) (token k) a b s same =
    let kinds : j ≡ k = cc in
    λ i. record { kind = kinds i; span = span_of before (same i) } ∷ []

same_count : (d e : Element) (m n : ℕ) → step_of d m ≡ step_of e n → m ≡ n
same_count space space m n s = cc
same_count space comment m n s = cc
same_count space (token k) m n s = absurd cc
same_count comment space m n s = cc
same_count comment comment m n s = cc
same_count comment (token k) m n s = absurd cc
same_count (token j) space m n s = absurd cc
same_count (token j) comment m n s = absurd cc
same_count (token j) (token k) m n s = cc

no_flaw_step : (e : Element) (count number before many : ℕ) → step_of e count ≡ step.Flaw number before many → ⊥
no_flaw_step space count number before many s = cc
no_flaw_step comment count number before many s = cc
no_flaw_step (token k) count number before many s = cc

same_fronts : (a x b y : List ℕ) → a ++ x ≡ b ++ y → length a ≡ length b → (a ≡ b) × (x ≡ y)
same_fronts a x b y e count = (
  sym (take-append_seam a x) ∙ ap (λ (n : ℕ). take n (a ++ x)) count ∙ ap (take (length b)) e ∙ take-append_seam b y,
  sym (drop-append_seam a x) ∙ ap (λ (n : ℕ). drop n (a ++ x)) count ∙ ap (drop (length b)) e ∙ drop-append_seam b y,
)

-- ---- the pieces of a text

-- Nothing more is read: the text ends, or begins with a fault.
data IsEnd (rest : List ℕ) : Type 0 where
  at_end : rest ≡ [] → IsEnd rest
  at_flaw : (flaw : Flaw) → Begins rest flaw → IsEnd rest

element_lexeme : (e : Element) (bytes : List ℕ) → IsElement e bytes → IsLexeme bytes
element_lexeme space bytes is = blank is
element_lexeme comment bytes (of_line is) = line_comment is
element_lexeme comment bytes (of_block is) = block_comment is
element_lexeme (token (kind.Name name)) bytes is = word (and_parts (nat_le (length bytes) longest_name) (is_word bytes) is.1).1
element_lexeme (token (kind.Number number)) bytes is = digits is.0
element_lexeme (token (kind.Text content)) bytes is = quoted content is.0
element_lexeme (token (kind.Word w)) bytes is = word (rw is (word_is_word w))
element_lexeme (token (kind.Sign s)) bytes is = sign s is

no_front : (bytes rest : List ℕ) → bytes ++ rest ≡ [] → bytes ≡ []
no_front [] rest none = refl
no_front (b ∷ bytes) rest none = absurd cc

-- no piece stands at the end
no_piece : (e : Element) (bytes rest all : List ℕ) → IsElement e bytes → IsLongest bytes rest → IsUtf8 all → (before : List ℕ) → all ≡ before ++ (bytes ++ rest) → IsEnd (bytes ++ rest) → ⊥
no_piece e bytes rest all is longest utf8 before whole (at_end none) = lexeme_some bytes (element_lexeme e bytes is) (no_front bytes rest none)
no_piece e bytes rest all is longest utf8 before whole (at_flaw flaw begins) =
    let found = piece_found e bytes rest is longest (utf8_rest before (bytes ++ rest) (subst IsUtf8 whole utf8)) in
    no_flaw_step e (length bytes) flaw.number (length flaw.before) (length flaw.bytes) (sym found ∙ (flaw_found (bytes ++ rest) flaw begins).step)

-- Two ways to read what follows some bytes agree.
record Agrees (before : List ℕ) (ps qs : List Piece) (r s : List ℕ) : Type 0 where
  texts : text_of ps ≡ text_of qs
  rests : r ≡ s
  tokens : tokens_of before ps ≡ tokens_of before qs

agree : (all before : List ℕ) (ps qs : List Piece) (r s : List ℕ) → IsUtf8 all → all ≡ before ++ (text_of ps ++ r) → text_of ps ++ r ≡ text_of qs ++ s → ArePieces ps r → ArePieces qs s → IsEnd r → IsEnd s → Agrees before ps qs r s
agree all before [] [] r s utf8 whole same p q end_r end_s = record { texts = refl; rests = same; tokens = refl }
agree all before [] (q ∷ qs) r s utf8 whole same p are end_r end_s =
    let parts : r ≡ q.bytes ++ (text_of qs ++ s) = same ∙ append_assoc q.bytes (text_of qs) s in
    absurd (no_piece q.element q.bytes (text_of qs ++ s) all are.0 are.1 utf8 before (whole ∙ ap (λ (l : List ℕ). before ++ l) parts) (subst IsEnd parts end_r))
agree all before (p ∷ ps) [] r s utf8 whole same are q end_r end_s =
    let parts : s ≡ p.bytes ++ (text_of ps ++ r) = sym same ∙ append_assoc p.bytes (text_of ps) r in
    absurd (no_piece p.element p.bytes (text_of ps ++ r) all are.0 are.1 utf8 before (whole ∙ ap (λ (l : List ℕ). before ++ l) (append_assoc p.bytes (text_of ps) r)) (subst IsEnd parts end_s))
agree all before (p ∷ ps) (q ∷ qs) r s utf8 whole same p_are q_are end_r end_s =
    let p_rest = text_of ps ++ r in
    let q_rest = text_of qs ++ s in
    let p_whole : all ≡ before ++ (p.bytes ++ p_rest) = whole ∙ ap (λ (l : List ℕ). before ++ l) (append_assoc p.bytes (text_of ps) r) in
    let one : p.bytes ++ p_rest ≡ q.bytes ++ q_rest = sym (append_assoc p.bytes (text_of ps) r) ∙ same ∙ append_assoc q.bytes (text_of qs) s in
    let q_whole : all ≡ before ++ (q.bytes ++ q_rest) = p_whole ∙ ap (λ (l : List ℕ). before ++ l) one in
    let p_found = piece_found p.element p.bytes p_rest p_are.0 p_are.1 (utf8_rest before (p.bytes ++ p_rest) (subst IsUtf8 p_whole utf8)) in
    let q_found = piece_found q.element q.bytes q_rest q_are.0 q_are.1 (utf8_rest before (q.bytes ++ q_rest) (subst IsUtf8 q_whole utf8)) in
    let steps : step_of p.element (length p.bytes) ≡ step_of q.element (length q.bytes) = sym p_found ∙ ap step_at one ∙ q_found in
    let fronts = same_fronts p.bytes p_rest q.bytes q_rest one (same_count p.element q.element (length p.bytes) (length q.bytes) steps) in
    let next_whole : all ≡ (before ++ p.bytes) ++ p_rest = p_whole ∙ sym (append_assoc before p.bytes p_rest) in
    let others = agree all (before ++ p.bytes) ps qs r s utf8 next_whole fronts.1 p_are.2 q_are.2 end_r end_s in
    let here : token_in before p.element p.bytes ≡ token_in before q.element q.bytes = same_step before p.element q.element p.bytes q.bytes steps fronts.0 in
    let bytes : p.bytes ≡ q.bytes = fronts.0 in
    record {
      texts = λ i. bytes i ++ others.texts i;
      rests = others.rests;
      tokens = ap (λ (l : List Token). token_in before p.element p.bytes ++ l) others.tokens ∙ ap (λ (l : List Token). l ++ tokens_of (before ++ p.bytes) qs) here ∙ ap (λ (l : List ℕ). token_in before q.element q.bytes ++ tokens_of (before ++ l) qs) bytes;
    }

-- ---- the laws

lexed_same : (a b : Lexed) → a.tokens ≡ b.tokens → a.end ≡ b.end → a ≡ b
lexed_same a b p q = λ i. record { tokens = p i; end = q i }

pub one_reading_lem : (text : List ℕ) (a b : Lexed) → HasTokens text a → HasTokens text b → a ≡ b
one_reading_lem text a b p q =
    let p_whole : text ≡ text_of p.pieces ++ [] = p.whole ∙ sym (append-nil (text_of p.pieces)) in
    let q_whole : text ≡ text_of q.pieces ++ [] = q.whole ∙ sym (append-nil (text_of q.pieces)) in
    let r = agree text [] p.pieces q.pieces [] [] p.utf8 p_whole (sym p_whole ∙ q_whole) p.spelled q.spelled (at_end refl) (at_end refl) in
    lexed_same a b (p.tokens ∙ r.tokens ∙ sym q.tokens) (p.end ∙ sym q.end)

no_utf8_twice : (text : List ℕ) (valid : ℕ) → IsUtf8 text → IsValidUpTo text valid → ⊥
no_utf8_twice text valid utf8 up_to = omega (arith, up_to.short, utf8_valid_len-IsUtf8 text utf8, utf8_valid_len-IsValidUpTo text valid up_to)

flawed_same : (text : List ℕ) (a b : ProgramFault) → IsFlawed text a → IsFlawed text b → a ≡ b
flawed_same text a b p q =
    let r = agree text [] p.pieces q.pieces p.rest q.rest p.utf8 p.whole (sym p.whole ∙ q.whole) p.spelled q.spelled (at_flaw p.flaw p.begins) (at_flaw q.flaw q.begins) in
    let m = flaw_found p.rest p.flaw p.begins in
    let n = subst (λ (l : List ℕ). FindsFlaw l q.flaw) (sym r.rests) (flaw_found q.rest q.flaw q.begins) in
    let steps : step.Flaw p.flaw.number (length p.flaw.before) (length p.flaw.bytes) ≡ step.Flaw q.flaw.number (length q.flaw.before) (length q.flaw.bytes) = sym m.step ∙ n.step in
    let number : p.flaw.number ≡ q.flaw.number = cc in
    let count : length p.flaw.before ≡ length q.flaw.before = cc in
    let many : length p.flaw.bytes ≡ length q.flaw.bytes = cc in
    let before : p.flaw.before ≡ q.flaw.before = m.front ∙ ap (λ (k : ℕ). take k p.rest) count ∙ sym n.front in
    let texts : text_of p.pieces ≡ text_of q.pieces = r.texts in
    let position : text_of p.pieces ++ p.flaw.before ≡ text_of q.pieces ++ q.flaw.before = λ i. texts i ++ before i in
    p.is ∙ (λ i. record { number = number i; span = span_at (position_after (position i)) (many i) }) ∙ sym q.is

long_and_short : (text : List ℕ) → longest_program < length text → length text ≤ longest_program → ⊥
long_and_short text long short = omega arith

pub one_fault_lem : (text : List ℕ) (a b : ProgramFault) → HasFault text a → HasFault text b → a ≡ b
one_fault_lem text a b (too_long p) (too_long q) = p.is ∙ sym q.is
one_fault_lem text a b (too_long p) (no_utf8 q) = absurd (long_and_short text p.long q.short)
one_fault_lem text a b (too_long p) (flawed q) = absurd (long_and_short text p.long q.short)
one_fault_lem text a b (no_utf8 p) (too_long q) = absurd (long_and_short text q.long p.short)
one_fault_lem text a b (no_utf8 p) (no_utf8 q) =
    let same : p.valid ≡ q.valid = sym (utf8_valid_len-IsValidUpTo text p.valid p.up_to) ∙ utf8_valid_len-IsValidUpTo text q.valid q.up_to in
    p.is ∙ ap (λ (n : ℕ). fault_at faults.not_utf8 (take n text) (take 1 (drop n text))) same ∙ sym q.is
one_fault_lem text a b (no_utf8 p) (flawed q) = absurd (no_utf8_twice text p.valid q.utf8 p.up_to)
one_fault_lem text a b (flawed p) (too_long q) = absurd (long_and_short text q.long p.short)
one_fault_lem text a b (flawed p) (no_utf8 q) = absurd (no_utf8_twice text q.valid p.utf8 q.up_to)
one_fault_lem text a b (flawed p) (flawed q) = flawed_same text a b p q

no_flaw_at_end : (flaw : Flaw) → ¬ (Begins [] flaw)
no_flaw_at_end flaw begins =
    let s : step.Gap 0 ≡ step.Flaw flaw.number (length flaw.before) (length flaw.bytes) = (flaw_found [] flaw begins).step in
    cc

pub never_tokens_and_fault_lem : (text : List ℕ) (lexed : Lexed) (fault : ProgramFault) → HasTokens text lexed → ¬ (HasFault text fault)
never_tokens_and_fault_lem text lexed fault t (too_long f) = long_and_short text f.long t.short
never_tokens_and_fault_lem text lexed fault t (no_utf8 f) = no_utf8_twice text f.valid t.utf8 f.up_to
never_tokens_and_fault_lem text lexed fault t (flawed f) =
    let whole : text ≡ text_of t.pieces ++ [] = t.whole ∙ sym (append-nil (text_of t.pieces)) in
    let r = agree text [] t.pieces f.pieces [] f.rest t.utf8 whole (sym whole ∙ f.whole) t.spelled f.spelled (at_end refl) (at_flaw f.flaw f.begins) in
    no_flaw_at_end f.flaw (subst (λ (l : List ℕ). Begins l f.flaw) (sym r.rests) f.begins)

-- The laws of blocks, of what stands after `if`, and of what stands after `else`.
use Rattle.std.proofs.Common.{ℕ, ◌≡◌, ◌-◌, ◌≤◌, true, false, List, [], ◌∷◌, ◌++◌, map, Option, Some, None, refl, ap, subst, ◌∙◌}
use Rattle.std.proofs.lemmas.List.{map-append}
use Rattle.ob_base.specs.declared.fault.Span.{Span}
use Rattle.ob_lexer.specs.declared.token.TokenKind.TheVariants as kind
use Rattle.ob_lexer.specs.declared.token.Word.TheVariants as word'
use Rattle.ob_lexer.specs.declared.token.Sign.TheVariants as sign'
use Rattle.ob_tree.specs.Exprs.{Expr}
use Rattle.ob_tree.specs.Stmts.{Stmt, test_stmt, if_stmt, Block, block_with, Else, no_else, else_with, Stmts, no_stmts, and_stmt}
use Rattle.ob_tree.specs.declared.name.NamePart.{NamePart}
use Rattle.ob_tree.specs.declared.name.Subject.{Subject}
use Rattle.ob_parser_spec.specs.Rows.{Row, Loaded, Covers, ◌⨟◌, word, sign, name, raise, raised, maybe}
use Rattle.ob_parser_spec.specs.Grammar.{tokens_of}
use Rattle.ob_parser_spec.specs.NameRows.{subject}
use Rattle.ob_parser_spec.specs.ExprRows.{expr}
use Rattle.ob_parser_spec.specs.StmtRows.{stmt, stmts, block, alternative, chained}
use Rattle.ob_parser_spec.specs.Readers.{Reader, span_of_tokens}
use Rattle.ob_parser_spec.specs.NameReaders.{on}
use Rattle.ob_parser_spec.specs.Primaries.{expr_first}
use Rattle.ob_parser_spec.specs.StmtReaders.{Question, tested, asked, block_of, read_block, Branches, if_of, read_if, chained_of, read_chained, else_of, read_alternative, branches_of, read_branches, stmt_first}
use Rattle.ob_parser_spec.proofs.Laws.{SpellsAsWell, Sample, Laws, disjoint, ends-twice}
use Rattle.ob_parser_spec.proofs.One.{token_of, somewhere, free}
use Rattle.ob_parser_spec.proofs.Both.{both}
use Rattle.ob_parser_spec.proofs.Mapped.{Makes}
use Rattle.ob_parser_spec.proofs.Either.{one_of}
use Rattle.ob_parser_spec.proofs.Opened.{loaded_at, raised_tokens}
use Rattle.ob_parser_spec.proofs.Spanned.{covers, covered, with_span}
use Rattle.ob_parser_spec.proofs.TokenRows.{grouped, ungrouped}
use Rattle.ob_parser_spec.proofs.RowLaws.{sign_at, word_at, at_word, sign_laws, word_laws, after_laws, choice_laws, span_laws, option_laws, made, makes_laws, made_laws, ends_laws}
use Rattle.ob_parser_spec.proofs.Lists.{after_token, after_token_laws, under, under_sign_laws, under_word_laws}
use Rattle.ob_parser_spec.proofs.Chains.{raises}
use Rattle.ob_parser_spec.proofs.DepthLaws.{after_expr}
use Rattle.ob_parser_spec.proofs.QuestionLaws.{question, question_laws}

-- ---- blocks

abbrev block_parts : (Span × Stmts) × Span → Row
block_parts = both (under (kind.Sign sign'.OpenBrace) stmts) (sign_at sign'.CloseBrace)

block_from : SpellsAsWell block (made block_of block_parts)
block_from (block_with body end) read is = (((is.3.0, body), end), refl, ungrouped (is.0, is.1, is.2, is.3.1, is.4))

block_makes : Makes block_of block_parts block
block_makes = record { to = λ parts read is. let g = grouped is in (g.0, g.1, g.2, (parts.0.0, g.3), g.4); from = block_from }

stmts_sample : Sample stmts
stmts_sample = record { value = no_stmts; read = []; spelled = refl }

module _ (room : ℕ) (body : ℕ → Reader Stmts) (more : List ℕ) (b : 1 ≤ room → Laws (room - 1) stmts (body (room - 1)) stmt_first more true)
    (apart : disjoint (on sign'.CloseBrace) more ≡ true) where
  pub block_laws : Laws room block (read_block body room) (on sign'.OpenBrace) [] false
  block_laws = makes_laws block_makes (after_laws (under_sign_laws room stmts body stmt_first more true stmts_sample b sign'.OpenBrace) (sign_laws room sign'.CloseBrace) apart)

-- ---- an `if`

-- "(" question ")" block ["else" (block | if)]
abbrev pub branches : Branches → Row
branches b = sign sign'.OpenParen ⨟ question b.0 ⨟ sign sign'.CloseParen ⨟ block b.1.0 ⨟ alternative b.1.1

-- a question, with what stands after it
abbrev question_before : Question → Row → Row
question_before (tested of state) row = subject of ⨟ word word'.In ⨟ name state ⨟ row
question_before (asked e) row = expr e ⨟ row

unpacked : (q : Question) (row : Row) (read : List Loaded) → (question q ⨟ row) read → question_before q row read
unpacked (tested of state) row read is = let g = grouped is in (g.0, g.1, g.2, g.3, grouped g.4)
unpacked (asked e) row read is = is

packed : (q : Question) (row : Row) (read : List Loaded) → question_before q row read → (question q ⨟ row) read
packed (tested of state) row read is = ungrouped (is.0, is.1, is.2, is.3, ungrouped is.4)
packed (asked e) row read is = is

abbrev if_parts : (Span × Branches) × Span → Row
if_parts = with_span (both (word_at word'.If) branches)

abbrev pub ifs : Stmt → Row
ifs = made if_of if_parts

if_to : (parts : (Span × Branches) × Span) (read : List Loaded) → if_parts parts read → stmt (if_of parts) read
if_to ((place, (tested of state, (then, otherwise))), span) read is =
    let b = is.1.4 in
    let q = unpacked (tested of state) (sign sign'.CloseParen ⨟ block then ⨟ alternative otherwise) b.1 b.4 in
    (is.0, (is.1.0, is.1.1, is.1.2, (place, is.1.3), (b.0, b.1, b.2, b.3, q)))
if_to ((place, (asked condition, (then, otherwise))), span) read is = (is.0, (is.1.0, is.1.1, is.1.2, (place, is.1.3), is.1.4))

test_from : (of : Subject) (state : NamePart) (then : Block) (otherwise : Else) (span : Span) (read : List Loaded) →
    stmt (test_stmt of state then otherwise span) read → (place : Span) × if_parts ((place, (tested of state, (then, otherwise))), span) read
test_from of state then otherwise span read is =
    let b = is.1.4 in
    let q = packed (tested of state) (sign sign'.CloseParen ⨟ block then ⨟ alternative otherwise) b.1 b.4 in
    (is.1.3.0, (is.0, (is.1.0, is.1.1, is.1.2, is.1.3.1, (b.0, b.1, b.2, b.3, q))))

asked_from : (condition : Expr) (then : Block) (otherwise : Else) (span : Span) (read : List Loaded) →
    stmt (if_stmt condition then otherwise span) read → (place : Span) × if_parts ((place, (asked condition, (then, otherwise))), span) read
asked_from condition then otherwise span read is = (is.1.3.0, (is.0, (is.1.0, is.1.1, is.1.2, is.1.3.1, is.1.4)))

pub ifs_to : SpellsAsWell ifs stmt
ifs_to s read (parts, same, is) = rw same (if_to parts read is)

pub tests_if : (of : Subject) (state : NamePart) (then : Block) (otherwise : Else) (span : Span) (read : List Loaded) →
    stmt (test_stmt of state then otherwise span) read → ifs (test_stmt of state then otherwise span) read
tests_if of state then otherwise span read is =
    let f = test_from of state then otherwise span read is in
    (((f.0, (tested of state, (then, otherwise))), span), refl, f.1)

pub asks_if : (condition : Expr) (then : Block) (otherwise : Else) (span : Span) (read : List Loaded) →
    stmt (if_stmt condition then otherwise span) read → ifs (if_stmt condition then otherwise span) read
asks_if condition then otherwise span read is =
    let f = asked_from condition then otherwise span read is in
    (((f.0, (asked condition, (then, otherwise))), span), refl, f.1)

pub if_laws : (room : ℕ) (after : ℕ → Reader Branches) (more : List ℕ) →
    Laws room branches (after room) (on sign'.OpenParen) more false → Laws room ifs (read_if after room) (at_word word'.If) more false
if_laws room after more h = made_laws if_of (span_laws (after_laws (word_laws room word'.If) h refl))

-- ---- the `if` after an `else`

-- a block that is an `if` after an `else`
abbrev chained_row : Block → Row
chained_row (block_with body end) = chained body end

abbrev raised_parts : (Span × Branches) × Span → Row
raised_parts = with_span (under (kind.Word word'.If) branches)

lowers : (n : ℕ) (span : Span) (l : Loaded) (ls : List Loaded) → Covers span (map (raise n) (l ∷ ls)) → Covers span (l ∷ ls)
lowers n span l ls c =
    let place : span ≡ span_of_tokens (tokens_of (l ∷ ls)) = covered span (map (raise n) (l ∷ ls)) c ∙ ap span_of_tokens (raised_tokens n (l ∷ ls)) in
    rw place (covers l ls)

-- all of it is raised, with its word
lowered : (parts : (Span × Branches) × Span) (read : List Loaded) → raised_parts parts read → raised 1 (if_parts parts) read
lowered ((place, b), span) read is =
    let low = is.1.4.0 in
    let t : Loaded = free (token_of (kind.Word word'.If) place) in
    let all : read ≡ map (raise 1) (t ∷ low) = is.1.2 ∙ ap (λ f. f ++ is.1.1) is.1.3 ∙ ap (λ f. raise 1 t ∷ f) is.1.4.1 in
    (t ∷ low, all, (lowers 1 span t low (subst (Covers span) all is.0), (t ∷ [], low, refl, refl, is.1.4.2)))

lifted : (parts : (Span × Branches) × Span) (read : List Loaded) → raised 1 (if_parts parts) read → raised_parts parts read
lifted ((place, b), span) read (low, all, is) =
    let front : List Loaded = map (raise 1) is.1.0 in
    let back : List Loaded = map (raise 1) is.1.1 in
    let whole : read ≡ front ++ back = all ∙ ap (map (raise 1)) is.1.2 ∙ map-append (raise 1) is.1.0 is.1.1 in
    (rw all (raises 1 span low is.0), (front, back, whole, ap (map (raise 1)) is.1.3, (is.1.1, refl, is.1.4)))

chained_if : (parts : (Span × Branches) × Span) (read : List Loaded) → raised_parts parts read → raised 1 (stmt (if_of parts)) read
chained_if parts read is = let l = lowered parts read is in (l.0, l.1, if_to parts l.0 l.2)

chained_to : (parts : (Span × Branches) × Span) (read : List Loaded) → raised_parts parts read → chained_row (chained_of parts) read
chained_to ((place, (tested of state, blocks)), span) read is = (refl, chained_if ((place, (tested of state, blocks)), span) read is)
chained_to ((place, (asked condition, blocks)), span) read is = (refl, chained_if ((place, (asked condition, blocks)), span) read is)

chained_from : (body : Stmts) (end : Span) (read : List Loaded) → chained body end read → made chained_of raised_parts (block_with body end) read
chained_from (and_stmt (test_stmt of state then otherwise span) no_stmts) end read is =
    let f = test_from of state then otherwise span is.1.0 is.1.2 in
    let parts : (Span × Branches) × Span = ((f.0, (tested of state, (then, otherwise))), span) in
    (parts, ap (block_with (and_stmt (test_stmt of state then otherwise span) no_stmts)) is.0, lifted parts read (is.1.0, is.1.1, f.1))
chained_from (and_stmt (if_stmt condition then otherwise span) no_stmts) end read is =
    let f = asked_from condition then otherwise span is.1.0 is.1.2 in
    let parts : (Span × Branches) × Span = ((f.0, (asked condition, (then, otherwise))), span) in
    (parts, ap (block_with (and_stmt (if_stmt condition then otherwise span) no_stmts)) is.0, lifted parts read (is.1.0, is.1.1, f.1))
chained_from body end read is = elim is [ ]

chained_row_from : SpellsAsWell chained_row (made chained_of raised_parts)
chained_row_from (block_with body end) read is = chained_from body end read is

chained_makes : Makes chained_of raised_parts chained_row
chained_makes = record { to = chained_to; from = chained_row_from }

-- ---- what stands after `else`

abbrev after_else : Block → Row
after_else = after_token (kind.Word word'.Else) (one_of block chained_row)

else_to : (o : Option Block) (read : List Loaded) → maybe after_else o read → alternative (else_of o) read
else_to None read is = is
else_to (Some (block_with body end)) read is = is

else_from : SpellsAsWell alternative (made else_of (maybe after_else))
else_from no_else read is = (None, refl, is)
else_from (else_with (block_with body end)) read is = (Some (block_with body end), refl, is)

else_makes : Makes else_of (maybe after_else) alternative
else_makes = record { to = else_to; from = else_from }

-- ---- what stands after `if`

branches_makes : Makes branches_of (both (sign_at sign'.OpenParen) (both question (both (sign_at sign'.CloseParen) (both block alternative)))) branches
branches_makes = record {
  to = λ parts read is.
      let a = is.4 in
      let c = a.4 in
      (is.0, is.1, is.2, (parts.0, is.3), (a.0, a.1, a.2, a.3, (c.0, c.1, c.2, (parts.1.1.0, c.3), c.4)));
  from = λ bs read is.
      let a = is.4 in
      let c = a.4 in
      ((is.3.0, (bs.0, (c.3.0, bs.1))), refl, (is.0, is.1, is.2, is.3.1, (a.0, a.1, a.2, a.3, (c.0, c.1, c.2, c.3.1, c.4))));
}

-- the shortest
branches_sample : Sample expr → Sample branches
branches_sample x =
    let left : Loaded = free (token_of (kind.Sign sign'.OpenParen) somewhere) in
    let right : Loaded = free (token_of (kind.Sign sign'.CloseParen) somewhere) in
    let opens : Loaded = loaded_at 1 (token_of (kind.Sign sign'.OpenBrace) somewhere) in
    let closes : Loaded = free (token_of (kind.Sign sign'.CloseBrace) somewhere) in
    record {
      value = (asked x.value, (block_with no_stmts somewhere, no_else));
      read = left ∷ (x.read ++ (right ∷ opens ∷ closes ∷ []));
      spelled = (
        left ∷ [],
        x.read ++ (right ∷ opens ∷ closes ∷ []),
        refl,
        (somewhere, refl),
        (
          x.read,
          right ∷ opens ∷ closes ∷ [],
          refl,
          x.spelled,
          (
            right ∷ [],
            opens ∷ closes ∷ [],
            refl,
            (somewhere, refl),
            (opens ∷ closes ∷ [], [], refl, (opens ∷ [], closes ∷ [], refl, (somewhere, refl), ([], closes ∷ [], refl, ([], refl, refl), refl)), refl),
          ),
        ),
      );
    }

-- what a statement may go on with
abbrev pub on_else : List ℕ
on_else = at_word word'.Else

module _ (room : ℕ) (exprs : Reader Expr) (body : ℕ → Reader Stmts) (after : ℕ → Reader Branches) (more : List ℕ)
    (e : Laws room expr exprs expr_first after_expr false) (b : 1 ≤ room → Laws (room - 1) stmts (body (room - 1)) stmt_first more true)
    (apart : disjoint (on sign'.CloseBrace) more ≡ true) (h : 1 ≤ room → Laws (room - 1) branches (after (room - 1)) (on sign'.OpenParen) on_else false) where
  chained_laws : Laws room chained_row (read_chained after room) (at_word word'.If) on_else false
  chained_laws = makes_laws chained_makes (span_laws (under_word_laws room branches after (on sign'.OpenParen) on_else false (branches_sample e.sample) h word'.If))

  alternative_laws : Laws room alternative (read_alternative body after room) on_else (on_else ++ on_else) true
  alternative_laws =
      let blocks = choice_laws (block_laws room body more b apart) chained_laws refl in
      makes_laws else_makes (option_laws (after_token_laws (word_laws room word'.Else) blocks))

  pub branches_laws : Laws room branches (read_branches exprs body after room) (on sign'.OpenParen) on_else false
  branches_laws =
      let blocks = after_laws (block_laws room body more b apart) alternative_laws refl in
      let right = after_laws (sign_laws room sign'.CloseParen) blocks refl in
      let all = after_laws (sign_laws room sign'.OpenParen) (after_laws (question_laws room exprs e) right refl) refl in
      ends_laws (ends-twice on_else) (makes_laws branches_makes all)

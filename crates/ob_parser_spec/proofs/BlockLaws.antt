-- The laws of statements and blocks: where there is depth enough for the room, they are read.
use Rattle.std.proofs.Common.{ℕ, zero, suc, ◌≡◌, ◌-◌, ◌<◌, ◌≤◌, true, false, List, [], ◌∷◌, ◌++◌, inl, inr, refl, ap, arith}
use Rattle.ob_lexer.specs.declared.token.Sign.TheVariants as sign'
use Rattle.ob_tree.specs.Names.{Ref}
use Rattle.ob_tree.specs.Exprs.{Expr}
use Rattle.ob_tree.specs.Stmts.{Stmt, test_stmt, if_stmt, while_stmt, Stmts, no_stmts, and_stmt, stmts as stmts_of}
use Rattle.ob_parser_spec.specs.Rows.{Loaded, each}
use Rattle.ob_parser_spec.specs.NameRows.{named, ref}
use Rattle.ob_parser_spec.specs.ExprRows.{expr}
use Rattle.ob_parser_spec.specs.StmtRows.{stmt, stmts, block}
use Rattle.ob_parser_spec.specs.Readers.{Reader, read_as}
use Rattle.ob_parser_spec.specs.NameReaders.{on, read_named}
use Rattle.ob_parser_spec.specs.Chains.{Counted}
use Rattle.ob_parser_spec.specs.Primaries.{expr_first, uncounted}
use Rattle.ob_parser_spec.specs.StmtReaders.{Branches, Loop, stmt_first, read_stmt, read_stmts, read_after_if, read_after_while}
use Rattle.ob_parser_spec.specs.AllReaders.{all_refs, all_unary, all_counted, all_exprs, all_branches, all_loops, all_stmts, all_blocks}
use Rattle.ob_parser_spec.proofs.Laws.{SpellsAsWell, Laws}
use Rattle.ob_parser_spec.proofs.Mapped.{Makes}
use Rattle.ob_parser_spec.proofs.Either.{one_of}
use Rattle.ob_parser_spec.proofs.RowLaws.{at_name, choice_laws, makes_laws, alike_laws}
use Rattle.ob_parser_spec.proofs.Each.{many_laws}
use Rattle.ob_parser_spec.proofs.NameLaws.{InnerRefs, named_laws, ref_laws}
use Rattle.ob_parser_spec.proofs.Chains.{at_level}
use Rattle.ob_parser_spec.proofs.ExprLaws.{after_operand, row_1}
use Rattle.ob_parser_spec.proofs.Arguments.{expr_laws}
use Rattle.ob_parser_spec.proofs.PrimaryLaws.{Inner}
use Rattle.ob_parser_spec.proofs.DepthLaws.{after_expr, unary_all}
use Rattle.ob_parser_spec.proofs.NamedStmts.{seconds}
use Rattle.ob_parser_spec.proofs.SimpleLaws.{simple, simple_laws}
use Rattle.ob_parser_spec.proofs.IfLaws.{block_laws, branches, ifs, ifs_to, tests_if, asks_if, if_laws, on_else, branches_laws}
use Rattle.ob_parser_spec.proofs.WhileLaws.{loop, whiles, whiles_to, is_while, while_laws, loop_laws}

-- ---- a statement

stmt_to : SpellsAsWell (one_of ifs (one_of whiles simple)) stmt
stmt_to s read (inl is) = ifs_to s read is
stmt_to s read (inr (inl is)) = whiles_to s read is
stmt_to (test_stmt of state then otherwise span) read (inr (inr is)) = elim is [ ]
stmt_to (if_stmt condition then otherwise span) read (inr (inr is)) = elim is [ ]
stmt_to (while_stmt condition body span) read (inr (inr is)) = elim is [ ]
stmt_to s read (inr (inr is)) = is

stmt_from : SpellsAsWell stmt (one_of ifs (one_of whiles simple))
stmt_from (test_stmt of state then otherwise span) read is = inl (tests_if of state then otherwise span read is)
stmt_from (if_stmt condition then otherwise span) read is = inl (asks_if condition then otherwise span read is)
stmt_from (while_stmt condition body span) read is = inr (inl (is_while condition body span read is))
stmt_from s read is = inr (inr is)

-- ---- statements in their order

stmts_to : (ss : List Stmt) (read : List Loaded) → each stmt ss read → stmts (stmts_of ss) read
stmts_to [] read is = is
stmts_to (s ∷ ss) read is = (is.0, is.1, is.2, is.3, stmts_to ss is.1 is.4)

abbrev list_of : Stmts → List Stmt
list_of no_stmts = []
list_of (and_stmt s ss) = s ∷ list_of ss

listed : (ss : Stmts) → ss ≡ stmts_of (list_of ss)
listed no_stmts = refl
listed (and_stmt s ss) = ap (and_stmt s) (listed ss)

stmts_from : (ss : Stmts) (read : List Loaded) → stmts ss read → each stmt (list_of ss) read
stmts_from no_stmts read is = is
stmts_from (and_stmt s ss) read is = (is.0, is.1, is.2, is.3, stmts_from ss is.1 is.4)

stmts_makes : Makes stmts_of (each stmt) stmts
stmts_makes = record { to = stmts_to; from = λ ss read is. (list_of ss, listed ss, stmts_from ss read is) }

-- what statements may go on with
abbrev pub after_stmt : List ℕ
after_stmt = on_else ++ seconds

abbrev pub after_stmts : List ℕ
after_stmts = after_stmt ++ stmt_first

-- ---- what stands after `if` and after `while`, in this room

abbrev pub AfterLaws : ℕ → (ℕ → Reader Branches) → (ℕ → Reader Loop) → Type 0
AfterLaws room after_if after_while = Laws room branches (after_if room) (on sign'.OpenParen) on_else false × Laws room loop (after_while room) (on sign'.OpenParen) [] false

-- ---- readers of references and of expressions, in less room than this

abbrev pub RefLaws : ℕ → (ℕ → Reader Ref) → Type 0
RefLaws most refs = (n : ℕ) → n < most → Laws n ref (refs n) at_name (on sign'.Bar) false

abbrev pub CountedLaws : ℕ → (ℕ → Reader Counted) → Type 0
CountedLaws most exprs = (n : ℕ) → n < most → Laws n (at_level 1) (exprs n) expr_first after_expr false

module _ (most : ℕ) (refs : ℕ → Reader Ref) (exprs : ℕ → Reader Counted) (r : RefLaws most refs) (c : CountedLaws most exprs) where
  abbrev value : ℕ → Reader Expr
  value room = read_as uncounted (exprs room)

  value_laws : (room : ℕ) → room < most → Laws room expr (value room) expr_first after_expr false
  value_laws room less = expr_laws room (exprs room) expr_first after_expr (c room less)

  pub stmt_laws : (room : ℕ) (after_if : ℕ → Reader Branches) (after_while : ℕ → Reader Loop) → room < most →
      AfterLaws room after_if after_while → Laws room stmt (read_stmt refs exprs after_if after_while room) stmt_first after_stmt false
  stmt_laws room after_if after_while less h =
      let refs' : InnerRefs room refs = λ some. r (room - 1) (omega (arith, some, less)) in
      let exprs' : Inner room exprs after_expr = λ some. c (room - 1) (omega (arith, some, less)) in
      let other = simple_laws room refs exprs refs' exprs' (c room less) in
      alike_laws stmt stmt_to stmt_from (choice_laws (if_laws room after_if on_else h.0) (choice_laws (while_laws room after_while h.1) other refl) refl)

  pub stmts_laws : (room : ℕ) (after_if : ℕ → Reader Branches) (after_while : ℕ → Reader Loop) → room < most →
      AfterLaws room after_if after_while → Laws room stmts (read_stmts refs exprs after_if after_while room) stmt_first after_stmts true
  stmts_laws room after_if after_while less h =
      let many = many_laws room stmt (read_stmt refs exprs after_if after_while room) stmt_first after_stmt (stmt_laws room after_if after_while less h) refl refl refl in
      makes_laws stmts_makes many

  -- statements with at most so many blocks inside one another
  abbrev within : ℕ → ℕ → Reader Stmts
  within depth = read_stmts refs exprs (read_after_if refs exprs depth) (read_after_while refs exprs depth)

  one_deeper : (depth room : ℕ) → room < suc depth → room < most →
      ((n : ℕ) → n < depth → n < most → AfterLaws n (read_after_if refs exprs depth) (read_after_while refs exprs depth)) →
      AfterLaws room (read_after_if refs exprs (suc depth)) (read_after_while refs exprs (suc depth))
  one_deeper depth room less few h =
      let after_if = read_after_if refs exprs depth in
      let after_while = read_after_while refs exprs depth in
      let inner : 1 ≤ room → AfterLaws (room - 1) after_if after_while =
      λ some. h (room - 1) (omega (arith, some, less)) (omega (arith, some, few)) in
      let body : 1 ≤ room → Laws (room - 1) stmts (within depth (room - 1)) stmt_first after_stmts true =
      λ some. stmts_laws (room - 1) after_if after_while (omega (arith, some, few)) (inner some) in (
        branches_laws room (value room) (within depth) after_if after_stmts (value_laws room few) body refl (λ some. (inner some).0),
        loop_laws room (value room) (within depth) after_stmts (value_laws room few) body refl,
      )

  pub after_laws_at : (depth room : ℕ) → room < depth → room < most → AfterLaws room (read_after_if refs exprs depth) (read_after_while refs exprs depth)
  after_laws_at zero room less few = absurd (omega (arith, less))
  after_laws_at (suc depth) room less few = one_deeper depth room less few (after_laws_at depth)

-- ---- readers deep enough for every room that a byte can count

pub all_refs_laws : (room : ℕ) → room < 256 → Laws room ref (all_refs room) at_name (on sign'.Bar) false
unfolding all_refs
all_refs_laws room less = ref_laws 256 room less

pub all_named_laws : (room : ℕ) → room < 256 → Laws room named (read_named all_refs room) at_name (on sign'.OpenBracket) false
all_named_laws room less = named_laws room all_refs (λ some. all_refs_laws (room - 1) (omega (arith, some, less)))

all_unary_laws : (room : ℕ) → room < 256 → Laws room (at_level 7) (all_unary room) expr_first after_operand false
unfolding all_unary
all_unary_laws room less = unary_all 256 room less

pub all_counted_laws : (room : ℕ) → room < 256 → Laws room (at_level 1) (all_counted room) expr_first after_expr false
all_counted_laws room less = row_1 expr_first all_unary room (λ n few. all_unary_laws n (omega (arith, few, less))) room (omega arith)

pub all_exprs_laws : (room : ℕ) → room < 256 → Laws room expr (all_exprs room) expr_first after_expr false
all_exprs_laws room less = expr_laws room (all_counted room) expr_first after_expr (all_counted_laws room less)

pub all_after_laws : (room : ℕ) → room < 256 → AfterLaws room all_branches all_loops
unfolding all_branches all_loops
all_after_laws room less = after_laws_at 256 all_refs all_counted all_refs_laws all_counted_laws 256 room less less

pub all_stmts_laws : (room : ℕ) → room < 256 → Laws room stmts (all_stmts room) stmt_first after_stmts true
all_stmts_laws room less = stmts_laws 256 all_refs all_counted all_refs_laws all_counted_laws room all_branches all_loops less (all_after_laws room less)

pub all_blocks_laws : (room : ℕ) → room < 256 → Laws room block (all_blocks room) (on sign'.OpenBrace) [] false
all_blocks_laws room less = block_laws room all_stmts after_stmts (λ some. all_stmts_laws (room - 1) (omega (arith, some, less))) refl

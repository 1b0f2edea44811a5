-- Statements that are walked over one after another: their sites, the scope after them, and whether one of them ends.
use Rattle.std.proofs.Common.{◌≡◌, ℕ, Bool, true, false, ◌||◌, List, [], ◌∷◌, ◌++◌, length, get_or, take, drop, ◌<◌, ◌+◌, Option, suc, refl, ap, sym, ◌∙◌, add-one, add_assoc, drop-cons, append_assoc, arith}
use Rattle.std.proofs.lemmas.List.{append-nil}
use Rattle.std.proofs.Math.Seq.{take-append_seam}
use Rattle.ob_base.specs.declared.fault.ProgramFault.{ProgramFault}
use Rattle.ob_base.specs.declared.fault.Span.{Span}
use Rattle.ob_tree.specs.Exprs.{Expr}
use Rattle.ob_tree.specs.Stmts as plain
use Rattle.ob_tree.specs.Stmts.{Stmts, no_stmts, and_stmt}
use Rattle.ob_tree.specs.StmtsView.{stmt_of, stmts_of}
use Rattle.ob_tree.specs.declared.name.NamePart.{NamePart}
use Rattle.ob_tree.specs.declared.name.Subject.{Subject}
use Rattle.ob_tree.specs.declared.stmt.Stmt.{Stmt}
use Rattle.ob_table_spec.specs.Names.{Name}
use Rattle.ob_resolve_spec.specs.declared.variable.ScopeVariable.{ScopeVariable}
use Rattle.ob_resolve_spec.specs.Scopes.{AroundBody, Scope, kind_of_subject, past, after_stmt, locals_in, locals_in_block, locals_in_stmts}
use Rattle.ob_resolve_spec.specs.declared.kind.InferredKind.TheVariants.{Bool as a_bool}
use Rattle.ob_resolve_spec.specs.Reached.{ends, one_ends}
use Rattle.ob_resolve_spec.specs.Sites.{Site, names_state, follows_statement}
use Rattle.ob_resolve_spec.specs.ExpressionSites.{value_sites}
use Rattle.ob_resolve_spec.specs.StatementSites.{span_of_stmt, on_contract, subject_sites, block_sites, else_sites, row_after, stmt_sites, stmts_sites}
use Rattle.ob_resolve_sites.specs.Noted.{noted, noted_at, noted-append, names_in}
use Rattle.ob_resolve_statements.specs.Walked.{after_stmts, rest_of_row}
use Rattle.ob_resolve_statements.proofs.RowLemmas.{stmts_same, same_after}
use Rattle.ob_resolve_statements.proofs.WalkLemmas.{walks}

-- a loop's turn: the statements from a place on are the one there, and those after it
stmts_of-drop : (ss : List Stmt) (i : ℕ) (x : Stmt) → i < length ss → x ≡ get_or ss i x
    → stmts_of (drop i ss) ≡ and_stmt (stmt_of x) (stmts_of (drop (i + 1) ss))
stmts_of-drop ss i x h is =
    rw (add-one, drop-cons ss i x) (ap (λ y. and_stmt (stmt_of y) (stmts_of (drop (suc i) ss))) (sym is))

sites_step : (a : AroundBody) (s : Scope) (row : List (Name × ℕ)) (ended : Bool) (l : Option ProgramFault) (x : plain.Stmt)
    (xs : Stmts)
    → noted (noted (noted_at l (follows_statement ended (span_of_stmt x))) (stmt_sites a s (names_in row) x))
    (stmts_sites a (after_stmt a s x) (names_in (rest_of_row row x)) (ended || ends x) xs)
    ≡ noted l (stmts_sites a s (names_in row) ended (and_stmt x xs))
sites_step a s row ended l x xs =
    stmts_same a (after_stmt a s x) (names_in (rest_of_row row x)) (row_after (names_in row) x) (ended || ends x)
    (noted (noted_at l (follows_statement ended (span_of_stmt x))) (stmt_sites a s (names_in row) x)) xs (same_after row x)
    ∙ sym (noted-append (noted_at l (follows_statement ended (span_of_stmt x))) (stmt_sites a s (names_in row) x)
    (stmts_sites a (after_stmt a s x) (row_after (names_in row) x) (ended || ends x) xs))

pub sites_turn : (a : AroundBody) (s : Scope) (row : List (Name × ℕ)) (ended : Bool) (l : Option ProgramFault)
    (ss : List Stmt) (i : ℕ) (x : Stmt) → i < length ss → x ≡ get_or ss i x
    → noted (noted (noted_at l (follows_statement ended (span_of_stmt (stmt_of x)))) (stmt_sites a s (names_in row) (stmt_of x)))
    (stmts_sites a (after_stmt a s (stmt_of x)) (names_in (rest_of_row row (stmt_of x))) (ended || ends (stmt_of x))
    (stmts_of (drop (i + 1) ss))) ≡ noted l (stmts_sites a s (names_in row) ended (stmts_of (drop i ss)))
sites_turn a s row ended l ss i x h is =
    sites_step a s row ended l (stmt_of x) (stmts_of (drop (i + 1) ss))
    ∙ ap (λ y. noted l (stmts_sites a s (names_in row) ended y)) (sym (stmts_of-drop ss i x h is))

pub scope_turn : (a : AroundBody) (s : Scope) (ss : List Stmt) (i : ℕ) (x : Stmt) → i < length ss → x ≡ get_or ss i x
    → after_stmts a (after_stmt a s (stmt_of x)) (stmts_of (drop (i + 1) ss)) ≡ after_stmts a s (stmts_of (drop i ss))
scope_turn a s ss i x h is = ap (after_stmts a s) (sym (stmts_of-drop ss i x h is))

or_assoc : (a b c : Bool) → ((a || b) || c) ≡ (a || (b || c))
or_assoc true b c = refl
or_assoc false b c = refl

pub or_false : (a : Bool) → (a || false) ≡ a
or_false true = refl
or_false false = refl

pub ends_turn : (ended : Bool) (ss : List Stmt) (i : ℕ) (x : Stmt) → i < length ss → x ≡ get_or ss i x
    → ((ended || ends (stmt_of x)) || one_ends (stmts_of (drop (i + 1) ss)))
    ≡ (ended || one_ends (stmts_of (drop i ss)))
ends_turn ended ss i x h is = or_assoc ended (ends (stmt_of x)) (one_ends (stmts_of (drop (i + 1) ss)))
    ∙ ap (λ y. ended || one_ends y) (sym (stmts_of-drop ss i x h is))

-- Locals are added after those that are there, so that the end of a block leaves the outer ones.

abbrev Extends : Scope → Scope → Type 0
Extends s t = (more : List ScopeVariable) × (t.variables ≡ s.variables ++ more)

stmt_extends : (a : AroundBody) (s : Scope) (x : plain.Stmt) → Extends s (after_stmt a s x)
stmt_extends a s (plain.declare_stmt of name value span) = (_ ∷ [], refl)
stmt_extends a s (plain.assign_stmt name value span) = ([], sym (append-nil s.variables))
stmt_extends a s (plain.stage_stmt state field value span) = ([], sym (append-nil s.variables))
stmt_extends a s (plain.change_stmt state given span) = ([], sym (append-nil s.variables))
stmt_extends a s (plain.call_stmt value span) = ([], sym (append-nil s.variables))
stmt_extends a s (plain.test_stmt subject state branch otherwise span) = ([], sym (append-nil s.variables))
stmt_extends a s (plain.if_stmt condition branch otherwise span) = ([], sym (append-nil s.variables))
stmt_extends a s (plain.while_stmt condition body span) = ([], sym (append-nil s.variables))
stmt_extends a s (plain.return_stmt value span) = ([], sym (append-nil s.variables))
stmt_extends a s (plain.revert_stmt text span) = ([], sym (append-nil s.variables))
stmt_extends a s (plain.disown_stmt name span) = ([], sym (append-nil s.variables))
stmt_extends a s (plain.assert_stmt subject perm span) = ([], sym (append-nil s.variables))

stmts_extend : (a : AroundBody) (s : Scope) (xs : Stmts) → Extends s (after_stmts a s xs)
stmts_extend a s no_stmts = ([], sym (append-nil s.variables))
stmts_extend a s (and_stmt x xs) =
    let p = stmt_extends a s x in
    let q = stmts_extend a (after_stmt a s x) xs in
    (p.0 ++ q.0, q.1 ∙ ap (λ vs. vs ++ q.0) p.1 ∙ append_assoc s.variables p.0 q.0)

pub outer_variables : (a : AroundBody) (s : Scope) (xs : Stmts)
    → take (length s.variables) (after_stmts a s xs).variables ≡ s.variables
outer_variables a s xs =
    let e = stmts_extend a s xs in ap (take (length s.variables)) e.1 ∙ take-append_seam s.variables e.0

stmt_counts : (a : AroundBody) (s : Scope) (x : plain.Stmt) → (after_stmt a s x).count ≡ s.count + locals_in x
stmt_counts a s (plain.declare_stmt of name value span) = refl
stmt_counts a s (plain.assign_stmt name value span) = refl
stmt_counts a s (plain.stage_stmt state field value span) = refl
stmt_counts a s (plain.change_stmt state given span) = refl
stmt_counts a s (plain.call_stmt value span) = refl
stmt_counts a s (plain.test_stmt subject state branch otherwise span) = refl
stmt_counts a s (plain.if_stmt condition branch otherwise span) = refl
stmt_counts a s (plain.while_stmt condition body span) = refl
stmt_counts a s (plain.return_stmt value span) = refl
stmt_counts a s (plain.revert_stmt text span) = refl
stmt_counts a s (plain.disown_stmt name span) = refl
stmt_counts a s (plain.assert_stmt subject perm span) = refl

pub all_count : (a : AroundBody) (s : Scope) (xs : Stmts) → (after_stmts a s xs).count ≡ s.count + locals_in_stmts xs
all_count a s no_stmts = omega arith
all_count a s (and_stmt x xs) =
    all_count a (after_stmt a s x) xs
    ∙ ap (λ n. n + locals_in_stmts xs) (stmt_counts a s x)
    ∙ add_assoc s.count (locals_in x) (locals_in_stmts xs)

-- the scope after a block
pub left_block : (a : AroundBody) (s : Scope) (xs : Stmts)
    → record (after_stmts a s xs) { variables = take (length s.variables) (after_stmts a s xs).variables }
    ≡ past s (locals_in_stmts xs)
left_block a s xs =
    ap (λ vs. record { variables = vs; count = (after_stmts a s xs).count }) (outer_variables a s xs)
    ∙ ap (λ n. record { variables = s.variables; count = n }) (all_count a s xs)

-- the scope after two blocks
pub past_both : (s : Scope) (m n : ℕ) → past (past s m) n ≡ past s (m + n)
past_both s m n = ap (λ k. record { variables = s.variables; count = k }) (add_assoc s.count m n)

-- what a test asks, part by part
abbrev tested_sites : AroundBody → Scope → Subject → NamePart → Span → List Site
tested_sites a s subject state span =
    subject_sites a s subject span ++ on_contract a (kind_of_subject a s subject) (λ c. names_state c state ∷ [])

pub test_sites : (a : AroundBody) (s : Scope) (row : List Name) (l : Option ProgramFault) (subject : Subject)
    (state : NamePart) (branch : plain.Block) (otherwise : plain.Else) (span : Span)
    → noted (noted (noted l (tested_sites a s subject state span)) (block_sites a s branch))
    (else_sites a (past s (locals_in_block branch)) otherwise)
    ≡ noted l (stmt_sites a s row (plain.test_stmt subject state branch otherwise span))
test_sites a s row l subject state branch otherwise span =
    let asked = tested_sites a s subject state span in
    let first = block_sites a s branch in
    let second = else_sites a (past s (locals_in_block branch)) otherwise in
    sym (noted-append l (asked ++ first) second ∙ ap (λ m. noted m second) (noted-append l asked first))

-- what an `if` asks, part by part
pub if_sites : (a : AroundBody) (s : Scope) (row : List Name) (l : Option ProgramFault) (condition : Expr)
    (branch : plain.Block) (otherwise : plain.Else) (span : Span)
    → noted (noted (noted l (value_sites a s a_bool condition)) (block_sites a s branch))
    (else_sites a (past s (locals_in_block branch)) otherwise)
    ≡ noted l (stmt_sites a s row (plain.if_stmt condition branch otherwise span))
if_sites a s row l condition branch otherwise span =
    let asked = value_sites a s a_bool condition in
    let first = block_sites a s branch in
    let second = else_sites a (past s (locals_in_block branch)) otherwise in
    sym (noted-append l (asked ++ first) second ∙ ap (λ m. noted m second) (noted-append l asked first))

pub ruleset statements = (walks, sites_turn, scope_turn, or_false, ends_turn, left_block, past_both)

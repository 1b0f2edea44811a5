-- Locals are added after those that are there, so that the end of a block leaves the outer ones.
use Rattle.std.proofs.Common.{◌≡◌, ℕ, List, [], ◌++◌, take, length, refl, ap, sym, ◌∙◌, ◌+◌, append_assoc, add_assoc, add-zero}
use Rattle.std.proofs.lemmas.List.{append-nil}
use Rattle.std.proofs.Math.Seq.{take-append_seam}
use Rattle.ob_tree.specs.Stmts.{Stmt, declare_stmt, assign_stmt, stage_stmt, change_stmt, call_stmt, test_stmt, if_stmt, while_stmt, return_stmt, revert_stmt, disown_stmt, assert_stmt, Stmts, no_stmts, and_stmt}
use Rattle.ob_tree.specs.StmtsView.{stmt_views}
use Rattle.ob_tree.specs.MembersView.{views}
use Rattle.ob_table.specs.StatementsView.{statement_views, resolved_views}
use Rattle.ob_resolve_spec.specs.declared.variable.ScopeVariable.{ScopeVariable}
use Rattle.ob_resolve_spec.specs.Scopes.{AroundBody, Scope, locals_in, locals_in_stmts, past, after_stmt}
use Rattle.ob_resolve_bodies.specs.Resolved.{after_stmts}

pub past-zero : (s : Scope) → past s 0 ≡ s
past-zero s = ap (λ n. record s { count = n }) (add-zero s.count)

pub past-past : (s : Scope) (m n : ℕ) → past (past s m) n ≡ past s (m + n)
past-past s m n = ap (λ k. record s { count = k }) (add_assoc s.count m n)

-- the second scope has the variables of the first one, and maybe more
abbrev Extends : Scope → Scope → Type 0
Extends s t = (more : List ScopeVariable) × (t.variables ≡ s.variables ++ more)

extends_more : (s t u : Scope) → Extends s t → Extends t u → Extends s u
extends_more s t u p q = (p.0 ++ q.0, q.1 ∙ ap (λ x. x ++ q.0) p.1 ∙ append_assoc s.variables p.0 q.0)

same_variables : (s : Scope) → Extends s s
same_variables s = ([], sym (append-nil s.variables))

stmt_extends : (a : AroundBody) (s : Scope) (x : Stmt) → Extends s (after_stmt a s x)
stmt_extends a s (declare_stmt of name value span) = (_, refl)
stmt_extends a s (assign_stmt name value span) = same_variables s
stmt_extends a s (stage_stmt state field value span) = same_variables s
stmt_extends a s (change_stmt state given span) = same_variables s
stmt_extends a s (call_stmt value span) = same_variables s
stmt_extends a s (test_stmt subject state branch otherwise span) = same_variables s
stmt_extends a s (if_stmt condition branch otherwise span) = same_variables s
stmt_extends a s (while_stmt condition body span) = same_variables s
stmt_extends a s (return_stmt value span) = same_variables s
stmt_extends a s (revert_stmt text span) = same_variables s
stmt_extends a s (disown_stmt name span) = same_variables s
stmt_extends a s (assert_stmt subject perm span) = same_variables s

stmts_extend : (a : AroundBody) (s : Scope) (xs : Stmts) → Extends s (after_stmts a s xs)
stmts_extend a s no_stmts = same_variables s
stmts_extend a s (and_stmt x xs) =
    extends_more s (after_stmt a s x) (after_stmts a (after_stmt a s x) xs) (stmt_extends a s x)
    (stmts_extend a (after_stmt a s x) xs)

stmt_counts : (a : AroundBody) (s : Scope) (x : Stmt) → (after_stmt a s x).count ≡ s.count + locals_in x
stmt_counts a s (declare_stmt of name value span) = refl
stmt_counts a s (assign_stmt name value span) = refl
stmt_counts a s (stage_stmt state field value span) = refl
stmt_counts a s (change_stmt state given span) = refl
stmt_counts a s (call_stmt value span) = refl
stmt_counts a s (test_stmt subject state branch otherwise span) = refl
stmt_counts a s (if_stmt condition branch otherwise span) = refl
stmt_counts a s (while_stmt condition body span) = refl
stmt_counts a s (return_stmt value span) = refl
stmt_counts a s (revert_stmt text span) = refl
stmt_counts a s (disown_stmt name span) = refl
stmt_counts a s (assert_stmt subject perm span) = refl

stmts_count : (a : AroundBody) (s : Scope) (xs : Stmts) → (after_stmts a s xs).count ≡ s.count + locals_in_stmts xs
stmts_count a s no_stmts = sym (add-zero s.count)
stmts_count a s (and_stmt x xs) =
    stmts_count a (after_stmt a s x) xs ∙ ap (λ n. n + locals_in_stmts xs) (stmt_counts a s x)
    ∙ add_assoc s.count (locals_in x) (locals_in_stmts xs)

-- at the end of a block the outer variables are left, and its locals have their numbers
pub left : (a : AroundBody) (s : Scope) (xs : Stmts)
    → record (after_stmts a s xs) { variables = take (length s.variables) (after_stmts a s xs).variables }
    ≡ past s (locals_in_stmts xs)
left a s xs =
    let e = stmts_extend a s xs in
    let outer : take (length s.variables) (after_stmts a s xs).variables ≡ s.variables =
    ap (take (length s.variables)) e.1 ∙ take-append_seam s.variables e.0 in
    ap (λ v. record (after_stmts a s xs) { variables = v }) outer
    ∙ ap (λ n. record s { count = n }) (stmts_count a s xs)

-- one statement
pub ruleset statement = (stmt_views, statement_views, past-zero, past-past)

pub ruleset statements = (views, resolved_views, past-zero, past-past, left)

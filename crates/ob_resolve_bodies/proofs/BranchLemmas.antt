-- A statement with branches: what is made of its parts, where each of them could be made.
use Rattle.std.proofs.Common.{◌≡◌, Result, Ok, Err, IfOk, OnOk, IsOkAnd, Option}
use Rattle.ob_base.specs.declared.fault.Span.{Span}
use Rattle.ob_base.specs.declared.id.StateId.{StateId}
use Rattle.ob_base.specs.declared.cause.Memory.{Memory}
use Rattle.ob_table.specs.Expressions.{Expression}
use Rattle.ob_table.specs.Statements.{Block, Otherwise, resolved_test, resolved_if, resolved_while}
use Rattle.ob_table.specs.ExpressionsView.{expression_of}
use Rattle.ob_table.specs.StatementsView.{statement_of, resolved_block_of, otherwise_of}
use Rattle.ob_table.specs.declared.expr.ResolvedExpr.{ResolvedExpr}
use Rattle.ob_table.specs.declared.seen.SeenAt.{SeenAt}
use Rattle.ob_table.specs.declared.stmt.ResolvedBlock.{ResolvedBlock}
use Rattle.ob_table.specs.declared.stmt.ResolvedStmt.{ResolvedStmt}
use Rattle.ob_resolve_spec.specs.Scopes.{Scope}

-- after both branches is what is after the second one
pub after_branches : {X T B O : Type 0} {E : Type 0} (A C D : Type 0) (r : Result X E) (first : Result T E)
    (branch : Result B E) (other : Result O E) (P : X → T → B → O → Type 0)
    → IfOk r (λ x. IsOkAnd first (λ t. IsOkAnd branch (λ b. IsOkAnd other (λ o. P x t b o))))
    → OnOk branch A → OnOk other C → (A → C → D) → OnOk r D
after_branches A C D (Err e) first branch other P made p q f = tt
after_branches A C D (Ok x) (Err e) branch other P made p q f = absurd made
after_branches A C D (Ok x) (Ok t) (Err e) other P made p q f = absurd made
after_branches A C D (Ok x) (Ok t) (Ok b) (Err e) P made p q f = absurd made
after_branches A C D (Ok x) (Ok t) (Ok b) (Ok o) P made p q f = f p q

-- after a `while` is what is after its block
pub after_loop : {X T B : Type 0} {E : Type 0} (A D : Type 0) (r : Result X E) (first : Result T E)
    (body : Result B E) (P : X → T → B → Type 0)
    → IfOk r (λ x. IsOkAnd first (λ t. IsOkAnd body (λ b. P x t b)))
    → OnOk body A → (A → D) → OnOk r D
after_loop A D (Err e) first body P made p f = tt
after_loop A D (Ok x) (Err e) body P made p f = absurd made
after_loop A D (Ok x) (Ok t) (Err e) P made p f = absurd made
after_loop A D (Ok x) (Ok t) (Ok b) P made p f = f p

pub test_made : (r : Result ResolvedStmt Memory) (tested : Result (SeenAt × StateId) Memory)
    (branch : Result ResolvedBlock Memory) (other : Result (Option ResolvedBlock) Memory) (seen : SeenAt)
    (state : StateId) (block : Block) (otherwise : Scope → Otherwise) (s u : Scope) (span : Span)
    → IfOk r (λ x. IsOkAnd tested (λ t. IsOkAnd branch (λ b. IsOkAnd other (λ o.
    statement_of x ≡ resolved_test t.0 t.1 (resolved_block_of b) (otherwise_of o) span))))
    → IfOk tested (λ t. t.0 ≡ seen) → IfOk tested (λ t. t.1 ≡ state)
    → IfOk branch (λ b. resolved_block_of b ≡ block) → OnOk branch (s ≡ u)
    → IfOk other (λ o. otherwise_of o ≡ otherwise s)
    → IfOk r (λ x. statement_of x ≡ resolved_test seen state block (otherwise u) span)
test_made (Err e) tested branch other seen state block otherwise s u span made p q b h o = tt
test_made (Ok x) (Err e) branch other seen state block otherwise s u span made p q b h o = absurd made
test_made (Ok x) (Ok t) (Err e) other seen state block otherwise s u span made p q b h o = absurd made
test_made (Ok x) (Ok t) (Ok y) (Err e) seen state block otherwise s u span made p q b h o = absurd made
test_made (Ok x) (Ok t) (Ok y) (Ok z) seen state block otherwise s u span made p q b h o = cc

pub if_made : (r : Result ResolvedStmt Memory) (condition : Result ResolvedExpr Memory)
    (branch : Result ResolvedBlock Memory) (other : Result (Option ResolvedBlock) Memory) (asked : Expression)
    (block : Block) (otherwise : Scope → Otherwise) (s u : Scope) (span : Span)
    → IfOk r (λ x. IsOkAnd condition (λ e. IsOkAnd branch (λ b. IsOkAnd other (λ o.
    statement_of x ≡ resolved_if (expression_of e) (resolved_block_of b) (otherwise_of o) span))))
    → IfOk condition (λ e. expression_of e ≡ asked)
    → IfOk branch (λ b. resolved_block_of b ≡ block) → OnOk branch (s ≡ u)
    → IfOk other (λ o. otherwise_of o ≡ otherwise s)
    → IfOk r (λ x. statement_of x ≡ resolved_if asked block (otherwise u) span)
if_made (Err e) condition branch other asked block otherwise s u span made p b h o = tt
if_made (Ok x) (Err e) branch other asked block otherwise s u span made p b h o = absurd made
if_made (Ok x) (Ok t) (Err e) other asked block otherwise s u span made p b h o = absurd made
if_made (Ok x) (Ok t) (Ok y) (Err e) asked block otherwise s u span made p b h o = absurd made
if_made (Ok x) (Ok t) (Ok y) (Ok z) asked block otherwise s u span made p b h o = cc

pub while_made : (r : Result ResolvedStmt Memory) (condition : Result ResolvedExpr Memory)
    (body : Result ResolvedBlock Memory) (asked : Expression) (block : Block) (span : Span)
    → IfOk r (λ x. IsOkAnd condition (λ e. IsOkAnd body (λ b.
    statement_of x ≡ resolved_while (expression_of e) (resolved_block_of b) span)))
    → IfOk condition (λ e. expression_of e ≡ asked) → IfOk body (λ b. resolved_block_of b ≡ block)
    → IfOk r (λ x. statement_of x ≡ resolved_while asked block span)
while_made (Err e) condition body asked block span made p b = tt
while_made (Ok x) (Err e) body asked block span made p b = absurd made
while_made (Ok x) (Ok t) (Err e) asked block span made p b = absurd made
while_made (Ok x) (Ok t) (Ok y) asked block span made p b = cc

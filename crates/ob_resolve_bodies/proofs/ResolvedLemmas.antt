-- A loop's turn, where parts are resolved one after another.
use Rattle.std.proofs.Common.{◌≡◌, ℕ, Option, List, [], ◌∷◌, ◌++◌, map, drop, refl, ap, sym, ◌∙◌, length, get_or, suc, ◌<◌, ◌≤◌, ◌+◌, add-one, drop-cons}
use Rattle.std.proofs.lemmas.List.{drop_all, map-append}
use Rattle.ob_tree.specs.Exprs.{and_expr}
use Rattle.ob_tree.specs.Stmts.{and_stmt}
use Rattle.ob_base.specs.declared.fault.Span.{Span}
use Rattle.ob_base.specs.declared.id.ContractId.{ContractId}
use Rattle.ob_base.specs.declared.id.TxId.{TxId}
use Rattle.ob_tree.specs.ExprsView.{expr_of, exprs_of, call_of, call_of-fields}
use Rattle.ob_tree.specs.declared.expr.CallNode.{CallNode}
use Rattle.ob_tree.specs.StmtsView.{stmt_of, stmts_of}
use Rattle.ob_tree.specs.declared.expr.Expr.{Expr}
use Rattle.ob_tree.specs.declared.stmt.Stmt.{Stmt}
use Rattle.ob_table.specs.Expressions.{Expression, Arguments, no_arguments, and_argument, arguments}
use Rattle.ob_table.specs.Statements.{Statement, Statements, no_statements, and_statement, statements}
use Rattle.ob_table.specs.ExpressionsView.{expression_of, arguments_of, expression_of-Call, called-fields}
use Rattle.ob_table.specs.StatementsView.{statement_of}
use Rattle.ob_table.specs.declared.expr.ResolvedExpr.{ResolvedExpr, Call}
use Rattle.ob_table.specs.declared.expr.ResolvedCall.{roll-ResolvedCall}
use Rattle.ob_table.specs.declared.seen.SeenAt.{SeenAt}
use Rattle.ob_table.specs.declared.stmt.ResolvedStmt.{ResolvedStmt}
use Rattle.ob_resolve_spec.specs.declared.kind.InferredKind.{InferredKind}
use Rattle.ob_resolve_spec.specs.Kinds.{contract_of_kind}
use Rattle.ob_resolve_spec.specs.Scopes.{AroundBody, Scope, after_stmt}
use Rattle.ob_resolve_spec.specs.Numbers.{transaction_id}
use Rattle.ob_resolve_spec.specs.Bodies.{id_of_kind, resolved_receiver, kind_of_receiver, resolved_expr, resolved_call_at, resolved_args, resolved_stmt, resolved_stmts}
use Rattle.ob_resolve_bodies.specs.Resolved.{before_arguments, before_statements, after_stmts}

-- Arguments.

exprs_of-drop : (es : List Expr) (i : ℕ) (e : Expr) → i < length es → e ≡ get_or es i e
    → exprs_of (drop i es) ≡ and_expr (expr_of e) (exprs_of (drop (i + 1) es))
exprs_of-drop es i e h is = rw (add-one, drop-cons es i e) (ap (λ x. and_expr (expr_of x) (exprs_of (drop (suc i) es)))
    (sym is))

before_arguments-push : (done : List Expression) (x : Expression) (rest : Arguments)
    → before_arguments (done ++ x ∷ []) rest ≡ before_arguments done (and_argument x rest)
before_arguments-push [] x rest = refl
before_arguments-push (y ∷ done) x rest = ap (and_argument y) (before_arguments-push done x rest)

pub args_turn : (a : AroundBody) (s : Scope) (done : List ResolvedExpr) (x : ResolvedExpr) (es : List Expr) (i : ℕ)
    (e : Expr)
    → i < length es → e ≡ get_or es i e → expression_of x ≡ resolved_expr a s (expr_of e)
    → before_arguments (map expression_of (done ++ x ∷ [])) (resolved_args a s (exprs_of (drop (i + 1) es)))
    ≡ before_arguments (map expression_of done) (resolved_args a s (exprs_of (drop i es)))
args_turn a s done x es i e h is made =
    ap (λ y. before_arguments y (resolved_args a s (exprs_of (drop (i + 1) es))))
    (map-append expression_of done (x ∷ []))
    ∙ before_arguments-push (map expression_of done) (expression_of x) (resolved_args a s (exprs_of (drop (i + 1) es)))
    ∙ ap (λ y. before_arguments (map expression_of done)
    (and_argument y (resolved_args a s (exprs_of (drop (i + 1) es))))) made
    ∙ ap (λ y. before_arguments (map expression_of done) (resolved_args a s y)) (sym (exprs_of-drop es i e h is))

before_arguments-none : (done : List Expression) → before_arguments done no_arguments ≡ arguments done
before_arguments-none [] = refl
before_arguments-none (x ∷ done) = ap (and_argument x) (before_arguments-none done)

pub args_all : (a : AroundBody) (s : Scope) (done : List Expression) (es : List Expr) (i : ℕ) → length es ≤ i
    → arguments done ≡ before_arguments done (resolved_args a s (exprs_of (drop i es)))
args_all a s done es i all =
    sym (before_arguments-none done)
    ∙ ap (λ y. before_arguments done (resolved_args a s (exprs_of y))) (sym (drop_all i es all))

-- a call whose parts are resolved
pub call_made : (a : AroundBody) (s : Scope) (call : CallNode) (span : Span) (kind : InferredKind) (receiver : Option SeenAt)
    (contract : ContractId) (tx : TxId) (args : List ResolvedExpr)
    → receiver ≡ resolved_receiver a s call.receiver → kind ≡ kind_of_receiver a s call.receiver
    → contract ≡ id_of_kind kind
    → tx ≡ transaction_id (contract_of_kind a.program kind) call.name.name
    → arguments_of args ≡ resolved_args a s (exprs_of call.args)
    → expression_of (Call (roll-ResolvedCall (record {
      receiver = receiver;
      contract = contract;
      tx = tx;
      name =
          call.name.span;
      args = args;
    })) span)
    ≡ resolved_call_at a s (call_of call) span
call_made a s call span kind receiver contract tx args seen of number called given =
    let k = kind_of_receiver a s call.receiver in
    let node = roll-ResolvedCall (record {
      receiver = receiver;
      contract = contract;
      tx = tx;
      name =
          call.name.span;
      args = args;
    }) in
    let contract_is : contract ≡ id_of_kind k = number ∙ ap id_of_kind of in
    let tx_is : tx ≡ transaction_id (contract_of_kind a.program k) call.name.name =
    called ∙ ap (λ k. transaction_id (contract_of_kind a.program k) call.name.name) of in
    expression_of-Call node span ∙ called-fields node span ∙ (cc)
    ∙ sym (ap (λ x. resolved_call_at a s x span) (call_of-fields call))

-- Statements.

stmts_of-drop : (ss : List Stmt) (i : ℕ) (x : Stmt) → i < length ss → x ≡ get_or ss i x
    → stmts_of (drop i ss) ≡ and_stmt (stmt_of x) (stmts_of (drop (i + 1) ss))
stmts_of-drop ss i x h is = rw (add-one, drop-cons ss i x) (ap (λ y. and_stmt (stmt_of y) (stmts_of (drop (suc i) ss)))
    (sym is))

before_statements-push : (done : List Statement) (x : Statement) (rest : Statements)
    → before_statements (done ++ x ∷ []) rest ≡ before_statements done (and_statement x rest)
before_statements-push [] x rest = refl
before_statements-push (y ∷ done) x rest = ap (and_statement y) (before_statements-push done x rest)

pub stmts_turn : (a : AroundBody) (s : Scope) (done : List ResolvedStmt) (y : ResolvedStmt) (ss : List Stmt) (i : ℕ)
    (x : Stmt)
    → i < length ss → x ≡ get_or ss i x → statement_of y ≡ resolved_stmt a s (stmt_of x)
    → before_statements (map statement_of (done ++ y ∷ []))
    (resolved_stmts a (after_stmt a s (stmt_of x)) (stmts_of (drop (i + 1) ss)))
    ≡ before_statements (map statement_of done) (resolved_stmts a s (stmts_of (drop i ss)))
stmts_turn a s done y ss i x h is made =
    let rest = resolved_stmts a (after_stmt a s (stmt_of x)) (stmts_of (drop (i + 1) ss)) in
    ap (λ z. before_statements z rest) (map-append statement_of done (y ∷ []))
    ∙ before_statements-push (map statement_of done) (statement_of y) rest
    ∙ ap (λ z. before_statements (map statement_of done) (and_statement z rest)) made
    ∙ ap (λ z. before_statements (map statement_of done) (resolved_stmts a s z)) (sym (stmts_of-drop ss i x h is))

before_statements-none : (done : List Statement) → before_statements done no_statements ≡ statements done
before_statements-none [] = refl
before_statements-none (x ∷ done) = ap (and_statement x) (before_statements-none done)

pub stmts_all : (a : AroundBody) (s : Scope) (done : List Statement) (ss : List Stmt) (i : ℕ) → length ss ≤ i
    → statements done ≡ before_statements done (resolved_stmts a s (stmts_of (drop i ss)))
stmts_all a s done ss i all =
    sym (before_statements-none done)
    ∙ ap (λ z. before_statements done (resolved_stmts a s (stmts_of z))) (sym (drop_all i ss all))

pub scope_turn : (a : AroundBody) (s : Scope) (ss : List Stmt) (i : ℕ) (x : Stmt) → i < length ss → x ≡ get_or ss i x
    → after_stmts a (after_stmt a s (stmt_of x)) (stmts_of (drop (i + 1) ss)) ≡ after_stmts a s (stmts_of (drop i ss))
scope_turn a s ss i x h is = ap (after_stmts a s) (sym (stmts_of-drop ss i x h is))

pub scope_all : (a : AroundBody) (s : Scope) (ss : List Stmt) (i : ℕ) → length ss ≤ i
    → s ≡ after_stmts a s (stmts_of (drop i ss))
scope_all a s ss i all = ap (λ z. after_stmts a s (stmts_of z)) (sym (drop_all i ss all))

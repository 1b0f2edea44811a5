use Rattle.std.proofs.Common.{◌≡◌, ℕ, List, ◌++◌, Result, Ok, Err, OnOk, sym, ap, ◌∙◌, string_bytes}
use Rattle.ob_lexer.specs.declared.token.TokenKind.{TokenKind}
use Rattle.ob_tree_print.specs.Written.{written, written-none, written-cons, written-append}
use Rattle.ob_tree_print.specs.StmtTokens.{tokens_of_test, tokens_of_condition, tokens_of_while, tokens_of_stmt, tokens_of_block, tokens_of_else}
use Rattle.ob_tree.specs.ExprsView.{expr_of}
use Rattle.ob_tree.specs.StmtsView.{stmt_of, block_of, else_of, stmt_of-Declare, stmt_of-Assign, stmt_of-Stage, stmt_of-Change, stmt_of-Call, stmt_of-Test, stmt_of-If, stmt_of-While, stmt_of-Return, stmt_of-Revert, stmt_of-Disown, stmt_of-Assert}
use Rattle.ob_tree_print.proofs.stmt.+print_stmt.Goals as goal

on_ok : {A E : Type 0} (r : Result A E) (P Q : Type 0) → (P → Q) → OnOk r P → OnOk r Q
on_ok (Ok x) P Q f p = f p
on_ok (Err e) P Q f p = p

-- three parts, one after another
three : (a b c d : List ℕ) (xs ys zs all : List TokenKind) → b ≡ written a xs → c ≡ written b ys → d ≡ written c zs → all ≡ xs ++ (ys ++ zs) → d ≡ written a all
three a b c d xs ys zs all first second third row =
    third ∙ ap (λ m. written m zs) (second ∙ ap (λ m. written m ys) first) ∙ sym (written-append (written a xs) ys zs) ∙ sym (written-append a xs (ys ++ zs)) ∙ ap (λ ts. written a ts) (sym row)

pub put_stmt-returns-in_ok-put_block-in-Test : goal.put_stmt-returns-in_ok-put_block-in-Test
put_stmt-returns-in_ok-put_block-in-Test t c =
    let row : tokens_of_stmt (stmt_of c.args.statement.now) ≡ tokens_of_test c.in-Test.subject c.in-Test.state ++ (tokens_of_block (block_of c.in-Test.then) ++ tokens_of_else (else_of c.in-Test.otherwise)) =
    ap (λ s. tokens_of_stmt (stmt_of s)) c.in-Test.is ∙ ap tokens_of_stmt (stmt_of-Test c.in-Test.subject c.in-Test.state c.in-Test.then c.in-Test.otherwise c.in-Test.span) in
    on_ok c.put_else.result _ _ (λ last. three _ _ _ _ _ _ _ _ c.in_ok-put_test-in-Test.ensures c.in_ok-put_block-in-Test.ensures last row) c.put_else.ensures

pub put_stmt-returns-in_ok-put_block-in-If : goal.put_stmt-returns-in_ok-put_block-in-If
put_stmt-returns-in_ok-put_block-in-If t c =
    let row : tokens_of_stmt (stmt_of c.args.statement.now) ≡ tokens_of_condition (expr_of c.in-If.condition) ++ (tokens_of_block (block_of c.in-If.then) ++ tokens_of_else (else_of c.in-If.otherwise)) =
    ap (λ s. tokens_of_stmt (stmt_of s)) c.in-If.is ∙ ap tokens_of_stmt (stmt_of-If c.in-If.condition c.in-If.then c.in-If.otherwise c.in-If.span) in
    on_ok c.put_else-in-If.result _ _ (λ last. three _ _ _ _ _ _ _ _ c.in_ok-put_condition-in-If.ensures c.in_ok-put_block-in-If.ensures last row) c.put_else-in-If.ensures

pub put_stmt-returns-in_ok-put_while-in-While : goal.put_stmt-returns-in_ok-put_while-in-While
put_stmt-returns-in_ok-put_while-in-While t c =
    rw (c.in-While.is, stmt_of-While, written-append) (rw c.in_ok-put_while-in-While.ensures at c.put_block-in-While.ensures)

pub put_stmt-returns-in_ok-put_part-in-Declare : goal.put_stmt-returns-in_ok-put_part-in-Declare
put_stmt-returns-in_ok-put_part-in-Declare t c =
    rw (c.in-Declare.is, stmt_of-Declare, written-append, written-cons) (rw (c.in_ok-put_part-in-Declare.ensures, c.in_ok-put_local-in-Declare.ensures) at c.put_setting.ensures)

pub put_stmt-returns-in_ok-put_part-in-Assign : goal.put_stmt-returns-in_ok-put_part-in-Assign
put_stmt-returns-in_ok-put_part-in-Assign t c =
    rw (c.in-Assign.is, stmt_of-Assign, written-cons) (rw c.in_ok-put_part-in-Assign.ensures at c.put_setting-in-Assign.ensures)

pub put_stmt-returns-in_ok-put_part-in-Stage-2 : goal.put_stmt-returns-in_ok-put_part-in-Stage-2
put_stmt-returns-in_ok-put_part-in-Stage-2 t c =
    rw (c.in-Stage.is, stmt_of-Stage, written-cons, written-cons, written-cons) (rw (c.in_ok-put_part-in-Stage-2.ensures, c.in_ok-put_sign-in-Stage.ensures, c.in_ok-put_part-in-Stage.ensures) at c.put_setting-in-Stage.ensures)

pub put_stmt-returns-in_ok-put_change-in-Change : goal.put_stmt-returns-in_ok-put_change-in-Change
put_stmt-returns-in_ok-put_change-in-Change t c =
    rw (c.in-Change.is, stmt_of-Change, written-cons, written-cons, written-append, written-cons, written-none) (rw (c.in_ok-put_change-in-Change.ensures, c.in_ok-put_part-in-Change.ensures, c.in_ok-put_sign-in-Change.ensures, c.as_slice.ensures) at c.put_sign-in-Change-2.ensures)

pub put_stmt-returns-in_ok-put_expr-in-Call : goal.put_stmt-returns-in_ok-put_expr-in-Call
put_stmt-returns-in_ok-put_expr-in-Call t c =
    rw (c.in-Call.is, stmt_of-Call, written-append, written-cons, written-none) (rw c.in_ok-put_expr-in-Call.ensures at c.put_sign-in-Call.ensures)

pub put_stmt-returns-in_ok-put_value-in-Return : goal.put_stmt-returns-in_ok-put_value-in-Return
put_stmt-returns-in_ok-put_value-in-Return t c =
    rw (c.in-Return.is, stmt_of-Return, written-cons, written-append, written-cons, written-none) (rw (c.in_ok-put_value-in-Return.ensures, c.in_ok-put_word-in-Return.ensures) at c.put_sign-in-Return.ensures)

pub put_stmt-returns-in_ok-put_value-in-Revert : goal.put_stmt-returns-in_ok-put_value-in-Revert
put_stmt-returns-in_ok-put_value-in-Revert t c =
    rw (c.in-Revert.is, stmt_of-Revert, written-cons, written-append, written-cons, written-none) (rw (c.in_ok-put_value-in-Revert.ensures, c.in_ok-put_word-in-Revert.ensures) at c.put_sign-in-Revert.ensures)

pub put_stmt-returns-in_ok-put_part-in-Disown : goal.put_stmt-returns-in_ok-put_part-in-Disown
put_stmt-returns-in_ok-put_part-in-Disown t c =
    rw (c.in-Disown.is, stmt_of-Disown, written-cons, written-cons, written-cons, written-none) (rw (c.in_ok-put_part-in-Disown.ensures, c.in_ok-put_word-in-Disown.ensures) at c.put_sign-in-Disown.ensures)

pub put_stmt-returns-in_ok-put_claim-in-Assert : goal.put_stmt-returns-in_ok-put_claim-in-Assert
put_stmt-returns-in_ok-put_claim-in-Assert t c =
    rw (c.in-Assert.is, stmt_of-Assert, written-append, written-cons, written-none) (rw c.in_ok-put_claim-in-Assert.ensures at c.put_sign-in-Assert.ensures)

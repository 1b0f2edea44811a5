use Rattle.std.proofs.Common.{rules, ◌∙◌, sym, map}
use Rattle.ob_lexer.specs.declared.token.Word.TheVariants.{If}
use Rattle.ob_lexer.specs.declared.token.Sign.TheVariants.{OpenBrace}
use Rattle.ob_tree.specs.StmtsView.{stmt_of, block_of, else_of, stmt_views}
use Rattle.ob_parser_spec.specs.Symbols.{a_word, a_sign}
use Rattle.ob_parser_spec.specs.Readers.{span_if, read_many}
use Rattle.ob_parser_spec.specs.StmtReaders.{stmt_first, read_stmt, read_branches, read_loop}
use Rattle.ob_parser_spec.specs.AllReaders.{all_refs, all_counted, all_exprs, all_branches, all_loops, all_stmts}
use Rattle.ob_parser_expressions.specs.Answering.{Halts}
use Rattle.ob_parser_expressions.proofs.Halts.{halts_bind}
use Rattle.ob_parser_expressions.proofs.Loops.{none_before, kept_as}
use Rattle.ob_parser_expressions.proofs.Tails.{halts_in}
use Rattle.ob_parser_expressions.proofs.Nexts.{next_done, next_halts}
use Rattle.ob_parser_spec.proofs.Deeper.{branches_step, loops_step}
use Rattle.ob_parser_expressions.proofs.CodeTokens.{opened_is}
use Rattle.ob_parser.proofs.CodeStatements.{stmt_consumes}
use Rattle.ob_parser.proofs.statements.+stmt.Goals as goal

pub block-returns-in_err-statements : goal.block-returns-in_err-statements
block-returns-in_err-statements t c = rw (opened_is (span_if (a_sign OpenBrace)) 1 c.args.room all_stmts c.args.tokens.now) (search (rules, halts_bind))

pub block-returns-in_err-statements-2 : goal.block-returns-in_err-statements-2
block-returns-in_err-statements-2 t c = rw (opened_is (span_if (a_sign OpenBrace)) 1 c.args.room all_stmts c.args.tokens.now) (search (rules, halts_bind))

pub block-returns : goal.block-returns
block-returns t c = rw (opened_is (span_if (a_sign OpenBrace)) 1 c.args.room all_stmts c.args.tokens.now) (search (rules, stmt_views))

pub statement_list-statements-init : goal.statement_list-statements-init
statement_list-statements-init t c = rw c.new-statements.ensures (none_before (read_many stmt_first (read_stmt all_refs all_counted all_branches all_loops c.args.room) c.args.tokens.now))

pub statement_list-statements-smaller : goal.statement_list-statements-smaller
statement_list-statements-smaller t c = (stmt_consumes c.args.room c.ranges.room.fits).fewer c.statements.rest.now (stmt_of c.in_ok-statement.statement) c.in_ok-statement.after.now c.in_ok-statement.ensures

pub statement_list-statements-preserved : goal.statement_list-statements-preserved
statement_list-statements-preserved t c = kept_as stmt_first (read_stmt all_refs all_counted all_branches all_loops c.args.room) stmt_of c.statements.statements c.push.new.self c.statements.rest.now c.in_ok-statement.after.now c.in_ok-statement.statement _ (stmt_consumes c.args.room c.ranges.room.fits) c.statements.invariant c.in_ok-push.ensures.ok (sym c.starts_with_one_of.ensures ∙ c.statements-test.true) c.in_ok-statement.ensures

pub after_if-returns-in_err-rest : goal.after_if-returns-in_err-rest
after_if-returns-in_err-rest t c =
    let why : Halts c.in_err-rest.field-0.0 (read_branches (all_exprs c.args.room) all_stmts all_branches c.args.room c.args.tokens.now) = halts_bind _ _ _ (halts_bind _ _ _ c.in_err-rest.ensures) in
    rw (branches_step c.args.room c.ranges.room.fits c.args.tokens.now) (search rules)

pub after_if-returns-in_err-question : goal.after_if-returns-in_err-question
after_if-returns-in_err-question t c =
    let why : Halts c.in_err-question.field-0.0 (read_branches (all_exprs c.args.room) all_stmts all_branches c.args.room c.args.tokens.now) = rw c.in_ok-rest.ensures (halts_bind _ _ _ (halts_bind _ _ _ (halts_bind _ _ _ c.in_err-question.ensures))) in
    rw (branches_step c.args.room c.ranges.room.fits c.args.tokens.now) (search rules)

pub after_if-returns-in_err-question-2 : goal.after_if-returns-in_err-question-2
after_if-returns-in_err-question-2 t c =
    let why : Halts c.in_err-question-2.field-0.0 (read_branches (all_exprs c.args.room) all_stmts all_branches c.args.room c.args.tokens.now) = rw (c.in_ok-rest.ensures, c.in_ok-question.ensures) (halts_bind _ _ _ (halts_bind _ _ _ (halts_bind _ _ _ (halts_bind _ _ _ c.in_err-question-2.ensures.err)))) in
    rw (branches_step c.args.room c.ranges.room.fits c.args.tokens.now) (search rules)

pub after_if-returns-in_err-question-3 : goal.after_if-returns-in_err-question-3
after_if-returns-in_err-question-3 t c =
    let then = next_halts block_of c.block.result _ _ c.in_err-question-3.ensures.err c.block.ensures in
    let why : Halts c.in_err-question-3.field-0.0 (read_branches (all_exprs c.args.room) all_stmts all_branches c.args.room c.args.tokens.now) = rw (c.in_ok-rest.ensures, c.in_ok-question.ensures, c.in_ok-question-2.ensures.ok) (halts_bind _ _ _ (halts_bind _ _ _ (halts_bind _ _ _ (halts_bind _ _ _ (halts_bind _ _ _ then))))) in
    rw (branches_step c.args.room c.ranges.room.fits c.args.tokens.now) (search rules)

pub after_if-returns-in_err-parts : goal.after_if-returns-in_err-parts
after_if-returns-in_err-parts t c =
    let then = next_done block_of c.block.result _ _ _ c.in_ok-question-3.ensures.ok c.block.ensures in
    let otherwise = next_halts else_of c.alternative.result _ _ c.in_err-parts.ensures.err c.alternative.ensures in
    let why : Halts c.in_err-parts.field-0.0 (read_branches (all_exprs c.args.room) all_stmts all_branches c.args.room c.args.tokens.now) = rw (c.in_ok-rest.ensures, c.in_ok-question.ensures, c.in_ok-question-2.ensures.ok, then) (halts_bind _ _ _ (halts_bind _ _ _ (halts_bind _ _ _ (halts_bind _ _ _ (halts_bind _ _ _ otherwise))))) in
    rw (branches_step c.args.room c.ranges.room.fits c.args.tokens.now) (search rules)

pub after_if-returns : goal.after_if-returns
after_if-returns t c = rw (branches_step c.args.room c.ranges.room.fits c.args.tokens.now) (search rules)

pub chained-returns : goal.chained-returns
chained-returns t c = rw (opened_is (span_if (a_word If)) 1 c.args.room all_branches c.args.tokens.now) (search rules)

pub block-returns-in_err-rest : goal.block-returns-in_err-rest
block-returns-in_err-rest t c = rw (opened_is (span_if (a_sign OpenBrace)) 1 c.args.room all_stmts c.args.tokens.now) (search (rules, halts_bind))

pub statement_list-returns-in_err-statement : goal.statement_list-returns-in_err-statement
statement_list-returns-in_err-statement t c =
    let why = halts_in stmt_first (read_stmt all_refs all_counted all_branches all_loops c.args.room) (map stmt_of c.statements.statements) c.statements.rest.now c.in_err-statement.field-0.0 (read_many stmt_first (read_stmt all_refs all_counted all_branches all_loops c.args.room) c.args.tokens.now) c.statements.invariant (sym c.starts_with_one_of.ensures ∙ c.statements-test.true) c.in_err-statement.ensures in
    search (rules, halts_bind)

pub if_statement-returns-in_err-rest : goal.if_statement-returns-in_err-rest
if_statement-returns-in_err-rest t c = search (rules, halts_bind)

pub if_statement-returns-in_err-branches : goal.if_statement-returns-in_err-branches
if_statement-returns-in_err-branches t c = search (rules, halts_bind)

pub after_while-returns-in_err-rest : goal.after_while-returns-in_err-rest
after_while-returns-in_err-rest t c =
    let why : Halts c.in_err-rest.field-0.0 (read_loop (all_exprs c.args.room) all_stmts c.args.room c.args.tokens.now) = halts_bind _ _ _ (halts_bind _ _ _ c.in_err-rest.ensures) in
    rw (loops_step c.args.room c.ranges.room.fits c.args.tokens.now) (search rules)

pub after_while-returns-in_err-condition : goal.after_while-returns-in_err-condition
after_while-returns-in_err-condition t c =
    let why : Halts c.in_err-condition.field-0.0 (read_loop (all_exprs c.args.room) all_stmts c.args.room c.args.tokens.now) = rw c.in_ok-rest.ensures (halts_bind _ _ _ (halts_bind _ _ _ (halts_bind _ _ _ c.in_err-condition.ensures))) in
    rw (loops_step c.args.room c.ranges.room.fits c.args.tokens.now) (search rules)

pub after_while-returns-in_err-condition-2 : goal.after_while-returns-in_err-condition-2
after_while-returns-in_err-condition-2 t c =
    let why : Halts c.in_err-condition-2.field-0.0 (read_loop (all_exprs c.args.room) all_stmts c.args.room c.args.tokens.now) = rw (c.in_ok-rest.ensures, c.in_ok-condition.ensures) (halts_bind _ _ _ (halts_bind _ _ _ (halts_bind _ _ _ (halts_bind _ _ _ c.in_err-condition-2.ensures.err)))) in
    rw (loops_step c.args.room c.ranges.room.fits c.args.tokens.now) (search rules)

pub after_while-returns-in_err-condition-3 : goal.after_while-returns-in_err-condition-3
after_while-returns-in_err-condition-3 t c =
    let body = next_halts block_of c.block.result _ _ c.in_err-condition-3.ensures.err c.block.ensures in
    let why : Halts c.in_err-condition-3.field-0.0 (read_loop (all_exprs c.args.room) all_stmts c.args.room c.args.tokens.now) = rw (c.in_ok-rest.ensures, c.in_ok-condition.ensures, c.in_ok-condition-2.ensures.ok) (halts_bind _ _ _ (halts_bind _ _ _ (halts_bind _ _ _ (halts_bind _ _ _ body)))) in
    rw (loops_step c.args.room c.ranges.room.fits c.args.tokens.now) (search rules)

pub after_while-returns : goal.after_while-returns
after_while-returns t c = rw (loops_step c.args.room c.ranges.room.fits c.args.tokens.now) (search rules)

pub while_statement-returns-in_err-rest : goal.while_statement-returns-in_err-rest
while_statement-returns-in_err-rest t c = search (rules, halts_bind)

pub while_statement-returns-in_err-turns : goal.while_statement-returns-in_err-turns
while_statement-returns-in_err-turns t c = search (rules, halts_bind)

pub alternative-returns-in_err-rest : goal.alternative-returns-in_err-rest
alternative-returns-in_err-rest t c = search (rules, halts_bind)

pub alternative-returns-in_err-block : goal.alternative-returns-in_err-block
alternative-returns-in_err-block t c = search (rules, halts_bind)

pub chained-returns-in_err-rest : goal.chained-returns-in_err-rest
chained-returns-in_err-rest t c = rw (opened_is (span_if (a_word If)) 1 c.args.room all_branches c.args.tokens.now) (search (rules, halts_bind))

pub chained-returns-in_err-branches : goal.chained-returns-in_err-branches
chained-returns-in_err-branches t c = rw (opened_is (span_if (a_word If)) 1 c.args.room all_branches c.args.tokens.now) (search (rules, halts_bind))

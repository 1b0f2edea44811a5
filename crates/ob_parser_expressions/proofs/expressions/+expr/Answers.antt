use Rattle.std.proofs.Common.{rules, ◌∙◌, ◌-◌, [], ◌∷◌, ◌++◌, map, ap, sym, refl, arith}
use Rattle.ob_tree.specs.ExprsView.{expr_of, exprs_of}
use Rattle.ob_lexer.specs.declared.token.Sign.TheVariants.{OpenParen, CloseParen, Comma}
use Rattle.ob_parser_spec.specs.Operators.{operator_if}
use Rattle.ob_parser_spec.specs.ExprReaders.{unary_if}
use Rattle.ob_parser_spec.specs.Readers.{done, read_opened}
use Rattle.ob_parser_spec.specs.Chains.{with_step}
use Rattle.ob_parser_spec.proofs.Laws.{case_of}
use Rattle.ob_parser_spec.specs.Primaries.{read_arguments}
use Rattle.ob_parser_spec.specs.NameReaders.{on, read_item, read_parted}
use Rattle.ob_parser_spec.specs.AllReaders.{all_unary, all_counted, all_exprs}
use Rattle.ob_parser_expressions.specs.Levels.{number_of_level, read_operand}
use Rattle.ob_parser_expressions.specs.Answering.{Halts}
use Rattle.ob_parser_expressions.proofs.Halts.{halts_bind}
use Rattle.ob_parser_expressions.proofs.Loops.{parted_begins, kept_as, none_more, halts_more}
use Rattle.ob_parser_expressions.proofs.CodeParts.{opened_halts, opened_done, not_opened, inside_halts, end_halts, counted_done, closed_answer, parted_halts, item_halts, item_done}
use Rattle.ob_parser_expressions.proofs.CodeExpressions.{expr_item, row_begins, row_extended, row_halts, row_ends, single_extended, single_ends, single_halts, row_is_chain, row_is_single, extended_is, fewer_extended, halts_back, negation_halts, negation_done, primary_is, arguments_are, group_halts, group_done}
use Rattle.ob_parser_expressions.proofs.expressions.+expr.Goals as goal

-- rows

pub expression-returns-in_err-expr : goal.expression-returns-in_err-expr
expression-returns-in_err-expr t c =
    let e = c.in_err-expr.field-0.0 in
    let halts : Halts e (all_exprs c.args.room c.args.tokens.now) = halts_bind e (all_counted c.args.room c.args.tokens.now) _ c.in_err-expr.ensures.read in
    search rules

pub row-returns-else-repeats-clause-read : goal.row-returns-else-repeats-clause-read
row-returns-else-repeats-clause-read t c = rw (row_is_single c.args.level c.args.room c.args.tokens.now (sym c.repeats.ensures ∙ c.if-repeats.false)) c.single.ensures.read

pub row-returns-then-repeats-clause-read : goal.row-returns-then-repeats-clause-read
row-returns-then-repeats-clause-read t c = rw (row_is_chain c.args.level c.args.room c.args.tokens.now (sym c.repeats.ensures ∙ c.if-repeats.true)) c.chain.ensures.read

pub chain-operators-init : goal.chain-operators-init
chain-operators-init t c = record {
  read = row_begins c.args.level c.args.room c.args.tokens.now c.in_ok-first.rest.now _ c.in_ok-first.ensures.read;
  few = c.in_ok-first.ensures.few;
}

pub chain-returns-in_err-whole-clause-read : goal.chain-returns-in_err-whole-clause-read
chain-returns-in_err-whole-clause-read t c =
    let e = c.in_err-whole.field-0.0 in
    let ts = c.operators.rest.now in
    let step = halts_back e (read_opened (operator_if (number_of_level c.args.level)) 1 (c.args.room - c.operators.count) (read_operand c.args.level) ts) (with_step (expr_of c.operators.expr, 0)) c.in_err-whole.ensures.read in
    let halts = row_halts c.args.level c.args.room e (expr_of c.operators.expr, c.operators.count) ts _ c.operators.invariant.read (sym c.starts_with_operator.ensures ∙ c.operators-test.true) step in
    search rules

pub chain-operators-smaller : goal.chain-operators-smaller
chain-operators-smaller t c = fewer_extended c.args.level _ (omega arith) c.operators.rest.now c.in_ok-whole.after.now _ _ (case_of _) c.in_ok-whole.ensures.read

pub chain-operators-preserved : goal.chain-operators-preserved
chain-operators-preserved t c = record {
  read = row_extended c.args.level c.args.room c.ranges.room.fits (expr_of c.operators.expr) (expr_of c.in_ok-whole.whole) c.operators.count _ c.in_ok-whole.more c.operators.rest.now c.in_ok-whole.after.now _ c.operators.invariant.read (sym c.starts_with_operator.ensures ∙ c.operators-test.true) (case_of _) c.in_ok-whole.ensures.read refl;
  few = omega (arith, c.operators.invariant.few, c.in_ok-whole.ensures.few);
}

pub chain-returns-clause-read : goal.chain-returns-clause-read
chain-returns-clause-read t c = row_ends c.args.level c.args.room (expr_of c.operators.expr, c.operators.count) c.operators.rest.now _ c.operators.invariant.read (sym c.starts_with_operator.ensures ∙ c.operators-test.false)

pub single-returns-then-not-starts_with_operator-clause-read : goal.single-returns-then-not-starts_with_operator-clause-read
single-returns-then-not-starts_with_operator-clause-read t c = single_ends c.args.level c.args.room c.args.tokens.now c.in_ok-left.rest.now _ c.in_ok-left.ensures.read (sym c.starts_with_operator.ensures ∙ c.if-not-starts_with_operator.true)

pub single-returns-in_err-expr-clause-read : goal.single-returns-in_err-expr-clause-read
single-returns-in_err-expr-clause-read t c =
    let e = c.in_err-expr.field-0.0 in
    let ts = c.in_ok-left.rest.now in
    let step = halts_back e (read_opened (operator_if (number_of_level c.args.level)) 1 (c.args.room - c.in_ok-left.count) (read_operand c.args.level) ts) (with_step (expr_of c.in_ok-left.left, 0)) c.in_err-expr.ensures.read in
    let halts = single_halts c.args.level c.args.room e c.args.tokens.now ts _ c.in_ok-left.ensures.read (sym c.starts_with_operator.ensures ∙ c.if-not-starts_with_operator.false) step in
    search rules

pub single-returns-clause-read : goal.single-returns-clause-read
single-returns-clause-read t c = single_extended c.args.level c.args.room (expr_of c.in_ok-left.left) (expr_of c.in_ok-expr.expr) c.in_ok-left.count _ c.in_ok-expr.more c.args.tokens.now c.in_ok-left.rest.now c.in_ok-expr.rest.now c.in_ok-left.ensures.read (sym c.starts_with_operator.ensures ∙ c.if-not-starts_with_operator.false) (case_of _) c.in_ok-expr.ensures.read refl

pub extended-returns-in-Ok-binary-clause-read : goal.extended-returns-in-Ok-binary-clause-read
extended-returns-in-Ok-binary-clause-read t c =
    let o = c.in-Ok.operation in
    extended_is _ (expr_of c.args.left) (expr_of c.in-Ok-binary.expr) o.operator o.sign (expr_of o.right) c.in-Ok.after c.in-Ok.rest.now c.in-Ok.ensures.read c.in-Ok-binary.ensures.ok

pub extended-returns-in-Err-clause-read : goal.extended-returns-in-Err-clause-read
extended-returns-in-Err-clause-read t c = halts_bind _ _ (λ x rest. done (with_step (expr_of c.args.left, 0) x) rest) c.in-Err.ensures.read

pub operation-returns-in_err-right-clause-read : goal.operation-returns-in_err-right-clause-read
operation-returns-in_err-right-clause-read t c =
    let halts = opened_halts (operator_if (number_of_level c.args.level)) c.args.room (read_operand c.args.level) c.args.tokens.now c.in_ok-operator.rest.now _ c.in_ok-operator.ensures.read c.in_err-right.field-0.0 c.in_err-right.ensures.read in
    search rules

pub operation-returns-clause-read : goal.operation-returns-clause-read
operation-returns-clause-read t c = opened_done (operator_if (number_of_level c.args.level)) c.args.room (read_operand c.args.level) c.args.tokens.now c.in_ok-operator.rest.now _ c.in_ok-operator.ensures.read _ c.in_ok-right.rest.now c.in_ok-right.ensures.read

-- operands

pub unary-returns-in_err-operator-clause-read : goal.unary-returns-in_err-operator-clause-read
unary-returns-in_err-operator-clause-read t c =
    let e = c.in_err-operator.field-0.0 in
    let halts = negation_halts c.args.room c.ranges.room.fits c.args.tokens.now e (sym c.starts_with_unary.ensures ∙ c.if-starts_with_unary.true) (not_opened unary_if c.args.room all_unary c.args.tokens.now e c.in_err-operator.ensures.read) in
    search rules

pub unary-returns-in_err-operand-clause-read : goal.unary-returns-in_err-operand-clause-read
unary-returns-in_err-operand-clause-read t c =
    let e = c.in_err-operand.field-0.0 in
    let halts = negation_halts c.args.room c.ranges.room.fits c.args.tokens.now e (sym c.starts_with_unary.ensures ∙ c.if-starts_with_unary.true) (opened_halts unary_if c.args.room all_unary c.args.tokens.now c.in_ok-operator.rest.now _ c.in_ok-operator.ensures.read e c.in_err-operand.ensures.read) in
    search rules

pub unary-returns-then-starts_with_unary-clause-read : goal.unary-returns-then-starts_with_unary-clause-read
unary-returns-then-starts_with_unary-clause-read t c =
    let reads = negation_done c.args.room c.ranges.room.fits c.args.tokens.now (sym c.starts_with_unary.ensures ∙ c.if-starts_with_unary.true) _ c.in_ok-operand.rest.now (opened_done unary_if c.args.room all_unary c.args.tokens.now c.in_ok-operator.rest.now _ c.in_ok-operator.ensures.read _ c.in_ok-operand.rest.now c.in_ok-operand.ensures.read) in
    let made = c.in_ok-expr.ensures.ok in
    let place = c.span_between.ensures in
    rw made (rw place reads)

pub unary-returns-in_err-expr-2-clause-read : goal.unary-returns-in_err-expr-2-clause-read
unary-returns-in_err-expr-2-clause-read t c = rw (primary_is c.args.room c.ranges.room.fits c.args.tokens.now (sym c.starts_with_unary.ensures ∙ c.if-starts_with_unary.false)) (search rules)

pub unary-returns-clause-read : goal.unary-returns-clause-read
unary-returns-clause-read t c = primary_is c.args.room c.ranges.room.fits c.args.tokens.now (sym c.starts_with_unary.ensures ∙ c.if-starts_with_unary.false) ∙ c.in_ok-expr-2.ensures

pub group-returns-in_err-expr : goal.group-returns-in_err-expr
group-returns-in_err-expr t c =
    let e = c.in_err-expr.field-0.0 in
    let halts = group_halts c.args.room c.args.tokens.now e (inside_halts OpenParen CloseParen c.args.room all_counted c.args.tokens.now c.in_ok-rest.rest.now _ c.in_ok-rest.ensures.read e c.in_err-expr.ensures.read) in
    search rules

pub group-returns-in_err-expr-2 : goal.group-returns-in_err-expr-2
group-returns-in_err-expr-2 t c =
    let e = c.in_err-expr-2.field-0.0 in
    let halts = group_halts c.args.room c.args.tokens.now e (end_halts OpenParen CloseParen c.args.room all_counted c.args.tokens.now c.in_ok-rest.rest.now _ c.in_ok-rest.ensures.read _ c.in_ok-expr.rest.now c.in_ok-expr.ensures.read e c.in_err-expr-2.ensures.err) in
    search rules

pub group-returns : goal.group-returns
group-returns t c =
    let reads = group_done c.args.room c.args.tokens.now _ c.in_ok-expr-2.rest.now (counted_done OpenParen CloseParen c.args.room all_counted c.args.tokens.now c.in_ok-rest.rest.now _ c.in_ok-rest.ensures.read _ c.in_ok-expr.rest.now c.in_ok-expr.ensures.read _ c.in_ok-expr-2.rest.now c.in_ok-expr-2.ensures.ok) in
    rw (c.moved.ensures, c.span_between.ensures, c.in_ok-expr-2.ensures.part) reads

-- calls

pub applied-returns-in_err-args : goal.applied-returns-in_err-args
applied-returns-in_err-args t c =
    let halts = inside_halts OpenParen CloseParen c.args.room (λ r. read_arguments (all_counted r)) c.args.tokens.now c.in_ok-rest.rest.now _ c.in_ok-rest.ensures.read c.in_err-args.field-0.0 c.in_err-args.ensures in
    search rules

pub applied-returns : goal.applied-returns
applied-returns t c = closed_answer OpenParen CloseParen c.args.room (λ r. read_arguments (all_counted r)) c.args.tokens.now c.in_ok-rest.rest.now _ c.in_ok-rest.ensures.read exprs_of c.in_ok-args.args c.in_ok-args.rest.now c.in_ok-args.ensures c.before-2.result c.before-2.ensures.part c.before-2.ensures.ok c.before-2.ensures.err

pub arguments-returns : goal.arguments-returns
arguments-returns t c = arguments_are c.args.room c.args.tokens.now c.list.result (sym c.starts_with_one_of.ensures ∙ c.if-not-starts_with_one_of.false) c.list.ensures

pub list-arguments-init : goal.list-arguments-init
list-arguments-init t c =
    let first = c.in_ok-push.ensures.ok ∙ ap (λ l. l ++ c.in_ok-first.first ∷ []) c.new-args.ensures in
    parted_begins Comma (all_exprs c.args.room) c.args.tokens.now c.in_ok-first.rest.now _ _ c.in_ok-first.ensures (ap (map expr_of) first)

pub list-returns : goal.list-returns
list-returns t c = c.arguments.invariant ∙ none_more (on Comma) (read_item Comma (all_exprs c.args.room)) (map expr_of c.arguments.args) c.arguments.rest.now (sym c.starts_with.ensures ∙ c.arguments-test.false)

pub list-returns-in_err-first : goal.list-returns-in_err-first
list-returns-in_err-first t c =
    let halts = parted_halts Comma (all_exprs c.args.room) c.args.tokens.now c.in_err-first.field-0.0 c.in_err-first.ensures in
    search rules

pub list-returns-in_err-arg : goal.list-returns-in_err-arg
list-returns-in_err-arg t c =
    let e = c.in_err-arg.field-0.0 in
    let one = item_halts Comma (all_exprs c.args.room) c.arguments.rest.now c.in_ok-after.after.now _ c.in_ok-after.ensures e c.in_err-arg.ensures in
    let more = halts_more (on Comma) (read_item Comma (all_exprs c.args.room)) _ c.arguments.rest.now e (sym c.starts_with.ensures ∙ c.arguments-test.true) one in
    let halts : Halts e (read_parted Comma (all_exprs c.args.room) c.args.tokens.now) = rw c.arguments.invariant more in
    search rules

pub list-arguments-smaller : goal.list-arguments-smaller
list-arguments-smaller t c = (expr_item c.args.room c.ranges.room.fits).fewer c.arguments.rest.now _ c.in_ok-arg.after.now (item_done Comma (all_exprs c.args.room) c.arguments.rest.now c.in_ok-after.after.now _ c.in_ok-after.ensures _ c.in_ok-arg.after.now c.in_ok-arg.ensures)

pub list-arguments-preserved : goal.list-arguments-preserved
list-arguments-preserved t c =
    let p = read_item Comma (all_exprs c.args.room) in
    let one = item_done Comma (all_exprs c.args.room) c.arguments.rest.now c.in_ok-after.after.now _ c.in_ok-after.ensures _ c.in_ok-arg.after.now c.in_ok-arg.ensures in
    kept_as (on Comma) p expr_of c.arguments.args c.push-in-arguments.new.self c.arguments.rest.now c.in_ok-arg.after.now c.in_ok-arg.arg _ (expr_item c.args.room c.ranges.room.fits) c.arguments.invariant c.in_ok-push-2.ensures.ok (sym c.starts_with.ensures ∙ c.arguments-test.true) one

-- why a part isn't read

pub method-returns-in_err-dot : goal.method-returns-in_err-dot
method-returns-in_err-dot t c = search (rules, halts_bind)

pub method-returns-in_err-name : goal.method-returns-in_err-name
method-returns-in_err-name t c = search (rules, halts_bind)

pub method-returns-in_err-args : goal.method-returns-in_err-args
method-returns-in_err-args t c = search (rules, halts_bind)

pub new-returns-in_err-rest : goal.new-returns-in_err-rest
new-returns-in_err-rest t c = search (rules, halts_bind)

pub new-returns-in_err-of : goal.new-returns-in_err-of
new-returns-in_err-of t c = search (rules, halts_bind)

pub new-returns-in_err-args : goal.new-returns-in_err-args
new-returns-in_err-args t c = search (rules, halts_bind)

pub name-returns-in_err-name : goal.name-returns-in_err-name
name-returns-in_err-name t c = search (rules, halts_bind)

pub name-returns-in_err-tail : goal.name-returns-in_err-tail
name-returns-in_err-tail t c = search (rules, halts_bind)

pub this-returns-in_err-token : goal.this-returns-in_err-token
this-returns-in_err-token t c = search (rules, halts_bind)

pub this-returns-in_err-name : goal.this-returns-in_err-name
this-returns-in_err-name t c = search (rules, halts_bind)

pub tail-returns-in_err-name : goal.tail-returns-in_err-name
tail-returns-in_err-name t c = search (rules, halts_bind)

pub tail-returns-in_err-args : goal.tail-returns-in_err-args
tail-returns-in_err-args t c = search (rules, halts_bind)

pub applied-returns-in_err-rest : goal.applied-returns-in_err-rest
applied-returns-in_err-rest t c = search (rules, halts_bind, not_opened)

pub group-returns-in_err-rest : goal.group-returns-in_err-rest
group-returns-in_err-rest t c = search (rules, halts_bind, not_opened)

pub chain-returns-in_err-first-clause-read : goal.chain-returns-in_err-first-clause-read
chain-returns-in_err-first-clause-read t c = search (rules, halts_bind)

pub single-returns-in_err-left-clause-read : goal.single-returns-in_err-left-clause-read
single-returns-in_err-left-clause-read t c = search (rules, halts_bind)

pub operation-returns-in_err-operator-clause-read : goal.operation-returns-in_err-operator-clause-read
operation-returns-in_err-operator-clause-read t c = search (rules, not_opened)

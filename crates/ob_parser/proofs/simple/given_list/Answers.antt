use Rattle.ob_parser_expressions.proofs.Halts.{halts_bind}
use Rattle.std.proofs.Common.{rules, ◌∙◌, sym, map}
use Rattle.ob_lexer.specs.declared.token.Sign.TheVariants.{Comma}
use Rattle.ob_tree.specs.StmtsView.{given_of}
use Rattle.ob_parser_spec.specs.NameReaders.{on, read_item}
use Rattle.ob_parser_spec.specs.StmtReaders.{read_given}
use Rattle.ob_parser_spec.specs.AllReaders.{all_exprs}
use Rattle.ob_parser_expressions.proofs.Loops.{kept_as, none_more}
use Rattle.ob_parser.proofs.CodeStatements.{given_consumes}
use Rattle.ob_parser.proofs.simple.given_list.Goals as goal

pub list-smaller : goal.list-smaller
list-smaller c = (given_consumes c.args.room c.ranges.room.fits).fewer c.list.rest.now (given_of c.in_ok-more.more) c.in_ok-more.after.now c.in_ok-more.ensures

pub list-preserved : goal.list-preserved
list-preserved c = kept_as (on Comma) (read_item Comma (read_given (all_exprs c.args.room))) given_of c.list.list c.push-in-list.new.self c.list.rest.now c.in_ok-more.after.now c.in_ok-more.more _ (given_consumes c.args.room c.ranges.room.fits) c.list.invariant c.in_ok-push-2.ensures.ok (sym c.starts_with.ensures ∙ c.list-test.true) c.in_ok-more.ensures

pub returns-in_err-first : goal.returns-in_err-first
returns-in_err-first c = search (rules, halts_bind)

pub returns-in_err-more : goal.returns-in_err-more
returns-in_err-more c = search (rules, halts_bind)

pub returns : goal.returns
returns c = c.list.invariant ∙ none_more (on Comma) (read_item Comma (read_given (all_exprs c.args.room))) (map given_of c.list.list) c.list.rest.now (sym c.starts_with.ensures ∙ c.list-test.false)

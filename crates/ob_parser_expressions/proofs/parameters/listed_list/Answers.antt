use Rattle.std.proofs.Common.{◌∙◌, sym, rules}
use Rattle.ob_lexer.specs.declared.token.Sign.TheVariants.{Comma}
use Rattle.ob_tree.specs.MembersView.{listed_of}
use Rattle.ob_parser_spec.specs.NameReaders.{on, read_item}
use Rattle.ob_parser_spec.specs.MemberReaders.{read_listed}
use Rattle.ob_parser_spec.specs.AllReaders.{all_refs}
use Rattle.ob_parser_expressions.proofs.Halts.{halts_bind}
use Rattle.ob_parser_expressions.proofs.Loops.{kept_as}
use Rattle.ob_parser_expressions.proofs.CodeParams.{listed_item}
use Rattle.ob_parser_expressions.proofs.parameters.listed_list.Goals as goal

pub returns-in_err-first : goal.returns-in_err-first
returns-in_err-first c = search (rules, halts_bind)

pub list-smaller : goal.list-smaller
list-smaller c = (listed_item c.args.room c.ranges.room.fits).fewer _ _ _ c.in_ok-more.ensures

pub list-preserved : goal.list-preserved
list-preserved c = kept_as (on Comma) (read_item Comma (read_listed (all_refs c.args.room))) listed_of c.list.list c.push-in-list.new.self c.list.rest.now c.in_ok-more.after.now c.in_ok-more.more _ (listed_item c.args.room c.ranges.room.fits) c.list.invariant c.in_ok-push-2.ensures.ok (sym c.starts_with.ensures ∙ c.list-test.true) c.in_ok-more.ensures

pub returns-in_err-more : goal.returns-in_err-more
returns-in_err-more c = search (rules, halts_bind)

use Rattle.std.proofs.Common.{◌∙◌, sym, rules}
use Rattle.ob_lexer.specs.declared.token.Sign.TheVariants.{Comma}
use Rattle.ob_tree.specs.MembersView.{formal_of}
use Rattle.ob_parser_spec.specs.NameReaders.{on, read_item}
use Rattle.ob_parser_spec.specs.MemberReaders.{read_param}
use Rattle.ob_parser_spec.specs.AllReaders.{all_refs}
use Rattle.ob_parser_expressions.proofs.Halts.{halts_bind}
use Rattle.ob_parser_expressions.proofs.Loops.{kept_as}
use Rattle.ob_parser_expressions.proofs.CodeParams.{param_item}
use Rattle.ob_parser_expressions.proofs.parameters.param_list.Goals as goal

pub returns-in_err-first : goal.returns-in_err-first
returns-in_err-first c = search (rules, halts_bind)

pub params-smaller : goal.params-smaller
params-smaller c = (param_item c.args.room c.ranges.room.fits).fewer _ _ _ c.in_ok-param.ensures

pub params-preserved : goal.params-preserved
params-preserved c = kept_as (on Comma) (read_item Comma (read_param (all_refs c.args.room))) formal_of c.params.params c.push-in-params.new.self c.params.rest.now c.in_ok-param.after.now c.in_ok-param.param _ (param_item c.args.room c.ranges.room.fits) c.params.invariant c.in_ok-push-2.ensures.ok (sym c.starts_with.ensures ∙ c.params-test.true) c.in_ok-param.ensures

pub returns-in_err-param : goal.returns-in_err-param
returns-in_err-param c = search (rules, halts_bind)

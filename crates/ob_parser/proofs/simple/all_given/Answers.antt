use Rattle.std.proofs.Common.{◌∙◌, sym, map}
use Rattle.ob_lexer.specs.declared.token.Sign.TheVariants.{OpenParen}
use Rattle.ob_tree.specs.StmtsView.{given_of}
use Rattle.ob_parser_spec.specs.NameReaders.{on}
use Rattle.ob_parser_spec.specs.StmtReaders.{read_enclosed_given}
use Rattle.ob_parser_spec.specs.AllReaders.{all_exprs}
use Rattle.ob_parser_expressions.proofs.Tails.{list_answer}
use Rattle.ob_parser.proofs.simple.all_given.Goals as goal

pub returns : goal.returns
returns c = list_answer (map given_of) (on OpenParen) (read_enclosed_given (all_exprs c.args.room)) c.enclosed_given.result c.args.tokens.now (sym c.starts_with.ensures ∙ c.if-not-starts_with.false) c.enclosed_given.ensures

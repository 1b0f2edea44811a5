use Rattle.std.proofs.Common.{◌∙◌, [], ◌∷◌, rules, tests}
use Rattle.std.proofs.lemmas.Iterator.{YieldsList-from_slice}
use Rattle.std.proofs.lemmas.Iterator.Search.{any_from_yields_List}
use Rattle.ob_parser_spec.specs.Symbols.{number}
use Rattle.ob_parser_spec.specs.Readers.{is_of}
use Rattle.ob_parser_expressions.specs.Answering.{symbol_for}
use Rattle.ob_parser_expressions.proofs.CodeTokens.{one_of_them}
use Rattle.ob_parser_expressions.proofs.tokens.is_one_of.Goals as goal

pub returns : goal.returns
returns c = any_from_yields_List (λ w. is_of (number (symbol_for w) ∷ []) c.args.token.now) _ _ _ c.any.ensures.ran (YieldsList-from_slice c.args.symbols.now cc) (λ x b q k. search (rules, tests)) ∙ one_of_them c.args.token.now c.args.symbols.now

-- That the rows of the loops over parameters have tokens.
use Rattle.std.proofs.Common.{ℕ, ◌<◌, refl, [], ◌∷◌}
use Rattle.ob_lexer.specs.declared.token.Sign.TheVariants.{Comma}
use Rattle.ob_parser_spec.specs.MemberRows.{param, listed}
use Rattle.ob_parser_spec.specs.Symbols.{a_name, number}
use Rattle.ob_parser_spec.specs.NameReaders.{on, read_item}
use Rattle.ob_parser_spec.specs.MemberReaders.{types, read_param, read_listed}
use Rattle.ob_parser_spec.specs.AllReaders.{all_refs}
use Rattle.ob_parser_spec.proofs.Lists.{after_sign, item_laws}
use Rattle.ob_parser_spec.proofs.ParamLaws.{param_laws, listed_laws}
use Rattle.ob_parser_spec.proofs.BlockLaws.{all_refs_laws}
use Rattle.ob_parser_expressions.proofs.Loops.{Consumes, consumes}

module _ (room : ℕ) (less : room < 256) where
  pub param_item : Consumes (read_item Comma (read_param (all_refs room)))
  param_item = consumes room (after_sign Comma param) (read_item Comma (read_param (all_refs room))) (on Comma) [] (item_laws Comma room param (read_param (all_refs room)) types [] (param_laws room (all_refs room) (all_refs_laws room less)) refl)

  pub listed_item : Consumes (read_item Comma (read_listed (all_refs room)))
  listed_item = consumes room (after_sign Comma listed) (read_item Comma (read_listed (all_refs room))) (on Comma) [] (item_laws Comma room listed (read_listed (all_refs room)) (number a_name ∷ []) [] (listed_laws room (all_refs room) (all_refs_laws room less)) refl)

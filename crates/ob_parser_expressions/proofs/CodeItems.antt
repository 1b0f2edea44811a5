-- That the loops' rows have tokens.
use Rattle.std.proofs.Common.{refl, [], ◌∷◌}
use Rattle.ob_lexer.specs.declared.token.Sign.{Sign}
use Rattle.ob_parser_spec.specs.Rows.{name}
use Rattle.ob_parser_spec.specs.Symbols.{a_name, number}
use Rattle.ob_parser_spec.specs.Readers.{name_if, read_token}
use Rattle.ob_parser_spec.specs.NameReaders.{on, read_item}
use Rattle.ob_parser_spec.proofs.Lists.{after_sign, item_laws}
use Rattle.ob_parser_expressions.proofs.Loops.{Consumes, consumes}
use Rattle.ob_parser_spec.proofs.NameLaws.{name_laws}

pub name_item : (s : Sign) → Consumes (read_item s (read_token name_if))
name_item s = consumes 0 (after_sign s name) (read_item s (read_token name_if)) (on s) [] (item_laws s 0 name (read_token name_if) (number a_name ∷ []) [] (name_laws 0) refl)

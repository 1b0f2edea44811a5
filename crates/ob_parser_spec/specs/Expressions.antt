-- What the parser computes of expressions, so many deep at most.
use Rattle.std.specs.Prelude.{ℕ, zero, suc}
use Rattle.ob_parser_spec.specs.Readers.{Reader, stop, read_as, read_either, read_opened, read_spanned}
use Rattle.ob_parser_spec.specs.NameReaders.{read_ref}
use Rattle.ob_parser_spec.specs.Chains.{Counted}
use Rattle.ob_parser_spec.specs.ExprReaders.{unary_if, unary_signs, negated, read_row_1}
use Rattle.ob_parser_spec.specs.Primaries.{read_primary}

-- reads: ("!" | "-") unary | primary, so many deep at most
abbrev pub read_unary : ℕ → ℕ → Reader Counted
read_unary zero room = λ ts. stop ts
read_unary (suc depth) room = read_either unary_signs (read_as negated (read_spanned (read_opened unary_if 1 room (read_unary depth)))) (read_primary (read_ref depth) (read_row_1 (read_unary depth)) room)

-- reads an expression, so many deep at most
abbrev pub read_expr : ℕ → ℕ → Reader Counted
read_expr depth = read_row_1 (read_unary depth)

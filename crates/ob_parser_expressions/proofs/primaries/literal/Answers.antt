use Rattle.std.proofs.lemmas.Result.{err_from_is_err_and}
use Rattle.ob_parser_expressions.proofs.primaries.literal.Goals as goal

pub returns-in_err-value-in-Text : goal.returns-in_err-value-in-Text
returns-in_err-value-in-Text c = let p = err_from_is_err_and c.from_residual.result c.from_residual.ensures.1 in rw (p.1, p.2) tt

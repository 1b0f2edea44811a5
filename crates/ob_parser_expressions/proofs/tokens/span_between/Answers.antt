use Rattle.std.proofs.Common.{◌∙◌, ap, take, arith}
use Rattle.ob_parser_spec.specs.Readers.{span_of_tokens}
use Rattle.ob_parser_expressions.proofs.CodeTokens.{first_to_last}
use Rattle.ob_parser_expressions.proofs.tokens.span_between.Goals as goal

pub returns-in-len2-up : goal.returns-in-len2-up
returns-in-len2-up c =
    c.joined.ensures
    ∙ first_to_last (take c.saturating_sub-count.result c.args.tokens.now) c.first-item.result c.last-item.result (omega (arith, c.in-len2-up.len_at_least)) _ _ c.first-item.is c.last-item.is
    ∙ ap (λ n. span_of_tokens (take n c.args.tokens.now)) c.saturating_sub-count.ensures

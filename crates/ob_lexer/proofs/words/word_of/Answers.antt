use Rattle.std.proofs.Common.{sym, ◌∙◌}
use Rattle.ob_lexer.proofs.Reserved.{no_candidate, other_candidate, spelled_candidate}
use Rattle.ob_lexer.proofs.words.word_of.Goals as goal

pub returns-in_err-word : goal.returns-in_err-word
returns-in_err-word c =
    c.from_residual.ensures ∙ no_candidate c.args.bytes.now (sym c.candidate.ensures ∙ c.in_err-word.was)

pub returns-then-eq : goal.returns-then-eq
returns-then-eq c =
    spelled_candidate c.args.bytes.now c.as_bytes.result.now c.in_ok-word.word (c.as_bytes.ensures.value ∙ c.spelling.ensures) (sym c.eq.ensures ∙ c.if-eq.true)

pub returns-else-eq : goal.returns-else-eq
returns-else-eq c =
    other_candidate c.args.bytes.now c.as_bytes.result.now c.in_ok-word.word (c.as_bytes.ensures.value ∙ c.spelling.ensures) (sym c.candidate.ensures ∙ c.in_ok-word.was) (sym c.eq.ensures ∙ c.if-eq.false)

use Rattle.std.proofs.Common.{◌≡◌, ◌∙◌, ap, sym, option_map}
use Rattle.ob_words.specs.declared.asked.WordsError.TheVariants.{Usage}
use Rattle.ob_words.specs.AskedView.{asked_view}
use Rattle.ob_words.proofs.RefusalLemmas.{words_taken, words_refused}
use Rattle.ob_words.proofs.reading.read_words.Goals as goal

pub returns-in-Some-clause-ok : goal.returns-in-Some-clause-ok
returns-in-Some-clause-ok c =
    words_taken _ _ c.in-Ok.matches c.in_ok-command.ensures c.in-Ok.ensures.kinds c.in-Ok.ensures.matches
    ∙ sym c.asked_in.ensures ∙ ap (option_map asked_view) c.in-Some.is

pub returns-in-Ok-clause-usage : goal.returns-in-Ok-clause-usage
returns-in-Ok-clause-usage c = λ _.
    words_taken _ _ c.in-Ok.matches c.in_ok-command.ensures c.in-Ok.ensures.kinds c.in-Ok.ensures.matches
    ∙ sym c.asked_in.ensures ∙ ap (option_map asked_view) c.in-None.is

pub returns-clause-usage : goal.returns-clause-usage
returns-clause-usage c = λ is.
    words_refused _ _ c.in-Err.error c.in_ok-command.ensures c.in-Err.ensures.kinds (λ memory. c.refusal.ensures (let same : c.refusal.result ≡ Usage = cc in same) (c.kind.ensures ∙ memory))

use Rattle.std.proofs.Common.{◌∙◌, ap₂}
use Rattle.std.proofs.lemmas.Result.{IfOk-weaker}
use Rattle.clap.specs.Words.{with_rule}
use Rattle.ob_words.proofs.command_line.command_line.Goals as goal

pub returns : goal.returns
returns c =
    let one = c.in_ok-arg.ensures.shape c.option-fuel.ensures.local ∙ ap₂ with_rule c.bare_line.ensures c.option-fuel.ensures.rule in
    let two = c.in_ok-arg-2.ensures.shape c.option-lanes.ensures.local ∙ ap₂ with_rule one c.option-lanes.ensures.rule in
    let three = c.in_ok-arg-3.ensures.shape c.option-slice.ensures.local ∙ ap₂ with_rule two c.option-slice.ensures.rule in
    let four = c.in_ok-arg-4.ensures.shape c.command_word.ensures.local ∙ ap₂ with_rule three c.command_word.ensures.rule in
    IfOk-weaker c.arg-5.result _ _ (λ m added. added.shape c.words_after.ensures.local ∙ ap₂ with_rule four c.words_after.ensures.rule) c.arg-5.ensures

use Rattle.std.proofs.Common.{◌∙◌, sym}
use Rattle.ob_words.specs.Further.{further_in}
use Rattle.ob_words.proofs.RefusalLemmas.{taken_by, refused_by}
use Rattle.ob_words.proofs.further.parse_further.Goals as goal

pub returns-in-Ok : goal.returns-in-Ok
returns-in-Ok c =
    taken_by further_in _ _ c.in-Ok.matches c.in_ok-command.ensures c.in-Ok.ensures.kinds c.in-Ok.ensures.matches ∙ sym c.further_in.ensures

pub returns : goal.returns
returns c =
    refused_by further_in _ _ c.in-Err.error c.in_ok-command.ensures c.in-Err.ensures.kinds (λ memory. c.refusal.ensures c.in-Usage.is (c.kind.ensures ∙ memory))

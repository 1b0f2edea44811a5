use Rattle.ob_lexer.proofs.FirstSteps.{step_at_front}
use Rattle.ob_lexer.proofs.Taking.{gives_step}
use Rattle.ob_lexer.proofs.step.first_step.Goals as goal

pub returns : goal.returns
returns c = gives_step _ _ _ c.step_of.ensures (step_at_front c.args.text.now c.requires.some c.requires.utf8)

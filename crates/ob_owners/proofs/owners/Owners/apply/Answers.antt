use Rattle.ob_owners.proofs.ApplyLemmas.{becomes}
use Rattle.ob_owners.proofs.owners.Owners.apply.Goals as goal

pub returns : goal.returns
returns c = λ table content delta is_delta ready before after index.
    becomes table content delta c.args.self.now c.change.new.self is_delta ready before after index c.change.ensures.declared c.change.ensures.lists

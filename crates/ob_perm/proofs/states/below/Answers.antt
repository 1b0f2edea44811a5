use Rattle.std.proofs.Common.{◌∙◌, ◌-◌, ap}
use Rattle.std.proofs.lemmas.Nat.{one_shl}
use Rattle.ob_perm.specs.Masks.{states_of}
use Rattle.ob_perm.proofs.MaskLemmas.{states_of-below}
use Rattle.ob_perm.proofs.states.below.Goals as goal

pub returns : goal.returns
returns c = ap (λ m. states_of (m - 1)) (one_shl c.args.number 64 c.requires) ∙ states_of-below c.args.number

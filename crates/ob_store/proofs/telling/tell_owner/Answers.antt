use Rattle.std.proofs.Common.{◌∙◌, ap, option_map}
use Rattle.std.proofs.lemmas.Result.{IfOk-weaker}
use Rattle.ob_owners.specs.Spots.{place_of}
use Rattle.ob_store.proofs.telling.tell_owner.Goals as goal

pub returns : goal.returns
returns g c = IfOk-weaker c.copy_found.result _ _ (λ spot is. ap (option_map place_of) is ∙ c.owner.ensures.told) c.copy_found.ensures

-- Each answer is computed.
use Rattle.std.proofs.Common.{refl}
use Rattle.ob_perm.specs.States.{states_max}
use Rattle.ob_perm.specs.Masks.{states_of}
use Rattle.ob_examples.proofs.stores.stores_at_rest_and_others.Goals as goal

pub returns-clause-first : goal.returns-clause-first
unfolding states_max states_of
returns-clause-first c = refl

pub returns-clause-others : goal.returns-clause-others
unfolding states_max states_of
returns-clause-others c = refl

pub returns-clause-first_fail : goal.returns-clause-first_fail
unfolding states_max states_of
returns-clause-first_fail c = refl

pub returns-clause-others_fail : goal.returns-clause-others_fail
unfolding states_max states_of
returns-clause-others_fail c = refl

-- The states that terms name have the numbers that a state can have (this project's own).
use Rattle.std.specs.Prelude.{◌<◌, ⊤}
use Rattle.ob_base.specs.Limits.{most_states}
use Rattle.ob_base.specs.declared.id.StateId.{StateId}
use Rattle.ob_silica.specs.Terms.{SilicaForm, change_form, test_form, if_form, loop_form, SilicaTerms, no_terms, and_term}

-- the number of a state is below the most states of a contract
abbrev pub IsStateNumber : StateId → Type 0
IsStateNumber s = s.0 < most_states

abbrev mutual
  -- so are those of the states that a form changes to or tests
  pub NamesStates : SilicaForm → Type 0
  NamesStates (change_form state given) = IsStateNumber state
  NamesStates (test_form o state branch other join) =
      IsStateNumber state × AllNameStates branch × AllNameStates other
  NamesStates (if_form a branch other join) = AllNameStates branch × AllNameStates other
  NamesStates (loop_form first a body end) = AllNameStates first × AllNameStates body
  NamesStates form = ⊤

  -- and those of the states that terms change to or test
  pub AllNameStates : SilicaTerms → Type 0
  AllNameStates no_terms = ⊤
  AllNameStates (and_term form span rest) = NamesStates form × AllNameStates rest

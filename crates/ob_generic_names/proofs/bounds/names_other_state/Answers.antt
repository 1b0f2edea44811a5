use Rattle.ob_generic_names.proofs.BoundsLemmas.{any_other}
use Rattle.ob_generic_names.proofs.bounds.names_other_state.Goals as goal

pub returns-in-States : goal.returns-in-States
returns-in-States c = λ xs names. rw (c.in-States.is, c.is_other_among.ensures, c.as_slice.ensures, names) (any_other xs _)

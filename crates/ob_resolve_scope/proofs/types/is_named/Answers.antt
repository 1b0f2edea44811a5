use Rattle.ob_resolve_spec.specs.Declarations.{state_names}
use Rattle.ob_resolve_scope.proofs.TypesLemmas.{all_among}
use Rattle.ob_resolve_scope.proofs.types.is_named.Goals as goal

pub returns-in-States : goal.returns-in-States
returns-in-States c = λ contract names.
    rw (c.in-States.is, c.are_named.ensures, c.as_slice.ensures, names) (all_among (state_names contract) _)

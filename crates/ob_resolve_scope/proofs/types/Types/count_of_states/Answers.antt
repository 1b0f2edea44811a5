use Rattle.std.proofs.Common.{Some, None, length, refl}
use Rattle.ob_resolve_spec.specs.Declarations.{declared_contract, state_names}
use Rattle.ob_resolve_scope.specs.Types.{program_of}
use Rattle.ob_resolve_scope.proofs.TypesLemmas.{of_states}
use Rattle.ob_resolve_scope.proofs.types.Types.count_of_states.Goals as goal

pub returns-in-Some : goal.returns-in-Some
returns-in-Some c =
    of_states (λ s. s.count) (λ d. length (state_names d)) (declared_contract (program_of c.args.self.now) c.args.contract)
    (Some c.in-Some.states.now) (λ d. refl) c.in-Some.ensures

pub returns-in-None : goal.returns-in-None
returns-in-None c =
    of_states (λ s. s.count) (λ d. length (state_names d)) (declared_contract (program_of c.args.self.now) c.args.contract)
    None (λ d. refl) c.in-None.ensures

use Rattle.std.proofs.Common.{◌≡◌, drop, map, []}
use Rattle.std.specs.Option.{option_map_or}
use Rattle.ob_resolve_spec.specs.Declarations.{declared_contract}
use Rattle.ob_resolve_spec.specs.Sites.{names_state}
use Rattle.ob_resolve_scope.specs.Types.{program_of}
use Rattle.ob_resolve_sites.specs.Noted.{noted}
use Rattle.ob_resolve_sites.proofs.naming.note_states.Given as goal

abbrev pub invariant-loop-name : goal.invariant-loop-name
invariant-loop-name l =
    noted l.least
    (option_map_or (λ c. map (names_state c) (drop l.name-index l.names))
    (declared_contract (program_of l.types) l.contract) [])
    ≡ noted l.fn.least
    (option_map_or (λ c. map (names_state c) l.names) (declared_contract (program_of l.types) l.contract) [])

use Rattle.std.proofs.Common.{◌≡◌, drop, map}
use Rattle.ob_generic_spec.specs.Heads.{head_named}
use Rattle.ob_generic_spec.specs.TypeSites.{names_argument_state}
use Rattle.ob_generic_walk.specs.Noted.{noted}
use Rattle.ob_generic_walk.proofs.type_notes.note_states.Given as goal

abbrev pub invariant-loop-state : goal.invariant-loop-state
invariant-loop-state l =
    noted l.least (map (names_argument_state (head_named l.around.heads l.base)) (drop l.state-index l.states))
    ≡ noted l.fn.least (map (names_argument_state (head_named l.around.heads l.base)) l.states)

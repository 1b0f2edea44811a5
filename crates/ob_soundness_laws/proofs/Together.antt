-- What is proved of beginnings, of steps and of ends, together.
use Rattle.ob_invocation_spec.specs.Replies.{Invocation, invoked, goes_wrong}
use Rattle.ob_invocation_laws.specs.Laws.{KeepsStoreAtRest}
use Rattle.ob_invocation_laws.proofs.Still.{still_keeps}
use Rattle.ob_table.specs.Tables.{ClassTable}
use Rattle.ob_soundness_laws.specs.Requests.{BeginsSo, EndsSo, StillLeavesAtRest, NoRequestGoesWrongBy, NoRequestGoesWrong, RunsMeetStates}
use Rattle.ob_soundness_laws.specs.Sound.{CompiledProgramsAreSound}
use Rattle.ob_soundness_laws.proofs.Begins.{begins_so}
use Rattle.ob_soundness_laws.proofs.Keeping.{steps_keep}
use Rattle.ob_soundness_laws.proofs.Rests.{ends_so}
use Rattle.ob_soundness_laws.proofs.Sound.{compiled_are_sound}
use Rattle.ob_soundness_laws.proofs.States.{runs_meet_states}
use Rattle.ob_soundness_laws.proofs.Whole.{none_goes_wrong_by, none_goes_wrong}

pub runs_begin : BeginsSo
runs_begin = begins_so

pub runs_end : EndsSo
runs_end = ends_so

kept_is_left : (table : ClassTable) (i : Invocation) → KeepsStoreAtRest table i → KeepsStoreAtRest table i
kept_is_left table (invoked i) k = k
kept_is_left table goes_wrong k = k

-- a request that runs nothing leaves a store at rest
still_leaves : StillLeavesAtRest
still_leaves meaning table content request fuel is rests labels still =
    kept_is_left table _ (still_keeps meaning table content request fuel rests labels still)

pub none_is_wrong_by : NoRequestGoesWrongBy
none_is_wrong_by = none_goes_wrong_by steps_keep begins_so ends_so still_leaves

pub none_is_wrong : NoRequestGoesWrong
none_is_wrong = none_goes_wrong steps_keep begins_so ends_so still_leaves

pub all_meet_states : RunsMeetStates
all_meet_states = runs_meet_states steps_keep begins_so

pub compiled_sound : CompiledProgramsAreSound
compiled_sound = compiled_are_sound begins_so ends_so still_leaves

-- A compiled program is sound.
use Rattle.std.proofs.Common.{List}
use Rattle.std.specs.Prelude.{All}
use Rattle.ob_table.specs.Tables.{ClassTable}
use Rattle.ob_table_spec.specs.WellFormed.{HasBodies}
use Rattle.ob_silica.specs.Terms.{SilicaBody}
use Rattle.ob_silica_steps.specs.Configurations.{SilicaProgram}
use Rattle.ob_lower_correct.specs.Law.{IsLoweredProgram}
use Rattle.ob_rest_laws.proofs.OneOwner.{one_owner}
use Rattle.ob_invocation_spec.specs.Replies.{Invocation, invoked, goes_wrong}
use Rattle.ob_coherent_spec.specs.Remaining.{IsCheckedBody, IsCheckedProgram}
use Rattle.ob_invocation_laws.specs.Laws.{KeepsStoreAtRest}
use Rattle.ob_soundness_laws.proofs.remaining.Programs.{lowered_has_terms}
use Rattle.ob_soundness_laws.specs.Requests.{entry_lock, beginning_of, started, BeginsSo, EndsSo, StillLeavesAtRest}
use Rattle.ob_soundness_laws.specs.Sound.{LeavesOneOwner, CompiledProgramsAreSound}
use Rattle.ob_soundness_laws.proofs.Keeping.{steps_keep}
use Rattle.ob_soundness_laws.proofs.Many.{then_keep}
use Rattle.ob_soundness_laws.proofs.States.{runs_meet_states}
use Rattle.ob_soundness_laws.proofs.Whole.{none_goes_wrong}

-- a program whose bodies are well-formed and derive is checked
checked_of : (table : ClassTable) (bodies : List SilicaBody) → IsLoweredProgram (record { table = table; bodies = bodies }) → HasBodies table
    → All (IsCheckedBody table) bodies → IsCheckedProgram (record { table = table; bodies = bodies })
checked_of table bodies lowered each checked = record {
  table = lowered.table;
  terms = lowered_has_terms (record { table = table; bodies = bodies }) each lowered.lowered;
  bodies = checked;
}

-- where a store is at rest, its assets have one owner
owners_left : (table : ClassTable) (i : Invocation) → KeepsStoreAtRest table i → LeavesOneOwner table i
owners_left table (invoked i) rests = one_owner table i.content rests.at_rest
owners_left table goes_wrong rests = absurd rests

module _ (begins : BeginsSo) (ends : EndsSo) (still : StillLeavesAtRest) where
  pub compiled_are_sound : CompiledProgramsAreSound
  compiled_are_sound table bodies lowered each bodies_checked =
      let program : SilicaProgram = record { table = table; bodies = bodies } in
      let checked = checked_of table bodies lowered each bodies_checked in
      record {
        steps_keep = λ entry beginning c k. steps_keep program entry beginning c checked k;
        runs_keep = λ content fuel e n rests entered. then_keep steps_keep program checked (entry_lock e.receiver) (beginning_of content e) n
            (started program content fuel e) (begins program content fuel e checked rests entered);
        requests = λ content request fuel rests labels. none_goes_wrong steps_keep begins ends still program content request fuel checked lowered rests labels;
        assets = λ content request fuel rests labels. owners_left table _
            (none_goes_wrong steps_keep begins ends still program content request fuel checked lowered rests labels);
        states = λ content fuel e n c rests entered. runs_meet_states steps_keep begins program content fuel e n c checked rests entered;
      }

-- The code of a program whose terms are well-formed and derive is sound, and of one that has a source goes as that means.
use Rattle.std.proofs.Common.{sym, subst}
use Rattle.ob_table.specs.Tables.{ClassTable}
use Rattle.ob_silica_steps.specs.Configurations.{SilicaProgram}
use Rattle.ob_coherent_spec.specs.Remaining.{IsCheckedProgram}
use Rattle.ob_invocation_spec.specs.Replies.{Invocation}
use Rattle.ob_invocation_spec.specs.SourceInvocation.{source_invocation}
use Rattle.ob_invocation_laws.specs.Laws.{KeepsStoreAtRest}
use Rattle.ob_soundness_laws.proofs.remaining.Programs.{lowered_has_terms}
use Rattle.ob_emit_spec.specs.EmittedImages.{image_of}
use Rattle.ob_emit_laws.proofs.Tables.{tables_agree}
use Rattle.ob_sound_code.proofs.Emitted.{by_emitted_code}
use Rattle.ob_sound_code.specs.SoundCode.{SameInvocation, IsSoundBy, CheckedImagesAreSound, CheckedCodeIsSound, CompiledCodeIsSound}
use Rattle.ob_sound_code.proofs.Naming.{sound_without_names}
use Rattle.ob_sound_code.proofs.Sound.{ahead, runs_sound, requests_alike, requests_rest}

pub checked_code_sound : CheckedCodeIsSound
checked_code_sound program checked = record {
  runs = λ content fuel e rests entered. runs_sound program checked content fuel e rests entered;
  rests = λ content request fuel rests labels.
      subst (λ (i : Invocation). KeepsStoreAtRest program.table i)
      (sym (by_emitted_code program.table program.bodies checked.table content request fuel))
      (requests_rest program checked content request fuel rests labels);
}

pub checked_image_sound : CheckedImagesAreSound
checked_image_sound program checked =
    subst (λ (t : ClassTable). IsSoundBy t (image_of program.table program.bodies)) (sym (tables_agree program.table program.bodies checked.table))
    (sound_without_names program.table (image_of program.table program.bodies) (checked_code_sound program checked))

pub compiled_code_sound : CompiledCodeIsSound
compiled_code_sound table bodies lowered each bodies_checked =
    let program : SilicaProgram = record { table = table; bodies = bodies } in
    let checked : IsCheckedProgram program = record {
      table = lowered.table;
      terms = lowered_has_terms program each lowered.lowered;
      bodies = bodies_checked;
    } in
    record {
      alone = checked_image_sound program checked;
      by_table = checked_code_sound program checked;
      source = record {
        requests = λ content request fuel rests labels.
            subst (λ (i : Invocation). SameInvocation (source_invocation table content request fuel) i)
            (sym (by_emitted_code table bodies lowered.table content request fuel))
            (requests_alike program checked lowered content request fuel rests labels);
      };
      ahead = ahead program checked;
    }

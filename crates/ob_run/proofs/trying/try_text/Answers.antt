use Rattle.std.proofs.Common.{map, refl, subst}
use Rattle.ob_base.specs.Limits.{area_bytes}
use Rattle.ob_silica.specs.TermsView.{silica_body_of}
use Rattle.ob_code.specs.declared.image.Image.{Image}
use Rattle.ob_serve.specs.Standing.{source_program}
use Rattle.ob_run.specs.Trials.{IsTrial}
use Rattle.ob_words.specs.Asked.{trial}
use Rattle.ob_run.specs.TrialLines.{default_limits}
use Rattle.ob_run.proofs.SessionLemmas.{is_servable, is_sound_for, image_fits}
use Rattle.ob_run.proofs.trying.try_text.Goals as goal

pub returns-in-Err-clause-tells : goal.returns-in-Err-clause-tells
returns-in-Err-clause-tells g c = c.refuse.ensures.tells (trial c.args.length) c.args.text.now c.in-Err.ensures.fault

pub hold_trial-requires-clause-servable : goal.hold_trial-requires-clause-servable
hold_trial-requires-clause-servable g c =
    let program = c.in-Ok.program in is_servable program.table (map silica_body_of program.bodies) program.code c.in-Ok.ensures.compiled c.in-Ok.ensures.code c.in-Ok.ensures.sound_code

pub hold_trial-requires-clause-room : goal.hold_trial-requires-clause-room
hold_trial-requires-clause-room g c =
    let program = c.in-Ok.program in image_fits c.args.text.now program.table (map silica_body_of program.bodies) program.code c.in-Ok.ensures.program c.in-Ok.ensures.compiled c.in-Ok.ensures.code

-- the numbers are those of a trial of the text's program
pub returns-in-Ok-hold_trial-clause-tells : goal.returns-in-Ok-hold_trial-clause-tells
returns-in-Ok-hold_trial-clause-tells g c =
    let program = c.in-Ok.program in
    let bodies = map silica_body_of program.bodies in
    let for = is_sound_for program.table bodies program.code c.in-Ok.ensures.compiled c.in-Ok.ensures.code c.in-Ok.ensures.sound_code in
    c.tell_trial.ensures.tells c.args.length c.args.text.now (record {
      table = program.table;
      bodies = bodies;
      program = c.in-Ok.ensures.program;
      counts = c.in-Ok-hold_trial.counts;
      held = subst (λ (i : Image). IsTrial (source_program program.table i) i default_limits area_bytes c.args.length c.in-Ok-hold_trial.counts) c.in-Ok.ensures.code
          (c.in-Ok-hold_trial.ensures (record { table = program.table; bodies = bodies }) for);
      told = refl;
    })

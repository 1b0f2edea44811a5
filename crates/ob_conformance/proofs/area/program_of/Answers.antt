use Rattle.std.proofs.Common.{map}
use Rattle.ob_silica.specs.TermsView.{silica_body_of}
use Rattle.ob_run.proofs.SessionLemmas.{is_servable}
use Rattle.ob_conformance.proofs.area.program_of.Goals as goal

pub returns-in-Ok-clause-servable : goal.returns-in-Ok-clause-servable
returns-in-Ok-clause-servable c =
    let program = c.in-Ok.program in is_servable program.table (map silica_body_of program.bodies) program.code c.in-Ok.ensures.compiled c.in-Ok.ensures.code c.in-Ok.ensures.sound_code

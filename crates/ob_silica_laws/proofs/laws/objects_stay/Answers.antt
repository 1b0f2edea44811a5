-- By what each step keeps.
use Rattle.ob_silica_laws.proofs.Parts.{objects_of}
use Rattle.ob_silica_laws.proofs.StepsKeep.{steps_keep, started_call_keeps, started_new_keeps, run_keeps_all}
use Rattle.ob_silica_laws.proofs.laws.objects_stay.Goals as goal

pub returns : goal.returns
returns c = record {
  steps = λ program n x. objects_of _ (steps_keep program n x);
  calls = λ program most contract tx n args notes w. objects_of _ (run_keeps_all program _ most (started_call_keeps program contract tx n args notes w));
  news = λ program most contract args notes w. objects_of _ (run_keeps_all program _ most (started_new_keeps program contract args notes w));
}

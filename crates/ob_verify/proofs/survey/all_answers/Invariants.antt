use Rattle.std.proofs.Common.{◌≡◌, take}
use Rattle.ob_verify.specs.Surveys.{all_answers_by}
use Rattle.ob_verify.proofs.survey.all_answers.Given as goal

abbrev pub invariant-loop-own : goal.invariant-loop-own
invariant-loop-own l = l.rows.items ≡ all_answers_by (take l.own-index l.contracts) 0 l.contracts

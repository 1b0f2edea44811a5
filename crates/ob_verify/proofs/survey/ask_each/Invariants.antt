use Rattle.std.proofs.Common.{◌≡◌, ◌≤◌, ◌++◌, length, take, drop}
use Rattle.ob_verify.specs.Surveys.{with_answers}
use Rattle.ob_verify.proofs.survey.ask_each.Given as goal

abbrev pub invariant-loop-place : goal.invariant-loop-place
invariant-loop-place l = record {
  many : length l.row ≡ length l.fn.row;
  so_far : with_answers l.own l.asked l.fn.row ≡ take l.place l.row ++ with_answers l.own (drop l.place l.asked) (drop l.place l.row);
}

-- Each answer is computed.
use Rattle.std.proofs.Common.{refl}
use Rattle.clap.proofs.OnLiterals.{clap_on_literals}
use Rattle.ob_words.proofs.laws.words_are_worked_out.Goals as goal

pub returns : goal.returns
unfolding clap_on_literals
returns c = record {
  check = refl;
  serve_stored = refl;
  audit = refl;
  leading_zeros = refl;
  behind_hyphens = refl;
  with_equals = refl;
  options_behind = refl;
}

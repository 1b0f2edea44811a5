-- Each answer is computed.
use Rattle.std.proofs.Common.{refl}
use Rattle.clap.proofs.OnLiterals.{clap_on_literals}
use Rattle.ob_words.proofs.laws.further_words_are_worked_out.Goals as goal

pub returns : goal.returns
unfolding clap_on_literals
returns c = record {
  upgrade = refl;
  ship = refl;
  ship_from = refl;
  follow = refl;
  build = refl;
  exec = refl;
  exec_stored = refl;
  plan = refl;
}

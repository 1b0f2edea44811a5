-- Each answer is computed.
use Rattle.std.proofs.Common.{refl}
use Rattle.clap.proofs.OnLiterals.{clap_on_literals}
use Rattle.ob_words.proofs.laws.other_words_are_not_further.Goals as goal

pub returns : goal.returns
unfolding clap_on_literals
returns c = record {
  no_words = refl;
  lone_build = refl;
  no_serial = refl;
  long_serial = refl;
  long_index = refl;
  half_position = refl;
  too_many = refl;
}

-- Each answer is computed.
use Rattle.std.proofs.Common.{refl}
use Rattle.clap.proofs.OnLiterals.{clap_on_literals}
use Rattle.ob_words.proofs.laws.other_words_are_none.Goals as goal

pub returns : goal.returns
unfolding clap_on_literals
returns c = record {
  no_words = refl;
  lone_serve = refl;
  too_many = refl;
  lone_audit = refl;
  unknown = refl;
  no_fuel = refl;
  twice = refl;
  too_long = refl;
  help = refl;
  late_help = refl;
}

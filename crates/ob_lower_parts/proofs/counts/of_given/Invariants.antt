use Rattle.std.proofs.Common.{◌≡◌, drop}
use Rattle.std.specs.Prelude.{max}
use Rattle.ob_silica.specs.Slots.{slots_of_given}
use Rattle.ob_lower_parts.proofs.counts.of_given.Given as goal

abbrev pub invariant-loop-one : goal.invariant-loop-one
invariant-loop-one l = max l.most (slots_of_given (drop l.one-index l.given)) ≡ slots_of_given l.given

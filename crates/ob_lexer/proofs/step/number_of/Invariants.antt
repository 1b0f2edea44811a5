use Rattle.std.proofs.Common.{◌≡◌, take}
use Rattle.ob_lexer.specs.Spelling.{value_of_digits}
use Rattle.ob_lexer.proofs.step.number_of.Given as goal

-- the value of the digits so far
abbrev pub invariant-loop-digit : goal.invariant-loop-digit
invariant-loop-digit l = l.value ≡ value_of_digits (take l.digit-index l.digits)

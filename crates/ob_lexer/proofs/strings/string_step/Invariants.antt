use Rattle.std.proofs.Common.{◌≡◌, drop, [], false}
use Rattle.ob_lexer.specs.Lexing.{string_from}
use Rattle.ob_lexer.proofs.strings.string_step.Given as goal

-- what is left gives the answer
abbrev pub invariant-loop-taken : goal.invariant-loop-taken
invariant-loop-taken l = string_from false [] 0 l.text ≡ string_from l.backslash l.content.items l.taken (drop l.taken l.text)

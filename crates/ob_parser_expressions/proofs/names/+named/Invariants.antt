use Rattle.std.proofs.Common.{◌+◌, ◌*◌}
use Rattle.ob_parser_expressions.proofs.names.+named.Given as goal

abbrev pub decreases-bracketed : goal.decreases-bracketed
decreases-bracketed l = 4 * l.room

abbrev pub decreases-argument : goal.decreases-argument
decreases-argument l = 4 * l.room + 1

abbrev pub decreases-named : goal.decreases-named
decreases-named l = 4 * l.room + 2

abbrev pub decreases-reference : goal.decreases-reference
decreases-reference l = 4 * l.room + 3

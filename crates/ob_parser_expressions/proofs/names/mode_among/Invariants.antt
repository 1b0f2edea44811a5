use Rattle.std.proofs.Common.{◌≡◌, drop}
use Rattle.ob_parser_spec.specs.Readers.{one_among}
use Rattle.ob_parser_spec.specs.NameReaders.{symbol_of_mode}
use Rattle.ob_parser_expressions.proofs.names.mode_among.Given as goal

-- what is left of the modes gives the answer
abbrev pub invariant-loop-mode : goal.invariant-loop-mode
invariant-loop-mode l = one_among symbol_of_mode (drop l.mode-index l.modes) l.token ≡ one_among symbol_of_mode l.modes l.token

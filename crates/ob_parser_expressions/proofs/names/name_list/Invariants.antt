use Rattle.std.proofs.Common.{◌≡◌, length}
use Rattle.ob_parser_spec.specs.Readers.{name_if, read_token, read_many}
use Rattle.ob_parser_spec.specs.NameReaders.{on, read_parted, read_item}
use Rattle.ob_parser_expressions.specs.Answering.{prefixed}
use Rattle.ob_parser_expressions.proofs.names.name_list.Given as goal

abbrev pub invariant-names : goal.invariant-names
invariant-names l = read_parted l.fn.separator (read_token name_if) l.fn.tokens ≡ prefixed l.names (read_many (on l.fn.separator) (read_item l.fn.separator (read_token name_if)) l.rest)

abbrev pub decreases-names : goal.decreases-names
decreases-names l = length l.rest

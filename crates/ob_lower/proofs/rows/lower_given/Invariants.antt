use Rattle.std.proofs.Common.{◌≡◌, map, drop}
use Rattle.ob_table.specs.StatementsView.{given_field_of}
use Rattle.ob_lower_functions.specs.StatementCode.{given_code}
use Rattle.ob_lower_parts.specs.Makes.{progress}
use Rattle.ob_lower.proofs.rows.lower_given.Given as goal

abbrev pub invariant-loop-one : goal.invariant-loop-one
invariant-loop-one l =
    given_code l.around (map given_field_of (drop l.one-index l.given)) l.fields (progress l.out l.slots)
    ≡ given_code l.around (map given_field_of l.given) l.fn.fields (progress l.fn.out l.fn.slots)

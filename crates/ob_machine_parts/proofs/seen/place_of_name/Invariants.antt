use Rattle.std.proofs.Common.{◌≡◌, drop}
use Rattle.ob_table_spec.specs.Names.{number_of}
use Rattle.ob_machine_parts.proofs.NamesLemmas.{after}
use Rattle.ob_machine_parts.proofs.seen.place_of_name.Given as goal

abbrev pub invariant-loop-place : goal.invariant-loop-place
invariant-loop-place l = number_of l.name l.names ≡ after l.place (number_of l.name (drop l.place l.names))

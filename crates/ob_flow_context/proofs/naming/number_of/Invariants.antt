use Rattle.std.proofs.Common.{◌≡◌, drop}
use Rattle.ob_table_spec.specs.Names.{number_of}
use Rattle.ob_flow_context.proofs.NamingLemmas.{after}
use Rattle.ob_flow_context.proofs.naming.number_of.Given as goal

abbrev pub invariant-loop-i : goal.invariant-loop-i
invariant-loop-i l = number_of l.name l.names ≡ after l.i (number_of l.name (drop l.i l.names))

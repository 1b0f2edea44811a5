use Rattle.std.proofs.Common.{◌≡◌}
use Rattle.ob_perm.specs.Naming.{seen}
use Rattle.ob_perm.specs.Masks.{states_of}
use Rattle.ob_perm.proofs.NamingLemmas.{below_called}
use Rattle.ob_perm.proofs.naming.states_for_interface.Given as goal

abbrev pub invariant-loop-number : goal.invariant-loop-number
invariant-loop-number l = states_of l.said ≡ below_called l.number (seen l.names) (states_of l.states)

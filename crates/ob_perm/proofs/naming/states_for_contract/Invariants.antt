use Rattle.std.proofs.Common.{◌≡◌}
use Rattle.ob_perm.specs.States.{preimage}
use Rattle.ob_perm.specs.Naming.{seen}
use Rattle.ob_perm.specs.Masks.{states_of}
use Rattle.ob_perm.proofs.NamingLemmas.{below_passing}
use Rattle.ob_perm.proofs.naming.states_for_contract.Given as goal

abbrev pub invariant-loop-number : goal.invariant-loop-number
invariant-loop-number l =
    states_of l.said ≡ below_passing l.number (preimage (seen l.names) (states_of l.states))

use Rattle.std.proofs.Common.{◌≡◌, ◌++◌, take}
use Rattle.ob_generic_spec.specs.Substitution.{printed_more}
use Rattle.ob_generic_names.proofs.printing.put_more.Given as goal

abbrev pub invariant-loop-state : goal.invariant-loop-state
invariant-loop-state l = l.out ≡ l.fn.out ++ printed_more (take l.state-index l.states)

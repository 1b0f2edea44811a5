use Rattle.std.proofs.Common.{◌≡◌}
use Rattle.ob_silica.specs.Terms.{then_terms}
use Rattle.ob_lower_spec.specs.Forms.{drops}
use Rattle.ob_lower_functions.specs.StatementCode.{slots_between}
use Rattle.ob_lower_parts.proofs.drops.drop_locals.Given as goal

abbrev pub invariant-loop-slot : goal.invariant-loop-slot
invariant-loop-slot l =
    then_terms l.out (drops (slots_between l.low l.slot) l.span)
    ≡ then_terms l.fn.out (drops (slots_between l.low l.high) l.span)

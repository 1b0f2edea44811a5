use Rattle.std.proofs.Common.{◌≡◌, drop}
use Rattle.ob_silica.specs.Terms.{then_terms}
use Rattle.ob_lower_spec.specs.Forms.{drops}
use Rattle.ob_lower_parts.proofs.code.Code.put_drops.Given as goal

abbrev pub invariant-loop-slot : goal.invariant-loop-slot
invariant-loop-slot l =
    then_terms l.self (drops (drop l.slot-index l.slots) l.span) ≡ then_terms l.fn.self (drops l.slots l.span)

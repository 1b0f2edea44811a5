use Rattle.std.proofs.Common.{◌≡◌, drop}
use Rattle.std.specs.List.{list_all}
use Rattle.ob_verify_spec.specs.Instructions.{meets, needs_of_given}
use Rattle.ob_verify_spec.specs.Passing.{held_at}
use Rattle.ob_verify.proofs.needs.holds_given.Given as goal

abbrev pub invariant-loop-i : goal.invariant-loop-i
invariant-loop-i l =
    list_all (meets l.frame.image (held_at l.row)) (needs_of_given l.frame l.given) ≡ list_all (meets l.frame.image (held_at l.row)) (needs_of_given l.frame (drop l.i l.given))

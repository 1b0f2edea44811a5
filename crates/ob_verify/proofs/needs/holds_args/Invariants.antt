use Rattle.std.proofs.Common.{◌≡◌, drop}
use Rattle.std.specs.List.{list_all}
use Rattle.ob_verify_spec.specs.Instructions.{meets}
use Rattle.ob_verify_spec.specs.Passing.{held_at}
use Rattle.ob_verify.proofs.ListLoops.{needs_with}
use Rattle.ob_verify.proofs.needs.holds_args.Given as goal

abbrev pub invariant-loop-i : goal.invariant-loop-i
invariant-loop-i l =
    list_all (meets l.image (held_at l.row)) (needs_with l.args l.params) ≡ list_all (meets l.image (held_at l.row)) (needs_with (drop l.i l.args) (drop l.i l.params))

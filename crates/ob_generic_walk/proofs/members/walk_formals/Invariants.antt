use Rattle.std.proofs.Common.{◌≡◌, drop, map}
use Rattle.std.specs.List.{flat_map}
use Rattle.ob_tree.specs.MembersView.{formal_of}
use Rattle.ob_generic_spec.specs.Uses.{types_in_formal}
use Rattle.ob_generic_walk.specs.Seen.{met}
use Rattle.ob_generic_walk.proofs.members.walk_formals.Given as goal

abbrev pub invariant-loop-formal : goal.invariant-loop-formal
invariant-loop-formal l =
    met l.around l.found (flat_map types_in_formal (map formal_of (drop l.formal-index l.formals)))
    ≡ met l.around l.fn.found (flat_map types_in_formal (map formal_of l.formals))

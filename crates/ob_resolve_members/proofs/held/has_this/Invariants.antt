use Rattle.std.proofs.Common.{◌≡◌, map, drop}
use Rattle.std.specs.List.{list_any}
use Rattle.ob_tree.specs.MembersView.{formal_of}
use Rattle.ob_resolve_spec.specs.Interfaces.{is_this}
use Rattle.ob_resolve_members.proofs.held.has_this.Given as goal

abbrev pub invariant-loop-formal : goal.invariant-loop-formal
invariant-loop-formal l =
    list_any is_this (map formal_of (drop l.formal-index l.formals)) ≡ list_any is_this (map formal_of l.formals)

use Rattle.std.proofs.Common.{◌≡◌, drop}
use Rattle.std.specs.List.{list_all}
use Rattle.ob_resolve_members.specs.Written.{is_kept}
use Rattle.ob_resolve_members.proofs.permissions.are_kept.Given as goal

abbrev pub invariant-loop-state : goal.invariant-loop-state
invariant-loop-state l =
    list_all (is_kept l.own l.others) (drop l.state-index l.states) ≡ list_all (is_kept l.own l.others) l.states

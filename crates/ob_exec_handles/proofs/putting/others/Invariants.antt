use Rattle.std.proofs.Common.{◌≡◌, ◌++◌, drop}
use Rattle.ob_exec_handles.specs.Putting.{changes_by, other_puts}
use Rattle.ob_exec_handles.proofs.putting.others.Given as goal

-- the changes so far and those of the rest are all
abbrev pub invariant-loop-put : goal.invariant-loop-put
invariant-loop-put l =
    l.changes ++ changes_by (other_puts l.base.handles (drop l.put-index l.puts)) ≡ changes_by (other_puts l.base.handles l.puts)

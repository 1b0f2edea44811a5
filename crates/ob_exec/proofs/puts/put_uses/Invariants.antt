use Rattle.std.proofs.Common.{map, flat_map, take}
use Rattle.ob_heap.specs.Contents.{named_of}
use Rattle.ob_invocation_spec.specs.Entering.{put_after_use}
use Rattle.ob_exec_entries.specs.Entering.{use_of}
use Rattle.ob_exec.specs.Putting.{LeaveTheSame}
use Rattle.ob_exec.proofs.puts.put_uses.Given as goal

abbrev pub invariant-loop-used : goal.invariant-loop-used
invariant-loop-used l = LeaveTheSame l.content l.overlay (flat_map put_after_use (map (use_of l.who) (take l.used-index l.uses))) (map named_of l.puts)

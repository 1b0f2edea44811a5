use Rattle.std.proofs.Common.{◌≡◌, ◌++◌, map, length, drop}
use Rattle.ob_heap.specs.Contents.{content_of}
use Rattle.ob_exec_entries.specs.Arguments.{uses_of}
use Rattle.ob_exec_entries.specs.Entering.{use_of}
use Rattle.ob_exec_entries.proofs.arguments.uses_of.Given as goal

abbrev pub invariant-loop-param : goal.invariant-loop-param
invariant-loop-param l =
    map (use_of l.who) l.uses ++ uses_of (content_of l.content) l.who (drop (length l.yielded) l.params) (drop (length l.yielded) l.args)
    ≡ uses_of (content_of l.content) l.who l.params l.args

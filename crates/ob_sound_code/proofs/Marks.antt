-- Handles that are put mark alike in two worlds that are the same but for the order of reads.
use Rattle.std.proofs.Common.{Bool, true, false, List, [], ◌∷◌}
use Rattle.std.specs.Prelude.{if◌then◌else◌}
use Rattle.ob_heap_spec.specs.Worlds.{World, SameWorld}
use Rattle.ob_heap_spec.specs.Marks.{mark_shared}
use Rattle.ob_heap_spec.specs.Handles.{NamedHandle}
use Rattle.ob_rest_spec.specs.Modes.{is_shared}
use Rattle.ob_invocation_spec.specs.Handles.{mark_put, mark_puts}
use Rattle.ob_emit_correct.proofs.Worlds.{same_shared}

marked_if : (b : Bool) (h : NamedHandle) (w v : World) → SameWorld w v
    → SameWorld (if b then mark_shared h.1.object w else w) (if b then mark_shared h.1.object v else v)
marked_if true h w v s = same_shared h.1.object s
marked_if false h w v s = s

pub puts_same : (puts : List NamedHandle) (w v : World) → SameWorld w v → SameWorld (mark_puts w puts) (mark_puts v puts)
puts_same [] w v s = s
puts_same (h ∷ puts) w v s = puts_same puts (mark_put w h) (mark_put v h) (marked_if (is_shared h.1.mode) h w v s)

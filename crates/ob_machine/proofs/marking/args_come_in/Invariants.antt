use Rattle.std.proofs.Common.{drop, length, map}
use Rattle.ob_heap.specs.Overlays.{KeepsUnread, no_object}
use Rattle.ob_heap.specs.Plain.{value_of}
use Rattle.ob_heap_spec.specs.Worlds.{World, SameWorld}
use Rattle.ob_machine_steps.specs.Entries.{args_come_in}
use Rattle.ob_machine.specs.Shown.{world_of}
use Rattle.ob_machine.specs.declared.run.Run.{Run}
use Rattle.ob_machine.proofs.marking.args_come_in.Given as goal

abbrev pub invariant-loop-param : goal.invariant-loop-param
invariant-loop-param l = record {
  world : (m : Run) (v : World)
      → SameWorld (args_come_in (drop (length l.yielded) l.params) (map value_of (drop (length l.yielded) l.args)) (world_of m l.base.objects l.overlay)) v
      → SameWorld (args_come_in l.params (map value_of l.args) (world_of m l.base.objects l.fn.overlay)) v;
  unread : KeepsUnread no_object l.fn.overlay l.overlay;
}

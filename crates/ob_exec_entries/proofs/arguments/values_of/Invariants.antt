use Rattle.std.proofs.Common.{◌≡◌, map, take}
use Rattle.std.specs.Prelude.{filter_map}
use Rattle.ob_heap.specs.Contents.{content_of}
use Rattle.ob_heap.specs.Plain.{value_of as plain_value}
use Rattle.ob_invocation_spec.specs.Entries.{value_of}
use Rattle.ob_wire.specs.Meanings.{argument_meant}
use Rattle.ob_exec_entries.proofs.arguments.values_of.Given as goal

abbrev pub invariant-loop-arg : goal.invariant-loop-arg
invariant-loop-arg l =
    map plain_value l.values ≡ filter_map (value_of (content_of l.content) l.who) (map argument_meant (take l.arg-index l.args))

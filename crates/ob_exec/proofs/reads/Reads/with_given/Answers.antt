use Rattle.std.proofs.Common.{◌++◌, length, map}
use Rattle.std.specs.Prelude.{option_map}
use Rattle.ob_heap.specs.Plain.{value_of}
use Rattle.ob_heap_spec.specs.Worlds.{object_item}
use Rattle.ob_machine_parts.specs.Shown.{next_read}
use Rattle.ob_exec_handles.specs.Spending.{item_of}
use Rattle.ob_exec_handles.proofs.SpendingLemmas.{all_on}
use Rattle.ob_exec.specs.Reading.{given_read}
use Rattle.ob_exec.proofs.NotedLemmas.{more_by}
use Rattle.ob_exec.proofs.reads.Reads.with_given.Goals as goal

pub invariant_of-result : goal.invariant_of-result
invariant_of-result c =
    let xs = map item_of c.self.inside.items in
    let ys = map item_of c.read_put.new.reads in
    all_on (next_read c.self.inside.next ++ map object_item c.self.inside.numbers) xs ys c.self.invariant
    (more_by xs ys (given_read (length c.args.content.now.objects) c.args.into.now c.args.given (option_map value_of c.args.value.now)) c.in_ok-read_put.ensures)

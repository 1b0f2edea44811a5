use Rattle.std.proofs.Common.{◌≡◌, drop}
use Rattle.ob_heap.specs.Plain.{fields_of}
use Rattle.ob_machine_steps.specs.Changing.{given_values}
use Rattle.ob_machine_parts.specs.Shown.{slots_of}
use Rattle.ob_machine_parts.proofs.fields.with_given.Given as goal

abbrev pub invariant-loop-field : goal.invariant-loop-field
invariant-loop-field l = given_values (slots_of l.slots) (drop l.field-index l.given) (fields_of l.filled) ≡ given_values (slots_of l.slots) l.given (fields_of l.fn.fields)
